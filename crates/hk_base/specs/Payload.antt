-- Where the samples of a parameter report were taken, and how they stand in its payload.
use Rattle.std.specs.Prelude.{◌≡◌, ℕ, zero, suc, ◌+◌, ◌-◌, ◌*◌, ◌/◌, ◌≤◌, ⊤, List, [], ◌∷◌, ◌++◌, length, take, drop, map, zip, replicate, flat_map, filter_map, find, sum_by, position, ℤ, Bool, true, false, not, ◌==◌, Option, Some, None, Result, Ok, Err, if◌then◌else◌}
use Rattle.std.specs.List.{list_any}
use Rattle.std.specs.Option.{option_map_or, option_or, option_map}
use Rattle.hk_base.specs.Fields.{digits}
use Rattle.hk_base.specs.Parameters.{parameter, fits, value_bits, bits_value}
use Rattle.hk_base.specs.Definitions.{IsWellFormed}
use Rattle.hk_base.specs.TailoringParts.{TailoringParts}
use Rattle.hk_base.specs.declared.types.Param.{Param}
use Rattle.hk_base.specs.declared.types.Place.{Place}
use Rattle.hk_base.specs.declared.types.Definition.{Definition}
use Rattle.hk_base.specs.declared.types.SuperList.{SuperList}
use Rattle.hk_base.specs.declared.types.PayloadFault.{PayloadFault}
use Rattle.hk_base.specs.declared.types.PayloadFault.TheVariants.{WrongSize, WrongValue, Padding}

-- parameters that are sampled together, and how many slots before the last one
pub record Group : Type 0 where
  pub lag : ℕ
  pub params : List ℕ

-- the repetitions of an array, so many of them, the oldest first; between two lie so many slots
abbrev pub repetitions : List ℕ → ℕ → ℕ → List Group
repetitions params spacing zero = []
repetitions params spacing (suc later) = record { lag = later * spacing; params = params } ∷ repetitions params spacing later

-- the simple parameters, where there are any
abbrev pub simple_group : List ℕ → List Group
simple_group [] = []
simple_group (id ∷ ids) = record { lag = 0; params = id ∷ ids } ∷ []

-- the groups of a definition, in the order of its payload
abbrev pub groups : Definition → List Group
groups d = simple_group d.simple ++ flat_map (λ a. repetitions a.params (d.interval / a.repetition) a.repetition) d.arrays

-- where a report with this last slot has its samples from, in the order of its payload
abbrev pub places : Definition → ℕ → List Place
places d last = flat_map (λ g. map (λ id. record { param = id; slot = last - g.lag }) g.params) (groups d)

-- the bits of the parameters with these IDs together, and the octets that hold them
abbrev pub ids_bits : List Param → List ℕ → ℕ
ids_bits params ids = sum_by (λ p. p.bits) (filter_map (λ id. find (λ p. p.id == id) params) ids)

-- the octets of a group of parameters
abbrev pub ids_octets : List Param → List ℕ → ℕ
ids_octets params ids = (ids_bits params ids + 7) / 8

-- the octets of all repetitions of some arrays
abbrev pub arrays_octets : List Param → List SuperList → ℕ
arrays_octets params arrays = sum_by (λ a. a.repetition * ids_octets params a.params) arrays

-- the parameters of a group
abbrev pub group_params : TailoringParts → Group → List Param
group_params t g = filter_map (parameter t) g.params

-- the octets that a group needs
abbrev pub group_octets : TailoringParts → Group → ℕ
group_octets t g = (sum_by (λ p. p.bits) (group_params t g) + 7) / 8

-- the octets of a payload
abbrev pub payload_size : TailoringParts → Definition → ℕ
payload_size t d = sum_by (group_octets t) (groups d)

-- values one after the other, each in its parameter's bits
abbrev pub values_bits : List Param → List ℤ → List ℕ
values_bits [] values = []
values_bits (p ∷ ps) [] = []
values_bits (p ∷ ps) (v ∷ vs) = value_bits p v ++ values_bits ps vs

-- bits, and zeros up to so many whole octets
abbrev pub padded_bits : ℕ → List ℕ → List ℕ
padded_bits octets bits = bits ++ replicate (8 * octets - length bits) 0

-- the bits of a payload: group by group the values, and then zeros to whole octets
abbrev pub payload_bits : TailoringParts → List Group → List ℤ → List ℕ
payload_bits t [] values = []
payload_bits t (g ∷ gs) values =
    padded_bits (group_octets t g) (values_bits (group_params t g) (take (length g.params) values)) ++ payload_bits t gs (drop (length g.params) values)

-- the bits of octets
abbrev pub bits_of : List ℕ → List ℕ
bits_of octets = flat_map (digits 2 8) octets

-- each value fits its parameter
abbrev pub AllFit : TailoringParts → List Place → List ℤ → Type 0
AllFit t [] [] = ⊤
AllFit t (place ∷ ps) (v ∷ vs) = (option_map_or (λ p. fits p v) (parameter t place.param) false ≡ true) × AllFit t ps vs
AllFit t [] (v ∷ vs) = ⊥
AllFit t (place ∷ ps) [] = ⊥

-- octets are the payload of these values, one for each place in order
pub record IsPayload (t : TailoringParts) (d : Definition) (values : List ℤ) (octets : List ℕ) : Type 0 where
  pub fit : AllFit t (places d d.interval) values
  pub bits : bits_of octets ≡ payload_bits t (groups d) values

-- the values that bits stand for, each in its parameter's bits
abbrev pub bits_values : List Param → List ℕ → List ℤ
bits_values [] bits = []
bits_values (p ∷ ps) bits = bits_value p (take p.bits bits) ∷ bits_values ps (drop p.bits bits)

-- the values of a payload by its bits
abbrev pub payload_values : TailoringParts → List Group → List ℕ → List ℤ
payload_values t [] bits = []
payload_values t (g ∷ gs) bits = bits_values (group_params t g) bits ++ payload_values t gs (drop (8 * group_octets t g) bits)

-- the first value that doesn't fit its parameter, by its number
abbrev pub misfit : List Param → List ℤ → Option ℕ
misfit params values = position (λ (p, v). not (fits p v)) (zip params values)

-- whether a bit after the values of a group is 1
abbrev pub is_dirty : List Param → ℕ → List ℕ → Bool
is_dirty params octets bits = list_any (λ bit. bit == 1) (drop (sum_by (λ p. p.bits) params) (take (8 * octets) bits))

-- the fault of a group with this number, whose first place has this number
abbrev pub group_fault : TailoringParts → Group → ℕ → ℕ → List ℕ → Option PayloadFault
group_fault t g place group bits =
    let params = group_params t g in
    option_or (option_map (λ i. WrongValue (place + i)) (misfit params (bits_values params bits)))
    (if is_dirty params (group_octets t g) bits then Some (Padding group) else None)

-- the first fault in the groups from this number on, which begin at this place
abbrev pub groups_fault : TailoringParts → List Group → ℕ → ℕ → List ℕ → Option PayloadFault
groups_fault t [] place group bits = None
groups_fault t (g ∷ gs) place group bits =
    option_or (group_fault t g place group bits)
    (groups_fault t gs (place + length g.params) (suc group) (drop (8 * group_octets t g) bits))

-- the first fault of octets that are to be a payload
abbrev pub payload_fault : TailoringParts → Definition → List ℕ → Option PayloadFault
payload_fault t d octets =
    if payload_size t d == length octets then groups_fault t (groups d) 0 0 (bits_of octets) else Some (WrongSize (payload_size t d) (length octets))

-- the values, unless there is a fault
abbrev pub unless_fault : Option PayloadFault → List ℤ → Result (List ℤ) PayloadFault
unless_fault None values = Ok values
unless_fault (Some fault) values = Err fault

-- what is read from octets that are to be a payload: the values, or the first fault
abbrev pub payload_read : TailoringParts → Definition → List ℕ → Result (List ℤ) PayloadFault
payload_read t d octets = unless_fault (payload_fault t d octets) (payload_values t (groups d) (bits_of octets))

-- a definition that is valid
pub record IsValid (t : TailoringParts) (d : Definition) : Type 0 where
  pub formed : IsWellFormed t d
  pub narrow : payload_size t d ≤ t.widths.max_payload
