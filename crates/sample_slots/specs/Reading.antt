-- Reading a payload from left to right.
use Rattle.std.specs.Prelude.{◌≡◌, ℕ, ◌+◌, ◌*◌, ◌/◌, ◌≤◌, ⊤, List, [], ◌∷◌, ◌++◌, length, take, filter_map, ℤ, Bool, ◌==◌, Result, Ok, Err, is_some, option_map, IsTrue, if◌then◌else◌}
use Rattle.std.specs.List.{list_any, All}
use Rattle.hk_base.specs.TailoringParts.{TailoringParts}
use Rattle.hk_base.specs.Parameters.{parameter, fits, bits_value}
use Rattle.hk_base.specs.Payload.{Group, repetitions, ids_octets, bits_of, bits_values, misfit, unless_fault, groups_fault, payload_values}
use Rattle.hk_base.specs.declared.types.Param.{Param}
use Rattle.hk_base.specs.declared.types.SuperList.{SuperList}
use Rattle.hk_base.specs.declared.types.PayloadFault.{PayloadFault}
use Rattle.hk_base.specs.declared.types.PayloadFault.TheVariants.{WrongSize, WrongValue, Padding, Memory}

-- parameters that the tailoring has
abbrev pub AreKnown : TailoringParts → List ℕ → Type 0
AreKnown t ids = All (λ id. IsTrue (is_some (parameter t id))) ids

-- an array whose parameters are known, and whose numbers are small
pub record IsReadableArray (t : TailoringParts) (a : SuperList) : Type 0 where
  pub known : AreKnown t a.params
  pub few : length a.params ≤ 255
  pub repeated : a.repetition ≤ 4096

-- the groups of an array
abbrev pub array_groups : ℕ → SuperList → List Group
array_groups interval a = repetitions a.params (interval / a.repetition) a.repetition

-- the octets of an array
abbrev pub array_octets : TailoringParts → SuperList → ℕ
array_octets t a = a.repetition * ids_octets t.params a.params

-- the number of groups of simple parameters
abbrev pub simple_count : List ℕ → ℕ
simple_count [] = 0
simple_count (id ∷ ids) = 1

-- whether one of the bits is 1
abbrev pub is_set : List ℕ → Bool
is_set bits = list_any (λ bit. bit == 1) bits

-- the value at the front of the bits, where it fits its parameter; it has this number
abbrev pub value_read : Param → ℕ → List ℕ → Result ℤ PayloadFault
value_read p number bits =
    if fits p (bits_value p (take p.bits bits)) then Ok (bits_value p (take p.bits bits)) else Err (WrongValue number)

-- earlier values, and what is read after them
abbrev pub onto : List ℤ → Result (List ℤ) PayloadFault → Result (List ℤ) PayloadFault
onto earlier (Ok values) = Ok (earlier ++ values)
onto earlier (Err fault) = Err fault

-- earlier values, and those of parameters that are sampled together
abbrev pub values_after : TailoringParts → List ℤ → List ℕ → List ℕ → Result (List ℤ) PayloadFault
values_after t earlier ids bits =
    let params = filter_map (parameter t) ids in
    let values = bits_values params bits in
    onto earlier (unless_fault (option_map (λ i. WrongValue (length earlier + i)) (misfit params values)) values)

-- earlier values, and those of groups, the first of which has this number
abbrev pub groups_after : TailoringParts → List ℤ → ℕ → List Group → List ℕ → Result (List ℤ) PayloadFault
groups_after t earlier number gs bits =
    onto earlier (unless_fault (groups_fault t gs (length earlier) number bits) (payload_values t gs bits))

-- want of memory aside, reading ends with this fault
abbrev pub Fails : {Y : Type 0} → PayloadFault → Result Y PayloadFault → Type 0
Fails Memory read = ⊤
Fails (WrongSize expected found) read = read ≡ Err (WrongSize expected found)
Fails (WrongValue number) read = read ≡ Err (WrongValue number)
Fails (Padding group) read = read ≡ Err (Padding group)

-- what a function gives, seen by a view, is what is read, unless it wants memory
abbrev pub Gives : {X Y : Type 0} → (X → Y) → Result X PayloadFault → Result Y PayloadFault → Type 0
Gives view (Ok x) read = read ≡ Ok (view x)
Gives view (Err fault) read = Fails fault read

-- Reading these groups took old values to new ones, and octets to those behind the groups, whatever groups follow; or
-- it failed as the whole does. The first group has this number, and the one behind the last the next.
abbrev pub GoesOn : {X : Type 0} → (X → List ℕ) → TailoringParts → List ℤ → List ℤ → ℕ → ℕ → List Group → List ℕ → Result X PayloadFault → Type 0
GoesOn view t old new first next gs octets (Ok rest) =
    (more : List Group) → groups_after t old first (gs ++ more) (bits_of octets) ≡ groups_after t new next more (bits_of (view rest))
GoesOn view t old new first next gs octets (Err fault) = (more : List Group) → Fails fault (groups_after t old first (gs ++ more) (bits_of octets))
