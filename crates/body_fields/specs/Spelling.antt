-- Writing the fields of a body. Each value has one spelling, from which the readers read it back.
use Rattle.std.specs.Prelude.{◌≡◌, ℕ, ◌+◌, ◌^◌, ◌<◌, ◌≤◌, List, [], ◌∷◌, ◌++◌, length, flat_map, ℤ, pos, negsuc, Bool, true, false, ⊤, Ok, Option, None, IfSome, IsTrue}
use Rattle.std.specs.List.{AllByRecursion}
use Rattle.std.specs.Option.{option_map_or}
use Rattle.hk_base.specs.TailoringParts.{TailoringParts}
use Rattle.hk_base.specs.Fields.{FitsSignedOctets, octets_of, signed_octets_of}
use Rattle.hk_base.specs.Fit.{IsWithin}
use Rattle.hk_base.specs.Parameters.{parameter, fits}
use Rattle.body_fields.specs.Reading.{Read}
use Rattle.body_fields.specs.declared.fault.BodyFault.{BodyFault}
use Rattle.hk_base.specs.declared.types.Form.{Form}
use Rattle.hk_base.specs.declared.types.Form.TheVariants.{Signed}

-- a reader reads these octets as a value, whatever follows them
abbrev pub Reads : {A : Type 0} → (List ℕ → Read A) → List ℕ → A → Type 0
Reads read octets x = (rest : List ℕ) → read (octets ++ rest) ≡ Ok (x, rest)

-- each member of a list is read from its spelling, with those before it in view, the newest first
abbrev pub AllRead : {A : Type 0} → (List A → List ℕ → Read A) → (A → List ℕ) → List A → List A → Type 0
AllRead member spell earlier [] = ⊤
AllRead member spell earlier (x ∷ xs) = Reads (member earlier) (spell x) x × AllRead member spell (x ∷ earlier) xs

-- no member of a list has a fault among those before it, the newest first
abbrev pub AllStand : {A : Type 0} → (List A → A → Option BodyFault) → List A → List A → Type 0
AllStand fault earlier [] = ⊤
AllStand fault earlier (x ∷ xs) = (fault earlier x ≡ None) × AllStand fault (x ∷ earlier) xs

-- numbers that fit their octets
abbrev pub AllFit : ℕ → List ℕ → Type 0
AllFit octets ns = AllByRecursion (λ n. n < 256 ^ octets) ns

-- a number of members that a count can have
abbrev pub IsCount : TailoringParts → ℕ → ℕ → Type 0
IsCount t least n = (least ≤ n) × (n ≤ 255) × (n < 256 ^ t.widths.count_octets)

-- an interval that a field can have
abbrev pub IsInterval : TailoringParts → ℕ → Type 0
IsInterval t n = IsWithin 1 t.widths.max_interval n × (n < 256 ^ t.widths.interval_octets)

-- a count, and then the members of a list
abbrev pub counted_octets : {A : Type 0} → TailoringParts → (A → List ℕ) → List A → List ℕ
counted_octets t spell xs = octets_of t.widths.count_octets (length xs) ++ flat_map spell xs

-- a structure ID, a parameter ID, an interval and a repetition number
abbrev pub structure_octets : TailoringParts → ℕ → List ℕ
structure_octets t id = octets_of t.widths.structure_octets id

-- a parameter ID
abbrev pub param_octets : TailoringParts → ℕ → List ℕ
param_octets t id = octets_of t.widths.parameter_octets id

-- an interval
abbrev pub interval_octets : TailoringParts → ℕ → List ℕ
interval_octets t n = octets_of t.widths.interval_octets n

-- a status or a flag
abbrev pub flag_octets : Bool → List ℕ
flag_octets true = 1 ∷ []
flag_octets false = 0 ∷ []

-- a time, by its tag
abbrev pub time_octets : TailoringParts → ℕ → List ℕ
time_octets t tag = octets_of (t.widths.coarse + t.widths.fine) tag

-- a value of the parameter with an ID, in its octets
abbrev pub value_octets : TailoringParts → ℕ → ℤ → List ℕ
value_octets t id v = option_map_or (λ p. signed_octets_of p.octets v) (parameter t id) []

-- a mean of the parameter with an ID, in its octets and those of the fraction
abbrev pub mean_octets : TailoringParts → ℕ → ℤ → List ℕ
mean_octets t id v = option_map_or (λ p. signed_octets_of (p.octets + t.widths.mean_fraction) v) (parameter t id) []

-- a value that so many octets can have, in two's complement where the form is signed
abbrev pub IsInOctets : Form → ℕ → ℤ → Type 0
IsInOctets Signed octets v = FitsSignedOctets octets v
IsInOctets _ octets (pos n) = n < 256 ^ octets
IsInOctets _ octets (negsuc n) = ⊥

-- numbers that octets can be
abbrev pub AreOctets : List ℕ → Type 0
AreOctets octets = AllByRecursion (λ octet. octet < 256) octets

-- each member of a list is so among those before it, the newest first
abbrev pub AllAmong : {A : Type 0} → (List A → A → Type 0) → List A → List A → Type 0
AllAmong P earlier [] = ⊤
AllAmong P earlier (x ∷ xs) = P earlier x × AllAmong P (x ∷ earlier) xs

-- a value that the parameter with an ID can have
abbrev pub IsValueOf : TailoringParts → ℕ → ℤ → Type 0
IsValueOf t id v = IfSome (parameter t id) (λ p. IsTrue (fits p v))
