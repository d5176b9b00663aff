-- Lists of parameter IDs, and the values that stand after an ID.
use Rattle.std.proofs.Common.{◌≡◌, refl, sym, ap, subst, ◌∙◌, ℕ, ◌^◌, ◌<◌, List, [], ◌∷◌, length, map, Bool, true, false, Option, Some, None, Ok, Err, ℤ}
use Rattle.std.specs.Prelude.{not, IfSome, IsTrue, IsSome, is_some}
use Rattle.std.specs.List.{AllByRecursion}
use Rattle.std.specs.Option.{option_map_or}
use Rattle.hk_base.specs.TailoringParts.{TailoringParts}
use Rattle.hk_base.specs.Fields.{signed_octets_of}
use Rattle.hk_base.specs.Parameters.{parameter, fits}
use Rattle.hk_base.specs.Fit.{IsFit}
use Rattle.body_fields.specs.Reading.{Read, then_read, with_check, fault_if, octets_field, uint, param_fault, form_number, value_field, value_of_field}
use Rattle.body_fields.specs.Spelling.{Reads, AllRead, AllStand, AllAmong, AreOctets, IsValueOf, param_octets, value_octets}
use Rattle.hk_base.specs.declared.types.Param.{Param}
use Rattle.body_fields.specs.declared.fault.BodyFault.{BodyFault}
use Rattle.body_fields.specs.declared.fault.BodyFault.TheVariants.{WrongValue, UnknownParam}
use Rattle.body_fields.proofs.ReadingLemmas.{reads-check, reads-uint}
use Rattle.body_fields.proofs.ValueLemmas.{reads-value}
use Rattle.body_fields.proofs.FitLemmas.{fits-in_octets, parameter-fit, param_known}
use Rattle.body_fields.proofs.TakingLemmas.{Took, IsSpelled, took-map, took-check, took-weaken, took-octets, took-uint, value-spelled, no_fault}

-- an ID of which a check finds no fault
abbrev pub id_field : TailoringParts → (List ℕ → ℕ → Option BodyFault) → List ℕ → List ℕ → Read ℕ
id_field t fault earlier octets = with_check (fault earlier) (uint t.widths.parameter_octets octets)

-- IDs that stand are read from their spelling
pub reads-ids : (t : TailoringParts) (fault : List ℕ → ℕ → Option BodyFault) (earlier ids : List ℕ)
    → ((before : List ℕ) (id : ℕ) → fault before id ≡ None → id < 256 ^ t.widths.parameter_octets)
    → AllStand fault earlier ids
    → AllRead (id_field t fault) (param_octets t) earlier ids
reads-ids t fault earlier [] room stand = tt
reads-ids t fault earlier (id ∷ ids) room stand = (
  reads-check (fault earlier) (uint t.widths.parameter_octets) (param_octets t id) id (reads-uint t.widths.parameter_octets id (room earlier id stand.0)) stand.0,
  reads-ids t fault (id ∷ earlier) ids room stand.1,
)

-- an ID that was read stands, and stood in its spelling
pub took-id : (t : TailoringParts) (fault : List ℕ → ℕ → Option BodyFault) (earlier octets : List ℕ) → AreOctets octets
    → Took (λ id text. (text ≡ param_octets t id) × (fault earlier id ≡ None)) octets (id_field t fault earlier octets)
took-id t fault earlier octets are =
    took-weaken (λ id text. IsSpelled t.widths.parameter_octets id text × (fault earlier id ≡ None)) (λ id text. (text ≡ param_octets t id) × (fault earlier id ≡ None))
    octets (id_field t fault earlier octets)
    (took-check (IsSpelled t.widths.parameter_octets) (fault earlier) octets (uint t.widths.parameter_octets octets) (took-uint t.widths.parameter_octets octets are))
    (λ id text h. (h.0.0, h.1))

-- members that stand among those before them do so by their IDs
pub all_stand : {A : Type 0} (fault : List ℕ → ℕ → Option BodyFault) (id : A → ℕ) (P : List A → A → Type 0) (earlier xs : List A)
    → ((before : List A) (x : A) → P before x → fault (map id before) (id x) ≡ None)
    → AllAmong P earlier xs → AllStand fault (map id earlier) (map id xs)
all_stand fault id P earlier [] f all = tt
all_stand fault id P earlier (x ∷ xs) f all = (f earlier x all.0, all_stand fault id P (x ∷ earlier) xs f all.1)

-- IDs that stand, one by one
pub ids_stand : (fault : List ℕ → ℕ → Option BodyFault) (earlier ids : List ℕ) → AllAmong (λ before id. fault before id ≡ None) earlier ids → AllStand fault earlier ids
ids_stand fault earlier [] all = tt
ids_stand fault earlier (id ∷ ids) all = (all.0, ids_stand fault (id ∷ earlier) ids all.1)

-- what a parameter can have fits it
pub known_fits : (o : Option Param) (p : Param) (v : ℤ) → o ≡ Some p → IfSome o (λ q. IsTrue (fits q v)) → fits p v ≡ true
known_fits o p v e is = subst (λ x. IfSome x (λ q. IsTrue (fits q v))) e is

-- a value that its parameter can have is read from its spelling
pub reads-value_of : (t : TailoringParts) (id : ℕ) (v : ℤ) (p : Param) → IsFit t → parameter t id ≡ Some p → IsValueOf t id v
    → Reads (value_of_field t id) (value_octets t id v) v
reads-value_of t id v p fit e is rest =
    let fitting : fits p v ≡ true = known_fits (parameter t id) p v e is in
    let shape = (parameter-fit t id p fit e).0.shape in
    rw (e) (reads-value p v fitting (fits-in_octets p v shape fitting) rest)

not_true : (b : Bool) → not b ≡ false → b ≡ true
not_true true e = refl
not_true false e = sym e

-- a value of a parameter that was read fits, and stood in its spelling
took-value : (p : Param) (octets : List ℕ) → AreOctets octets
    → Took (λ v text. (text ≡ signed_octets_of p.octets v) × (fits p v ≡ true)) octets (value_field p octets)
took-value p octets are =
    took-weaken (λ v text. (text ≡ signed_octets_of p.octets v) × (fault_if (not (fits p v)) (WrongValue p.id) ≡ None)) (λ v text. (text ≡ signed_octets_of p.octets v) × (fits p v ≡ true))
    octets (value_field p octets)
    (took-check (λ v text. text ≡ signed_octets_of p.octets v) (λ v. fault_if (not (fits p v)) (WrongValue p.id)) octets
    (then_read (octets_field p.octets octets) (λ field rest. Ok (form_number p.form field, rest)))
    (took-map (λ field text. (text ≡ field) × (length field ≡ p.octets) × AreOctets field) (λ v text. text ≡ signed_octets_of p.octets v)
    octets (octets_field p.octets octets) (form_number p.form)
    (took-octets p.octets octets are)
    (λ field text h. h.0 ∙ sym (value-spelled p.form p.octets field h.1 h.2).0)))
    (λ v text h. (h.0, not_true (fits p v) (no_fault (not (fits p v)) (WrongValue p.id) h.1)))

-- the value after an ID that was read fits its parameter, and stood in its spelling
pub took-value_of : (t : TailoringParts) (id : ℕ) (octets : List ℕ) → AreOctets octets
    → Took (λ v text. (text ≡ value_octets t id v) × IsValueOf t id v) octets (value_of_field t id octets)
took-value_of t id octets are = go (parameter t id)
  where
    go : (o : Option Param) → Took (λ v text. (text ≡ option_map_or (λ p. signed_octets_of p.octets v) o []) × IfSome o (λ p. IsTrue (fits p v))) octets
        (option_map_or (λ p. value_field p octets) o (Err (UnknownParam id)))
    go None = tt
    go (Some p) = took-value p octets are

-- IDs that stand are those of known parameters
pub ids_known : (t : TailoringParts) (fault : List ℕ → ℕ → Option BodyFault) (earlier ids : List ℕ)
    → ((before : List ℕ) (id : ℕ) → fault before id ≡ None → param_fault t before id ≡ None)
    → AllStand fault earlier ids → AllByRecursion (λ id. IsSome (parameter t id)) ids
ids_known t fault earlier [] knows stand = tt
ids_known t fault earlier (id ∷ ids) knows stand =
    (ap is_some (param_known t earlier id (knows earlier id stand.0)).1, ids_known t fault (id ∷ earlier) ids knows stand.1)
