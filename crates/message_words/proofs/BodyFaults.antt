-- A body that can't be read.
use Rattle.std.proofs.Common.{◌≡◌, ℕ, Bool, true, false, List, length, Option, Some, None, Result, Err, refl, ap, subst, sym, ◌∙◌, inl, inr}
use Rattle.std.specs.Prelude.{◌⊎◌, nat_lt, IfSome, if◌then◌else◌}
use Rattle.std.proofs.lemmas.Bool.{false≢true}
use Rattle.body_fields.specs.Outcomes.{Fails}
use Rattle.body_fields.specs.declared.fault.BodyFault.{BodyFault}
use Rattle.body_fields.specs.declared.fault.BodyFault.TheVariants as body
use Rattle.message_words.specs.Outcomes.{Gives, fault_of}
use Rattle.message_words.specs.Reading.{most_octets, sound, sound_body}
use Rattle.message_words.specs.declared.fault.WordsFault.{WordsFault}
use Rattle.message_words.specs.declared.fault.WordsFault.TheVariants.{Form}

abbrev is_memory : BodyFault → Bool
is_memory body.Memory = true
is_memory fault = false

-- memory was wanting, or there is a fault of the body
abbrev Told : BodyFault → Type 0
Told fault = (fault ≡ body.Memory) ⊎ ((¬ (fault ≡ body.Memory)) × (fault_of fault ≡ Form))

told : (fault : BodyFault) → Told fault
told body.Memory = inl refl
told fault = inr ((λ e. false≢true (ap is_memory e)), refl)

faulty : {A : Type 0} (fault : BodyFault) (found : Option (Result A BodyFault)) → (¬ (fault ≡ body.Memory)) → IfSome found (λ given. Fails fault given) → sound found ≡ None
faulty fault None is fails = refl
faulty fault (Some given) is fails = ap (λ g. sound (Some g)) (fails is)

refused_by : {A : Type 0} (read : List ℕ → Option (Result A BodyFault)) (octets : List ℕ) (fault : BodyFault) → Told fault
    → nat_lt most_octets (length octets) ≡ false → IfSome (read octets) (λ given. Fails fault given) → Gives {X = A} (Err (fault_of fault)) (sound_body read octets)
refused_by {A} read octets fault (inl memory) few fails = subst (λ f. Gives {X = A} (Err (fault_of f)) (sound_body read octets)) (sym memory) tt
refused_by {A} read octets fault (inr other) few fails =
    subst (λ w. Gives {X = A} (Err w) (sound_body read octets)) (sym other.1)
    (ap (λ (b : Bool). if b then None else sound (read octets)) few ∙ faulty fault (read octets) other.0 fails)

-- what the fault of a body is answered as
pub refused : {A : Type 0} (read : List ℕ → Option (Result A BodyFault)) (octets : List ℕ) (fault : BodyFault) (r : Result A WordsFault) (e : WordsFault)
    → r ≡ Err e → e ≡ fault_of fault → nat_lt most_octets (length octets) ≡ false → IfSome (read octets) (λ given. Fails fault given) → Gives r (sound_body read octets)
refused {A} read octets fault r e is of few fails =
    subst (λ r. Gives {X = A} r (sound_body read octets)) (sym (is ∙ ap Err of)) (refused_by read octets fault (told fault) few fails)
