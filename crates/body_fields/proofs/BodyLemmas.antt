-- What the calls on whole bodies answer.
use Rattle.std.proofs.Common.{◌≡◌, refl, ℕ, suc, ◌<◌, List, [], ◌∷◌, get_or, true, false, Option, Some, None, Result, Ok, Err, ap}
use Rattle.std.specs.Prelude.{is_some, IfSome, IfOk, option_map}
use Rattle.std.proofs.lemmas.Bool.{both_ways}
use Rattle.body_fields.specs.Outcomes.{Gives}
use Rattle.body_fields.specs.Reading.{Read, whole_body, reader, body_of}
use Rattle.body_fields.specs.Spelling.{AreOctets}
use Rattle.body_fields.specs.declared.fault.BodyFault.{BodyFault}

-- what a call answers is what the table gives
pub read_is : {A : Type 0} (table : List (ℕ × (List ℕ → Read A))) (subtype : ℕ) (octets : List ℕ) (result : Result A BodyFault)
    → is_some (reader table subtype) ≡ true
    → IfSome (body_of table subtype octets) (λ given. Gives (λ x. x) result given)
    → IfOk result (λ x. body_of table subtype octets ≡ Some (Ok x))
read_is {A} table subtype octets result known gives = go (reader table subtype) result known gives
  where
    go : (o : Option (List ℕ → Read A)) (r : Result A BodyFault) → is_some o ≡ true
        → IfSome (option_map (λ read. whole_body (read octets)) o) (λ given. Gives (λ x. x) r given)
        → IfOk r (λ x. option_map (λ read. whole_body (read octets)) o ≡ Some (Ok x))
    go None r e g = absurd (both_ways false refl e)
    go (Some read) (Err fault) e g = tt
    go (Some read) (Ok x) e g = ap (λ w. Some w) g

-- octets that are each below 256
pub octets_below : (octets : List ℕ) → ((i : ℕ) → get_or octets i 0 < 256) → AreOctets octets
octets_below [] below = tt
octets_below (o ∷ octets) below = (below 0, octets_below octets (λ i. below (suc i)))
