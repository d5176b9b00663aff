-- Octets that are held, before those that the shelf has left.
use Rattle.std.proofs.Common.{◌≡◌, ◌≤◌, ℕ, List, ◌++◌, length, take, drop, Option, Some, None, sym, ap, subst, ◌∙◌, append_assoc}
use Rattle.std.proofs.lemmas.List.{take-append-drop, drop-append-le}
use Rattle.hk_base.specs.Outside.{Reads}
use Rattle.session_record.specs.Reading.{ahead, KeepsAhead}

-- a read moves octets to the end of what is held
pub keeps-read : (held buf : List ℕ) (n : ℕ) (before after : Option (List ℕ)) → Reads before n buf after
    → KeepsAhead (ahead held before) (ahead (held ++ take n buf) after)
keeps-read held buf n None after part = tt
keeps-read held buf n (Some rest) None part = absurd (cc part.1)
keeps-read held buf n (Some rest) (Some left) part =
    ap Some (append_assoc held (take n buf) left
    ∙ ap (λ xs. held ++ xs) (ap (λ xs. xs ++ left) part.0.1 ∙ ap (λ xs. take n rest ++ xs) part.0.2 ∙ take-append-drop n rest))

-- the same, behind octets that were given away
pub keeps-append : (given : ℕ) (octets grown buf : List ℕ) (n : ℕ) (before after : Option (List ℕ)) → given ≤ length octets
    → grown ≡ octets ++ take n buf → Reads before n buf after → KeepsAhead (ahead (drop given octets) before) (ahead (drop given grown) after)
keeps-append given octets grown buf n before after within more part =
    let P : List ℕ → Type 0 = λ held. KeepsAhead (ahead (drop given octets) before) (ahead held after) in
    subst P (sym (ap (drop given) more ∙ drop-append-le given octets (take n buf) within)) (keeps-read (drop given octets) buf n before after part)
