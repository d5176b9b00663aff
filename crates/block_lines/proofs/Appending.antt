-- What stays in front where a writer fails after others.
use Rattle.std.proofs.Common.{◌≡◌, ℕ, List, ◌++◌, length, take, drop, Result, Ok, Err, sym, ap, ◌∙◌, append_assoc}
use Rattle.std.specs.Result.{IsErr}
use Rattle.std.proofs.lemmas.Bool.{false≢true}
use Rattle.std.proofs.lemmas.List.{take-append-drop}
use Rattle.std.proofs.Math.Seq.{take-append_seam}
use Rattle.body_fields.specs.Outcomes.{Appends}

-- what was in front of the octets that were kept is in front still
pub kept_in_front : (old more mid new : List ℕ) → mid ≡ old ++ more → take (length mid) new ≡ mid → take (length old) new ≡ old
kept_in_front old more mid new e h =
    let rest : List ℕ = drop (length mid) new in
    ap (take (length old))
    (sym (take-append-drop (length mid) new) ∙ ap (λ xs. xs ++ rest) (h ∙ e) ∙ append_assoc old more rest)
    ∙ take-append_seam old (more ++ rest)

-- a writer that fails after others keeps what was there before them
pub fails_after : {X E : Type 0} (r : Result X E) (old more mid new octets : List ℕ) → IsErr r → mid ≡ old ++ more → take (length mid) new ≡ mid
    → Appends old r new octets
fails_after (Ok x) old more mid new octets failed e h = absurd (false≢true failed)
fails_after (Err fault) old more mid new octets failed e h = kept_in_front old more mid new e h

-- what comes behind the line of three parts
pub line_then : (old a b c rest mid new : List ℕ) → mid ≡ old ++ (a ++ (b ++ c)) → new ≡ mid ++ rest → new ≡ old ++ (a ++ (b ++ (c ++ rest)))
line_then old a b c rest mid new e h =
    h
    ∙ (ap (λ xs. xs ++ rest) e
    ∙ (append_assoc old (a ++ (b ++ c)) rest
    ∙ ap (λ xs. old ++ xs) (append_assoc a (b ++ c) rest ∙ ap (λ xs. a ++ xs) (append_assoc b c rest))))
