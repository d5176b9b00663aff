-- What stands on a sink after one text and then another.
use Rattle.std.proofs.Common.{arith, zero-le, ◌≡◌, ◌+◌, ℕ, List, [], ◌++◌, length, take, Option, Some, None, sym, ap, subst, ◌∙◌, append_assoc, append-nil, length-append}
use Rattle.std.proofs.lemmas.List.{take-append-le}
use Rattle.std.proofs.Math.Seq.{take-append_seam, take-append-add}
use Rattle.session_record.specs.Written.{IsWritten, IsPrefixWritten}

pub written_none : (before : Option (List ℕ)) → IsWritten before [] before
written_none None = tt
written_none (Some b) = ap Some (sym (append-nil b))

pub written_then : (before now after : Option (List ℕ)) (done text : List ℕ) → IsWritten before done now → IsWritten now text after → IsWritten before (done ++ text) after
written_then None now after done text one two = tt
written_then (Some b) None after done text one two = absurd (cc one)
written_then (Some b) (Some n) after done text one two =
    let is : n ≡ b ++ done = cc in
    two ∙ ap Some (ap (λ xs. xs ++ text) is ∙ append_assoc b done text)

pub written_as : (before now : Option (List ℕ)) (done text : List ℕ) → text ≡ done → IsWritten before done now → IsWritten before text now
written_as before now done text is written = subst (λ xs. IsWritten before xs now) (sym is) written

pub prefix_as : (before now : Option (List ℕ)) (done text : List ℕ) → text ≡ done → IsPrefixWritten before done now → IsPrefixWritten before text now
prefix_as before now done text is part = subst (λ xs. IsPrefixWritten before xs now) (sym is) part

-- nothing is a first part of any text
pub prefix_none : (before : Option (List ℕ)) (text : List ℕ) → IsPrefixWritten before text before
prefix_none None text = (0, zero-le, tt)
prefix_none (Some b) text = (0, zero-le, ap Some (sym (append-nil b)))

-- a first part of a text is one of more
pub prefix_part : (before after : Option (List ℕ)) (text more : List ℕ) → IsPrefixWritten before text after → IsPrefixWritten before (text ++ more) after
prefix_part None after text more part = (0, zero-le, tt)
prefix_part (Some b) after text more part =
    let size = length-append text more in
    (part.0, omega (arith, size, part.1), part.2 ∙ ap (λ xs. Some (b ++ xs)) (sym (take-append-le part.0 text more part.1)))

-- all of a text is a first part of more
pub prefix_whole : (before after : Option (List ℕ)) (text more : List ℕ) → IsWritten before text after → IsPrefixWritten before (text ++ more) after
prefix_whole None after text more written = (0, zero-le, tt)
prefix_whole (Some b) after text more written =
    let size = length-append text more in
    (length text, omega (arith, size), written ∙ ap (λ xs. Some (b ++ xs)) (sym (take-append_seam text more)))

-- so much of a text behind what was written is a first part of both
pub prefix_behind : (before now after : Option (List ℕ)) (done text : List ℕ) → IsWritten before done now → IsPrefixWritten now text after → IsPrefixWritten before (done ++ text) after
prefix_behind None now after done text written part = (0, zero-le, tt)
prefix_behind (Some b) None after done text written part = absurd (cc written)
prefix_behind (Some b) (Some n) after done text written part =
    let count = part.0 in
    let at : n ≡ b ++ done = cc in
    let size = length-append done text in (
      length done + count,
      omega (arith, size, part.1),
      part.2 ∙ ap Some (ap (λ xs. xs ++ take count text) at ∙ append_assoc b done (take count text) ∙ ap (λ xs. b ++ xs) (sym (take-append-add done text count))),
    )
