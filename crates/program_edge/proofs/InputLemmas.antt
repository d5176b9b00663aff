-- An input that is read piece by piece.
use Rattle.std.proofs.Common.{◌≡◌, ◌+◌, ◌<◌, ◌≤◌, ℕ, List, [], ◌++◌, length, zero-le, take, drop, Option, Some, None, Ok, Err, refl, sym, ap, subst, ◌∙◌, arith, append_assoc}
use Rattle.std.specs.Prelude.{IfSome, IsSome}
use Rattle.std.proofs.lemmas.Bool.{lt-ltb, le-ltb}
use Rattle.std.proofs.lemmas.List.{append-nil, length-append, length-take, take-append-drop}
use Rattle.hk_base.specs.Outside.{Reads}
use Rattle.session_record.specs.Reading.{ahead, KeepsAhead, IsAtEnd}
use Rattle.program_edge.specs.Inputs.{IsWhole, IsReadOut, IsReadOutIfWhole, TakesAtMost}
use Rattle.program_edge.specs.declared.fault.RunFault.{RunFault}

none_told : IsSome {T = List ℕ} None → ⊥
none_told e = cc

-- at the start nothing is held
pub ahead_start : (rest : Option (List ℕ)) → KeepsAhead rest (ahead [] rest)
ahead_start None = tt
ahead_start (Some octets) = refl

-- what was told at the start is told still
pub still_told : (was now : Option (List ℕ)) (held : List ℕ) → KeepsAhead was (ahead held now) → IsSome was → IsSome now
still_told None now held keeps some = absurd (cc some)
still_told (Some octets) None held keeps some = absurd (cc keeps)
still_told (Some octets) (Some left) held keeps some = refl

-- a piece more
pub ahead_more : (was before after : Option (List ℕ)) (held grown : List ℕ) → KeepsAhead was (ahead held before) → KeepsAhead (ahead held before) (ahead grown after)
    → KeepsAhead was (ahead grown after)
ahead_more None before after held grown keeps more = tt
ahead_more (Some octets) before after held grown keeps more = subst (λ o. KeepsAhead o (ahead grown after)) keeps more

all_held : (octets grown : List ℕ) (after : Option (List ℕ)) → ahead grown after ≡ Some octets → after ≡ Some [] → grown ≡ octets
all_held octets grown None keeps end = absurd (cc end)
all_held octets grown (Some left) keeps end =
    let nothing : left ≡ [] = cc in
    let all : grown ++ left ≡ octets = cc in
    sym (append-nil grown) ∙ ap (λ xs. grown ++ xs) (sym nothing) ∙ all

-- a read that gave nothing found the end
pub whole_at_end : (most : ℕ) (found : List ℕ) (count : ℕ) (was before after : Option (List ℕ)) (held grown : List ℕ) → KeepsAhead was (ahead held before)
    → KeepsAhead (ahead held before) (ahead grown after) → IsAtEnd count before after → count ≡ 0 → length grown ≡ length held + count → length held ≤ most
    → found ≡ grown → IfSome was (λ octets. IsWhole most octets (Ok (Some found)))
whole_at_end most found count None before after held grown keeps more end none size within is = tt
whole_at_end most found count (Some octets) None after held grown keeps more end none size within is = absurd (cc keeps)
whole_at_end most found count (Some octets) (Some rest) after held grown keeps more end none size within is =
    let all = all_held octets grown after (more ∙ keeps) (end none) in
    let long : length octets ≤ most = subst (λ n. n ≤ most) (sym (omega (arith, size, none)) ∙ ap length all) within in
    (is ∙ all, le-ltb most (length octets) long)

-- more octets came than there may be
pub too_long : (most : ℕ) (was now : Option (List ℕ)) (held : List ℕ) → KeepsAhead was (ahead held now) → most < length held
    → IfSome was (λ octets. IsWhole most octets (Ok None))
too_long most None now held keeps above = tt
too_long most (Some octets) None held keeps above = absurd (cc keeps)
too_long most (Some octets) (Some left) held keeps above =
    let all : held ++ left ≡ octets = cc in
    let size = ap length (sym all) ∙ length-append held left in
    lt-ltb most (length octets) (omega (arith, size, above))

-- the octets that are held were given
pub held_taken : (most : ℕ) (was now : Option (List ℕ)) (held : List ℕ) → KeepsAhead was (ahead held now) → length held ≤ most → TakesAtMost most was now
held_taken most None now held keeps few = tt
held_taken most (Some octets) None held keeps few = absurd (cc keeps)
held_taken most (Some octets) (Some left) held keeps few =
    let all : held ++ left ≡ octets = cc in
    ((held, sym all, few), refl)

-- more octets were given behind those that are held
pub more_taken : (most more : ℕ) (was mid now : Option (List ℕ)) (held : List ℕ) → KeepsAhead was (ahead held mid) → TakesAtMost more mid now → length held + more ≤ most
    → TakesAtMost most was now
more_taken most more None mid now held keeps taken few = tt
more_taken most more (Some octets) None now held keeps taken few = absurd (cc keeps)
more_taken most more (Some octets) (Some rest) None held keeps taken few = absurd (none_told taken.1)
more_taken most more (Some octets) (Some rest) (Some left) held keeps taken few =
    let given = taken.0.0 in
    let all : held ++ rest ≡ octets = cc in
    let size = length-append held given in
    let within = taken.0.2 in
    ((held ++ given, sym all ∙ ap (λ xs. held ++ xs) taken.0.1 ∙ sym (append_assoc held given left), omega (arith, size, within, few)), refl)

-- nothing was taken
pub none_taken : (most : ℕ) (rest now : Option (List ℕ)) → now ≡ rest → TakesAtMost most rest now
none_taken most rest now is = subst (λ o. TakesAtMost most rest o) (sym is) (still rest)
  where
    still : (r : Option (List ℕ)) → TakesAtMost most r r
    still None = tt
    still (Some was) = (([], refl, zero-le), refl)

-- a read takes at most the buffer's octets
pub read_taken : (before after : Option (List ℕ)) (buf : List ℕ) (n most : ℕ) → Reads before n buf after → n ≤ most → TakesAtMost most before after
read_taken None after buf n most part few = tt
read_taken (Some rest) None buf n most part few = absurd (none_told part.1)
read_taken (Some rest) (Some left) buf n most part few =
    let size = length-take n rest in
    ((take n rest, sym (ap (λ xs. take n rest ++ xs) part.0.2 ∙ take-append-drop n rest), omega (arith, size, few, part.0.0)), refl)

-- a read that gave nothing found the end
pub read_out : (found : Option (List ℕ)) (count : ℕ) (was before after : Option (List ℕ)) (held : List ℕ) → KeepsAhead was (ahead held before)
    → IsAtEnd count before after → count ≡ 0 → IsReadOutIfWhole (Ok found) was after
read_out None count was before after held keeps end none = tt
read_out (Some found) count None before after held keeps end none = tt
read_out (Some found) count (Some octets) None after held keeps end none = absurd (cc keeps)
read_out (Some found) count (Some octets) (Some rest) after held keeps end none = end none
