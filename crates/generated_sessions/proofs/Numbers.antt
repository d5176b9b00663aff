-- Lists of numbers that follow one another.
use Rattle.std.proofs.Common.{◌≡◌, ◌+◌, ℕ, zero, suc, List, [], ◌∷◌, ◌++◌, map, sym, ap, ◌∙◌, arith, append_assoc}
use Rattle.std.specs.Prelude.{flat_map}
use Rattle.std.proofs.lemmas.List.{map-append, append-nil}
use Rattle.std.proofs.lemmas.Grind.{flat_map-append}
use Rattle.generated_sessions.specs.Generated.{numbers_from}

-- one number more
next_number : (first count : ℕ) → numbers_from first (suc count) ≡ numbers_from first count ++ (first + count) ∷ []
next_number first zero = ap (λ n. n ∷ []) (omega arith)
next_number first (suc count) =
    let later : suc first + count ≡ first + suc count = omega arith in
    ap (λ ns. first ∷ ns) (next_number (suc first) count ∙ ap (λ n. numbers_from (suc first) count ++ n ∷ []) later)

pub number_more : (first count : ℕ) → numbers_from first (count + 1) ≡ numbers_from first count ++ (first + count) ∷ []
number_more first count =
    let next : count + 1 ≡ suc count = omega arith in
    ap (numbers_from first) next ∙ next_number first count

-- a list of what numbers stand for, with one more
pub mapped_more : {X : Type 0} (f : ℕ → X) (count : ℕ) (before after : List X) (x : X) → before ≡ map f (numbers_from 1 count) → x ≡ f (1 + count)
    → after ≡ before ++ x ∷ []
    → after ≡ map f (numbers_from 1 (count + 1))
mapped_more f count before after x e is h =
    h
    ∙ (ap (λ xs. xs ++ x ∷ []) e
    ∙ (ap (λ y. map f (numbers_from 1 count) ++ y ∷ []) is
    ∙ (sym (map-append f (numbers_from 1 count) ((1 + count) ∷ []))
    ∙ ap (map f) (sym (number_more 1 count)))))

-- numbers, with one more
pub numbers_more : (first count : ℕ) (before after : List ℕ) → before ≡ numbers_from first count → after ≡ before ++ (first + count) ∷ []
    → after ≡ numbers_from first (count + 1)
numbers_more first count before after e h = h ∙ (ap (λ xs. xs ++ (first + count) ∷ []) e ∙ sym (number_more first count))

-- what comes of numbers in turn, with one more
pub flat_mapped_more : {X : Type 0} (f : ℕ → List X) (count : ℕ) (front before after : List X) → before ≡ front ++ flat_map f (numbers_from 1 count)
    → after ≡ before ++ f (1 + count)
    → after ≡ front ++ flat_map f (numbers_from 1 (count + 1))
flat_mapped_more f count front before after e h =
    h
    ∙ (ap (λ xs. xs ++ f (1 + count)) e
    ∙ (append_assoc front (flat_map f (numbers_from 1 count)) (f (1 + count))
    ∙ ap (λ xs. front ++ xs)
    (ap (λ xs. flat_map f (numbers_from 1 count) ++ xs) (sym (append-nil (f (1 + count))))
    ∙ (sym (flat_map-append f (numbers_from 1 count) ((1 + count) ∷ [])) ∙ ap (flat_map f) (sym (number_more 1 count))))))
