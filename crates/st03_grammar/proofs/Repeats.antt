-- Whether an ID stood before, in whatever order the members are told.
use Rattle.std.proofs.Common.{◌≡◌, ◌∙◌, sym, ap, refl, ℕ, List, [], ◌∷◌, map, Bool}
use Rattle.std.specs.Prelude.{reverse, flat_map, ◌||◌}
use Rattle.std.specs.List.{list_any}
use Rattle.std.proofs.lemmas.List.Folds.{list_any-append}
use Rattle.std.proofs.lemmas.List.Sorted.{list_any-IsPermutation, IsPermutation-reverse}

back : {A : Type 0} (test : A → Bool) (xs : List A) → list_any test xs ≡ list_any test (reverse xs)
back test xs = list_any-IsPermutation test xs (reverse xs) (IsPermutation-reverse xs)

by_key : {A : Type 0} (test : ℕ → Bool) (key : A → ℕ) (xs : List A) → list_any (λ x. test (key x)) xs ≡ list_any test (map key xs)
by_key test key [] = refl
by_key test key (x ∷ xs) = ap (λ b. test (key x) || b) (by_key test key xs)

-- by the keys of members, the newest first
pub stood_by_key : {A : Type 0} (test : ℕ → Bool) (key : A → ℕ) (xs : List A) → list_any (λ x. test (key x)) xs ≡ list_any test (map key (reverse xs))
stood_by_key test key xs = back (λ x. test (key x)) xs ∙ by_key test key (reverse xs)

in_parts : {A : Type 0} (test : ℕ → Bool) (part : A → List ℕ) (xs : List A) → list_any (λ x. list_any test (part x)) xs ≡ list_any test (flat_map part xs)
in_parts test part [] = refl
in_parts test part (x ∷ xs) = ap (λ b. list_any test (part x) || b) (in_parts test part xs) ∙ sym (list_any-append test (part x) (flat_map part xs))

-- in the lists of members, the newest first
pub stood_in_parts : {A : Type 0} (test : ℕ → Bool) (part : A → List ℕ) (xs : List A) → list_any (λ x. list_any test (part x)) xs ≡ list_any test (flat_map part (reverse xs))
stood_in_parts test part xs = back (λ x. list_any test (part x)) xs ∙ in_parts test part (reverse xs)
