-- The place of a member by what it is made into.
use Rattle.std.proofs.Common.{◌≡◌, ◌∙◌, sym, ap, refl, ℕ, ◌+◌, List, [], ◌∷◌, map, Bool, cond, Some}
use Rattle.std.specs.List.{position, position_from}
use Rattle.std.proofs.lemmas.Iterator.Adapters.{position_from-zero}

from_mapped : {A B : Type 0} (test : B → Bool) (f : A → B) (i : ℕ) (xs : List A) → position_from (λ x. test (f x)) i xs ≡ position_from test i (map f xs)
from_mapped test f i [] = refl
from_mapped test f i (x ∷ xs) = ap (cond (test (f x)) (Some i)) (from_mapped test f (i + 1) xs)

pub position_mapped : {A B : Type 0} (test : B → Bool) (f : A → B) (xs : List A) → position (λ x. test (f x)) xs ≡ position test (map f xs)
position_mapped test f xs = position_from-zero (λ x. test (f x)) xs ∙ (from_mapped test f 0 xs ∙ sym (position_from-zero test (map f xs)))
