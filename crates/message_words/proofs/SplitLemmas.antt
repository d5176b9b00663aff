-- A list that is divided, seen through a view of its members.
use Rattle.std.proofs.Common.{◌≡◌, Bool, true, false, cond, List, [], ◌∷◌, map, refl, ap, ◌∙◌}
use Rattle.std.specs.List.{slice_split, onto_first}

onto_first-map : {X Y : Type 0} (f : X → Y) (x : X) (parts : List (List X)) → map (map f) (onto_first x parts) ≡ onto_first (f x) (map (map f) parts)
onto_first-map f x [] = refl
onto_first-map f x (part ∷ parts) = refl

split_by : {X Y : Type 0} (f : X → Y) (x : X) (b : Bool) (parts : List (List X)) (others : List (List Y)) → map (map f) parts ≡ others
    → map (map f) (cond b ([] ∷ parts) (onto_first x parts)) ≡ cond b ([] ∷ others) (onto_first (f x) others)
split_by f x true parts others e = ap (λ more. [] ∷ more) e
split_by f x false parts others e = onto_first-map f x parts ∙ ap (onto_first (f x)) e

-- the parts of a list, seen through the view, are those of the list that is seen
pub split-map : {X Y : Type 0} (f : X → Y) (test : Y → Bool) (xs : List X) → map (map f) (slice_split (λ x. test (f x)) xs) ≡ slice_split test (map f xs)
split-map f test [] = refl
split-map f test (x ∷ xs) = split_by f x (test (f x)) (slice_split (λ x. test (f x)) xs) (slice_split test (map f xs)) (split-map f test xs)

map-twice : {X Y Z : Type 0} (f : Y → Z) (g : X → Y) (xs : List X) → map (λ x. f (g x)) xs ≡ map f (map g xs)
map-twice f g [] = refl
map-twice f g (x ∷ xs) = ap (λ more. f (g x) ∷ more) (map-twice f g xs)

-- the same where the parts are behind references
pub split-viewed : {W X Y : Type 0} (f : X → Y) (part : W → List X) (test : Y → Bool) (ws : List W) (xs : List X) → map part ws ≡ slice_split (λ x. test (f x)) xs
    → map (λ w. map f (part w)) ws ≡ slice_split test (map f xs)
split-viewed f part test ws xs e = map-twice (map f) part ws ∙ ap (map (map f)) e ∙ split-map f test xs
