-- Lists that come behind others, the newest first, and members of lists.
use Rattle.std.proofs.Common.{arith, ◌≡◌, ℕ, zero, suc, ◌+◌, ◌<◌, ◌≤◌, refl, sym, ap, subst, ◌∙◌, List, [], ◌∷◌, ◌++◌, length, map, Bool, true, false, Option, Some, None, ◌⊎◌, inl, inr, append_assoc, append-nil}
use Rattle.std.specs.Prelude.{slice_get, reverse}
use Rattle.std.specs.List.{AllByRecursion}
use Rattle.std.proofs.lemmas.List.{reverse-append, map-append}
use Rattle.hk_base.proofs.Membership.{IsIn}

-- the members of a list come behind others, one after the other; the newest is first
abbrev pub onto : {X : Type 0} → List X → List X → List X
onto [] earlier = earlier
onto (x ∷ xs) earlier = onto xs (x ∷ earlier)

pub onto-reverse : {X : Type 0} (xs earlier : List X) → onto xs earlier ≡ reverse xs ++ earlier
onto-reverse [] earlier = refl
onto-reverse (x ∷ xs) earlier =
    onto-reverse xs (x ∷ earlier)
    ∙ (sym (append_assoc (reverse xs) (x ∷ []) earlier) ∙ ap (λ ys. ys ++ earlier) (sym (reverse-append (x ∷ []) xs)))

pub onto-append : {X : Type 0} (xs ys earlier : List X) → onto (xs ++ ys) earlier ≡ onto ys (onto xs earlier)
onto-append [] ys earlier = refl
onto-append (x ∷ xs) ys earlier = onto-append xs ys (x ∷ earlier)

pub reverse-more : {X : Type 0} (x : X) (xs : List X) → reverse (x ∷ xs) ≡ reverse xs ++ x ∷ []
reverse-more x xs = reverse-append (x ∷ []) xs

pub IsIn-map : {X Y : Type 0} (f : X → Y) (y : Y) (xs : List X) → IsIn y (map f xs) → (x : X) × IsIn x xs × (f x ≡ y)
IsIn-map f y [] h = absurd h
IsIn-map f y (x ∷ xs) (inl e) = (x, inl refl, sym e)
IsIn-map f y (x ∷ xs) (inr h) = let r = IsIn-map f y xs h in (r.0, inr r.1, r.2)

pub IsIn-onto : {X : Type 0} (x : X) (xs earlier : List X) → IsIn x earlier → IsIn x (onto xs earlier)
IsIn-onto x [] earlier h = h
IsIn-onto x (y ∷ xs) earlier h = IsIn-onto x xs (y ∷ earlier) (inr h)

pub onto-IsIn : {X : Type 0} (x : X) (xs earlier : List X) → IsIn x xs → IsIn x (onto xs earlier)
onto-IsIn x [] earlier h = absurd h
onto-IsIn x (y ∷ xs) earlier (inl e) = IsIn-onto x xs (y ∷ earlier) (inl e)
onto-IsIn x (y ∷ xs) earlier (inr h) = onto-IsIn x xs (y ∷ earlier) h

pub slice_get-front : {X : Type 0} (xs ys : List X) (k : ℕ) (x : X) → slice_get xs k ≡ Some x → slice_get (xs ++ ys) k ≡ Some x
slice_get-front [] ys k x h = cc
slice_get-front (y ∷ xs) ys zero x h = h
slice_get-front (y ∷ xs) ys (suc k) x h = slice_get-front xs ys k x h

pub slice_get-last : {X : Type 0} (xs : List X) (x : X) → slice_get (xs ++ x ∷ []) (length xs) ≡ Some x
slice_get-last [] x = refl
slice_get-last (y ∷ xs) x = slice_get-last xs x

pub slice_get-map : {X Y : Type 0} (f : X → Y) (xs : List X) (k : ℕ) (x : X) → slice_get xs k ≡ Some x → slice_get (map f xs) k ≡ Some (f x)
slice_get-map f [] k x h = cc
slice_get-map f (y ∷ xs) zero x h = cc
slice_get-map f (y ∷ xs) (suc k) x h = slice_get-map f xs k x h

pub slice_get-within : {X : Type 0} (xs : List X) (k : ℕ) (x : X) → slice_get xs k ≡ Some x → k < length xs
slice_get-within [] k x h = cc
slice_get-within (y ∷ xs) zero x h = omega arith
slice_get-within (y ∷ xs) (suc k) x h = let le = slice_get-within xs k x h in omega (arith, le)

pub map-same : {X Y : Type 0} (f g : X → Y) (xs : List X) → ((x : X) → f x ≡ g x) → map f xs ≡ map g xs
map-same f g [] h = refl
map-same f g (x ∷ xs) h = ap (λ y. y ∷ map f xs) (h x) ∙ ap (λ ys. g x ∷ ys) (map-same f g xs h)

pub map-twice : {X Y Z : Type 0} (f : Y → Z) (g : X → Y) (xs : List X) → map f (map g xs) ≡ map (λ x. f (g x)) xs
map-twice f g [] = refl
map-twice f g (x ∷ xs) = ap (λ ys. f (g x) ∷ ys) (map-twice f g xs)

pub le-cases : (k n : ℕ) → k ≤ n → (k < n) ⊎ (k ≡ n)
le-cases zero zero h = inr refl
le-cases zero (suc n) h = inl (omega arith)
le-cases (suc k) zero h = absurd (omega (arith, h))
le-cases (suc k) (suc n) h = more (le-cases k n (omega (arith, h)))
  where
    more : (k < n) ⊎ (k ≡ n) → (suc k < suc n) ⊎ (suc k ≡ suc n)
    more (inl lt) = inl (omega (arith, lt))
    more (inr e) = inr (ap suc e)
