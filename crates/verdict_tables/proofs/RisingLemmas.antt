-- Tags that rise, and how many of them are at a tag or before it.
use Rattle.std.proofs.Common.{arith, ◌≡◌, ℕ, zero, suc, ◌+◌, ◌<◌, ◌≤◌, refl, ◌∙◌, ap, subst, List, [], ◌∷◌, Bool, true, false, inl, inr, ◌⊎◌, Some, length}
use Rattle.std.specs.Prelude.{slice_get, filter, nat_le, if◌then◌else◌}
use Rattle.std.specs.List.{AllByRecursion}
use Rattle.std.specs.List.Sorted.{IsStrictlyIncreasing, IsStrictlySortedBy}
use Rattle.std.specs.Ordering.{nat_cmp}
use Rattle.std.specs.declared.cmp.Ordering.TheVariants.{Less}
use Rattle.std.proofs.lemmas.Bool.{le-leb, lt-leb, leb-true, leb-false}
use Rattle.std.proofs.lemmas.Map.Keys.{sorted_from_strictly_increasing, sorted_head, sorted_tail}
use Rattle.hk_base.proofs.Membership.{IsIn, AllByRecursion-IsIn, slice_get-IsIn}
use Rattle.verdict_tables.specs.Tables.{begun}

-- each number is below those behind it
abbrev pub Rises : List ℕ → Type 0
Rises [] = Unit {0}
Rises (x ∷ xs) = AllByRecursion (λ y. x < y) xs × Rises xs

less : (a b : ℕ) → nat_cmp a b ≡ Less → a < b
less a b e = grind (arith, e)

all-less : (x : ℕ) (ys : List ℕ) → AllByRecursion (λ y. nat_cmp x y ≡ Less) ys → AllByRecursion (λ y. x < y) ys
all-less x [] all = tt
all-less x (y ∷ ys) all = (less x y all.0, all-less x ys all.1)

sorted-rises : (xs : List ℕ) → IsStrictlySortedBy nat_cmp xs → Rises xs
sorted-rises [] s = tt
sorted-rises (x ∷ xs) s = (all-less x xs (sorted_head nat_cmp x xs s), sorted-rises xs (sorted_tail nat_cmp x xs s))

pub rises : (xs : List ℕ) → IsStrictlyIncreasing xs → Rises xs
rises xs h = sorted-rises xs (sorted_from_strictly_increasing xs h)

-- none is at a tag or before it where all are above
none-begun : (tag : ℕ) (xs : List ℕ) → AllByRecursion (λ y. tag < y) xs → filter (λ first. nat_le first tag) xs ≡ []
none-begun tag [] all = refl
none-begun tag (x ∷ xs) all =
    ap (λ b. if b then x ∷ filter (λ first. nat_le first tag) xs else filter (λ first. nat_le first tag) xs) (lt-leb x tag all.0) ∙ none-begun tag xs all.1

above-all : (tag x : ℕ) (xs : List ℕ) → tag < x → AllByRecursion (λ y. x < y) xs → AllByRecursion (λ y. tag < y) xs
above-all tag x [] l all = tt
above-all tag x (y ∷ ys) l all = (omega (arith, l, all.0), above-all tag x ys l all.1)

all-above : (tag : ℕ) (xs : List ℕ) → Rises xs → ((first : ℕ) → slice_get xs 0 ≡ Some first → tag < first) → AllByRecursion (λ y. tag < y) xs
all-above tag [] r h = tt
all-above tag (x ∷ xs) r h = (h x refl, above-all tag x xs (h x refl) r.0)

pub one-begun : (tag x : ℕ) (xs : List ℕ) → x ≤ tag → begun (x ∷ xs) tag ≡ suc (begun xs tag)
one-begun tag x xs l = ap (λ b. length (if b then x ∷ filter (λ first. nat_le first tag) xs else filter (λ first. nat_le first tag) xs)) (le-leb x tag l)

-- where the one at a place is the last at a tag or before it
pub begun-there : (tag : ℕ) (xs : List ℕ) (i : ℕ) → Rises xs → i < length xs → ((first : ℕ) → slice_get xs i ≡ Some first → first ≤ tag)
    → ((first : ℕ) → slice_get xs (i + 1) ≡ Some first → tag < first) → begun xs tag ≡ i + 1
begun-there tag [] i r l below above = absurd (omega (arith, l))
begun-there tag (x ∷ xs) zero r l below above =
    one-begun tag x xs (below x refl) ∙ ap (λ ys. suc (length ys)) (none-begun tag xs (all-above tag xs r.1 (λ first at. above first at)))
begun-there tag (x ∷ xs) (suc i) r l below above =
    let within : i < length xs = omega (arith, l) in
    let next : suc (i + 1) ≡ suc i + 1 = omega arith in
    let rest = begun-there tag xs i r.1 within below (λ first at. above first (subst (λ n. slice_get (x ∷ xs) n ≡ Some first) next at)) in
    one-begun tag x xs (first-below i within below) ∙ (ap suc rest ∙ next)
  where
    at-place : (ys : List ℕ) (j : ℕ) → j < length ys → (y : ℕ) × (slice_get ys j ≡ Some y)
    at-place [] j k = absurd (omega (arith, k))
    at-place (y ∷ ys) zero k = (y, refl)
    at-place (y ∷ ys) (suc j) k = at-place ys j (omega (arith, k))

    first-below : (j : ℕ) → j < length xs → ((first : ℕ) → slice_get xs j ≡ Some first → first ≤ tag) → x ≤ tag
    first-below j k h =
        let there = at-place xs j k in
        omega (arith, AllByRecursion-IsIn (λ y. x < y) there.0 xs r.0 (slice_get-IsIn there.0 xs j there.1), h there.0 there.1)

-- the last of some rising tags at a tag or before it
pub record IsLast (xs : List ℕ) (tag number first : ℕ) : Type 0 where
  pub there : slice_get xs number ≡ Some first
  pub low : first ≤ tag
  pub count : begun xs tag ≡ number + 1
  pub apart : (n : ℕ) → IsIn n xs → (n ≤ first) ⊎ (tag < n)

pub last-of : (x : ℕ) (xs : List ℕ) (tag : ℕ) → Rises (x ∷ xs) → x ≤ tag → (number : ℕ) × (first : ℕ) × IsLast (x ∷ xs) tag number first
last-of x [] tag r l = (0, x, record { there = refl; low = l; count = one-begun tag x [] l; apart = only })
  where
    only : (n : ℕ) → IsIn n (x ∷ []) → (n ≤ x) ⊎ (tag < n)
    only n (inl e) = inl (omega (arith, e))
    only n (inr i) = absurd i
last-of x (y ∷ ys) tag r l = go (nat_le y tag) refl (λ k. last-of y ys tag r.1 k)
  where
    later-parts : (first : ℕ) → x < first → ((n : ℕ) → IsIn n (y ∷ ys) → (n ≤ first) ⊎ (tag < n)) → (n : ℕ) → IsIn n (x ∷ y ∷ ys) → (n ≤ first) ⊎ (tag < n)
    later-parts first k h n (inl e) = inl (omega (arith, e, k))
    later-parts first k h n (inr i) = h n i

    first-parts : tag < y → AllByRecursion (λ z. tag < z) ys → (n : ℕ) → IsIn n (x ∷ y ∷ ys) → (n ≤ x) ⊎ (tag < n)
    first-parts h all n (inl k) = inl (omega (arith, k))
    first-parts h all n (inr (inl k)) = inr (omega (arith, k, h))
    first-parts h all n (inr (inr i)) = inr (AllByRecursion-IsIn (λ z. tag < z) n ys all i)

    later : (number first : ℕ) → IsLast (y ∷ ys) tag number first → IsLast (x ∷ y ∷ ys) tag (suc number) first
    later number first p =
        record {
          there = p.there;
          low = p.low;
          count = omega (arith, one-begun tag x (y ∷ ys) l, p.count);
          apart = later-parts first (AllByRecursion-IsIn (λ z. x < z) first (y ∷ ys) r.0 (slice_get-IsIn first (y ∷ ys) number p.there)) p.apart;
        }

    go : (b : Bool) → nat_le y tag ≡ b → (y ≤ tag → (number : ℕ) × (first : ℕ) × IsLast (y ∷ ys) tag number first) → (number : ℕ) × (first : ℕ) × IsLast (x ∷ y ∷ ys) tag number first
    go true e rest =
        let p = rest (leb-true y tag e) in
        (suc p.0, p.1, later p.0 p.1 p.2)
    go false e rest =
        let high = above-all tag y ys (leb-false y tag e) r.1.0 in (
          0,
          x,
          record {
            there = refl;
            low = l;
            count = one-begun tag x (y ∷ ys) l ∙ ap (λ zs. suc (length zs)) (none-begun tag (y ∷ ys) (leb-false y tag e, high));
            apart = first-parts (leb-false y tag e) high;
          },
        )
