-- Sums over the numbers below one.
use Rattle.std.proofs.Common.{arith, ◌≡◌, ℕ, zero, suc, ◌+◌, ◌<◌, ◌≤◌, refl, sym, ap, subst, ◌∙◌, List, [], ◌∷◌, ◌++◌, length, length-append, filter, Bool, true, false, ◌⊎◌, inl, inr}
use Rattle.std.specs.Prelude.{if◌then◌else◌}
use Rattle.std.proofs.lemmas.List.Elements.{filter-append}
use Rattle.hk_base.proofs.Membership.{IsIn, IsIn-append}
use Rattle.hk_world.proofs.OrderLemmas.{true_is_not_false}
use Rattle.board_runs.proofs.ListLemmas.{le-cases}

abbrev pub sum_below : (ℕ → ℕ) → ℕ → ℕ
sum_below f zero = 0
sum_below f (suc n) = f n + sum_below f n

pub sum-less : (f g : ℕ → ℕ) (n : ℕ) → ((j : ℕ) → j < n → g j ≤ f j) → sum_below g n ≤ sum_below f n
sum-less f g zero h = omega arith
sum-less f g (suc n) h =
    let one = h n (omega arith) in
    let others = sum-less f g n (λ j lt. h j (omega (arith, lt))) in
    omega (arith, one, others)

-- a sum is less where one of its terms is, and the others are no greater
pub sum-spent : (f g : ℕ → ℕ) (n k d : ℕ) → ((j : ℕ) → j < n → g j ≤ f j) → k < n → g k + d ≤ f k → sum_below g n + d ≤ sum_below f n
sum-spent f g zero k d h lt spent = absurd (omega (arith, lt))
sum-spent f g (suc n) k d h lt spent = by (le-cases k n (omega (arith, lt))) (λ below. sum-spent f g n k d (λ j l. h j (omega (arith, l))) below spent)
  where
    by : (k < n) ⊎ (k ≡ n) → (k < n → sum_below g n + d ≤ sum_below f n) → sum_below g (suc n) + d ≤ sum_below f (suc n)
    by (inl below) rest =
        let one = h n (omega arith) in
        let others = rest below in
        omega (arith, one, others)
    by (inr e) rest =
        let here : g n + d ≤ f n = subst (λ x. g x + d ≤ f x) e spent in
        let others = sum-less f g n (λ j l. h j (omega (arith, l))) in
        omega (arith, here, others)

-- one term is no more than a sum
pub term-within : (f : ℕ → ℕ) (n k : ℕ) → k < n → f k ≤ sum_below f n
term-within f zero k lt = absurd (omega (arith, lt))
term-within f (suc n) k lt = by (le-cases k n (omega (arith, lt))) (λ below. term-within f n k below)
  where
    by : (k < n) ⊎ (k ≡ n) → (k < n → f k ≤ sum_below f n) → f k ≤ sum_below f (suc n)
    by (inl below) rest = let r = rest below in omega (arith, r)
    by (inr e) rest = subst (λ x. f k ≤ f x + sum_below f n) e (omega arith)

-- of a list fewer members pass a test that is harder
pub filter-fewer : {X : Type 0} (f g : X → Bool) (xs : List X) → ((x : X) → g x ≡ true → f x ≡ true) → length (filter g xs) ≤ length (filter f xs)
filter-fewer f g [] h = omega arith
filter-fewer f g (x ∷ xs) h = by (f x) refl (g x) refl (filter-fewer f g xs h)
  where
    by : (a : Bool) → f x ≡ a → (b : Bool) → g x ≡ b → length (filter g xs) ≤ length (filter f xs)
        → length (if b then x ∷ filter g xs else filter g xs) ≤ length (if a then x ∷ filter f xs else filter f xs)
    by true e true k l = omega (arith, l)
    by true e false k l = omega (arith, l)
    by false e false k l = l
    by false e true k l = absurd (true_is_not_false (sym (h x k) ∙ e))

-- one fewer at least, where a member passes the easier one alone
pub filter-one-fewer : {X : Type 0} (f g : X → Bool) (xs : List X) → ((x : X) → g x ≡ true → f x ≡ true) → (y : X) → IsIn y xs → f y ≡ true → g y ≡ false
    → length (filter g xs) + 1 ≤ length (filter f xs)
filter-one-fewer f g [] h y k e n = absurd k
filter-one-fewer f g (x ∷ xs) h y (inl same) e n =
    let fx : f x ≡ true = subst (λ z. f z ≡ true) same e in
    let gx : g x ≡ false = subst (λ z. g z ≡ false) same n in
    let l = filter-fewer f g xs h in
    subst (λ b. length (filter g (x ∷ xs)) + 1 ≤ length (if b then x ∷ filter f xs else filter f xs)) (sym fx)
    (subst (λ b. length (if b then x ∷ filter g xs else filter g xs) + 1 ≤ length (x ∷ filter f xs)) (sym gx) (omega (arith, l)))
filter-one-fewer f g (x ∷ xs) h y (inr k) e n = by (f x) refl (g x) refl (filter-one-fewer f g xs h y k e n)
  where
    by : (a : Bool) → f x ≡ a → (b : Bool) → g x ≡ b → length (filter g xs) + 1 ≤ length (filter f xs)
        → length (if b then x ∷ filter g xs else filter g xs) + 1 ≤ length (if a then x ∷ filter f xs else filter f xs)
    by true p true q l = omega (arith, l)
    by true p false q l = omega (arith, l)
    by false p false q l = l
    by false p true q l = absurd (true_is_not_false (sym (h x q) ∙ p))

-- a list without one of its members, wherever it stands
pub record IsWithout {X : Type 0} (x : X) (xs ys : List X) : Type 0 where
  pub count : length xs ≡ suc (length ys)
  pub others : (y : X) → IsIn y xs → (y ≡ x) ⊎ IsIn y ys

pub without : {X : Type 0} (x : X) (xs : List X) → IsIn x xs → (ys : List X) × IsWithout x xs ys
without x [] h = absurd h
without {X} x (z ∷ xs) (inl e) = (xs, record { count = refl; others = λ y k. at-first y k })
  where
    at-first : (y : X) → IsIn y (z ∷ xs) → (y ≡ x) ⊎ IsIn y xs
    at-first y (inl f) = inl (f ∙ sym e)
    at-first y (inr k) = inr k
without {X} x (z ∷ xs) (inr h) = later (without x xs h)
  where
    later : ((ys : List X) × IsWithout x xs ys) → (ys : List X) × IsWithout x (z ∷ xs) ys
    later r = (z ∷ r.0, record { count = ap suc r.1.count; others = λ y k. by y k })
      where
        moved : (y : X) → (y ≡ x) ⊎ IsIn y r.0 → (y ≡ x) ⊎ IsIn y (z ∷ r.0)
        moved y (inl f) = inl f
        moved y (inr k) = inr (inr k)

        by : (y : X) → IsIn y (z ∷ xs) → (y ≡ x) ⊎ IsIn y (z ∷ r.0)
        by y (inl f) = inr (inl f)
        by y (inr k) = moved y (r.1.others y k)

-- members of a list are apart: none stands among those behind it
abbrev pub AreSingle : {X : Type 0} → List X → Type 0
AreSingle [] = Unit {0}
AreSingle (x ∷ xs) = (IsIn x xs → ⊥) × AreSingle xs

-- members that are apart and among others are no more than those
pub single-few : {X : Type 0} (xs ys : List X) → AreSingle xs → ((x : X) → IsIn x xs → IsIn x ys) → length xs ≤ length ys
single-few [] ys s h = omega arith
single-few {X} (x ∷ xs) ys s h =
    let r = without x ys (h x (inl refl)) in
    let l = single-few xs r.0 s.1 (λ y k. by r.0 y k (r.1.others y (h y (inr k)))) in
    omega (arith, l, r.1.count)
  where
    by : (zs : List X) (y : X) → IsIn y xs → (y ≡ x) ⊎ IsIn y zs → IsIn y zs
    by zs y k (inl e) = absurd (s.0 (subst (λ z. IsIn z xs) e k))
    by zs y k (inr m) = m
