-- What samplers have in all: their parameters, and the samples of these.
use Rattle.std.proofs.Common.{arith, ◌≡◌, ℕ, zero, suc, ◌+◌, ◌%◌, ◌<◌, ◌≤◌, refl, sym, ap, ◌∙◌, List, [], ◌∷◌, length, cond, Bool, true, false, ◌==◌, ◌⊎◌, inl, inr, mod-lt, eq-or-lt_of_le}
use Rattle.std.specs.Prelude.{◌||◌}
use Rattle.std.specs.List.{AllByRecursion}
use Rattle.std.proofs.lemmas.Bool.{eqb-true, eq-eqb, ne_eqb, false≢true, false_from_ne_true}
use Rattle.hk_base.specs.declared.types.Param.{Param}
use Rattle.hk_base.proofs.Membership.{IsIn-list_any, AllByRecursion-IsIn}
use Rattle.board_steps.specs.declared.event.Sample.{Sample}
use Rattle.sampler_threads.specs.Orders.{dealt, kept_if}
use Rattle.board_runs.specs.Samplers.{is_among}
use Rattle.sampled_slots.proofs.ParamLemmas.{AreApart}
use Rattle.sampled_slots.proofs.ReadingLemmas.{samples_among}

-- the sum over so many numbers from one on
abbrev pub sum_from : (ℕ → ℕ) → ℕ → ℕ → ℕ
sum_from f i zero = 0
sum_from f i (suc n) = f i + sum_from f (suc i) n

pub sum-same : (f h : ℕ → ℕ) (i n : ℕ) → ((k : ℕ) → k < i + n → f k ≡ h k) → sum_from f i n ≡ sum_from h i n
sum-same f h i zero e = refl
sum-same f h i (suc n) e =
    let here = e i (omega arith) in
    let rest = sum-same f h (suc i) n (λ k below. e k (omega (arith, below))) in
    omega (arith, here, rest)

pub sum-less : (f h : ℕ → ℕ) (i n : ℕ) → ((k : ℕ) → k < i + n → f k ≤ h k) → sum_from f i n ≤ sum_from h i n
sum-less f h i zero e = omega arith
sum-less f h i (suc n) e =
    let here = e i (omega arith) in
    let rest = sum-less f h (suc i) n (λ k below. e k (omega (arith, below))) in
    omega (arith, here, rest)

pub sum-add : (f h : ℕ → ℕ) (i n : ℕ) → sum_from (λ k. f k + h k) i n ≡ sum_from f i n + sum_from h i n
sum-add f h i zero = refl
sum-add f h i (suc n) = let rest = sum-add f h (suc i) n in omega (arith, rest)

sum-none : (i n : ℕ) → sum_from (λ k. 0) i n ≡ 0
sum-none i zero = refl
sum-none i (suc n) = let rest = sum-none (suc i) n in omega (arith, rest)

-- 1 where a test passes
abbrev pub one_if : Bool → ℕ
one_if true = 1
one_if false = 0

one-none : (j i n : ℕ) → j < i → sum_from (λ k. one_if (j == k)) i n ≡ 0
one-none j i zero h = refl
one-none j i (suc n) h =
    let here : one_if (j == i) ≡ 0 = ap one_if (ne_eqb j i (λ e. omega (arith, e, h))) in
    let rest = one-none j (suc i) n (omega (arith, h)) in
    omega (arith, here, rest)

one-most : (j i n : ℕ) → sum_from (λ k. one_if (j == k)) i n ≤ 1
one-most j i zero = omega arith
one-most j i (suc n) = by (j == i) refl (one-most j (suc i) n)
  where
    by : (b : Bool) → (j == i) ≡ b → sum_from (λ k. one_if (j == k)) (suc i) n ≤ 1 → one_if (j == i) + sum_from (λ k. one_if (j == k)) (suc i) n ≤ 1
    by true e rest =
        let here : one_if (j == i) ≡ 1 = ap one_if e in
        let same = eqb-true j i e in
        let none = one-none j (suc i) n (omega (arith, same)) in
        omega (arith, here, none)
    by false e rest = let here : one_if (j == i) ≡ 0 = ap one_if e in omega (arith, here, rest)

one-at : (j i n : ℕ) → i ≤ j → j < i + n → sum_from (λ k. one_if (j == k)) i n ≡ 1
one-at j i zero low high = absurd (omega (arith, low, high))
one-at j i (suc n) low high = by (eq-or-lt_of_le low) (λ l. one-at j (suc i) n l (omega (arith, high)))
  where
    by : (i ≡ j) ⊎ (i < j) → (suc i ≤ j → sum_from (λ k. one_if (j == k)) (suc i) n ≡ 1) → one_if (j == i) + sum_from (λ k. one_if (j == k)) (suc i) n ≡ 1
    by (inl e) rest =
        let here : one_if (j == i) ≡ 1 = ap one_if (eq-eqb j i (sym e)) in
        let none = one-none j (suc i) n (omega (arith, e)) in
        omega (arith, here, none)
    by (inr l) rest =
        let here : one_if (j == i) ≡ 0 = ap one_if (ne_eqb j i (λ e. omega (arith, e, l))) in
        let more = rest (omega (arith, l)) in
        omega (arith, here, more)

kept-length : (b : Bool) (p : Param) (xs : List Param) → length (kept_if b p xs) ≡ one_if b + length xs
kept-length true p xs = omega arith
kept-length false p xs = omega arith

-- each parameter stands with one sampler
pub dealt-lengths : (n i : ℕ) (ps : List Param) → 0 < n → sum_from (λ k. length (dealt n k i ps)) 0 n ≡ length ps
dealt-lengths n i [] some = sum-none 0 n
dealt-lengths n i (p ∷ ps) some =
    let parts = sum-same (λ k. length (dealt n k i (p ∷ ps))) (λ k. one_if (i % n == k) + length (dealt n k (i + 1) ps)) 0 n (λ k below. kept-length (i % n == k) p (dealt n k (i + 1) ps)) in
    let added = sum-add (λ k. one_if (i % n == k)) (λ k. length (dealt n k (i + 1) ps)) 0 n in
    let one = one-at (i % n) 0 n (omega arith) (omega (arith, mod-lt i some)) in
    let rest = dealt-lengths n (i + 1) ps some in
    omega (arith, parts, added, one, rest)

kept-among : (b : Bool) (p : Param) (xs : List Param) (id : ℕ) → one_if (is_among (kept_if b p xs) id) ≤ one_if b + one_if (is_among xs id)
kept-among true p xs id = by (p.id == id) (is_among xs id)
  where
    by : (a b : Bool) → one_if (a || b) ≤ 1 + one_if b
    by true true = omega arith
    by true false = omega arith
    by false b = omega arith
kept-among false p xs id = omega arith

kept-other : (b : Bool) (p : Param) (xs : List Param) (id : ℕ) → (p.id == id) ≡ false → is_among (kept_if b p xs) id ≡ is_among xs id
kept-other true p xs id e = ap (λ a. a || is_among xs id) e
kept-other false p xs id e = refl

not-among : (p : Param) (ps : List Param) (id : ℕ) → AllByRecursion (λ (q : Param). (p.id == q.id) ≡ false) ps → (p.id == id) ≡ true → is_among ps id ≡ false
not-among p ps id apart e =
    false_from_ne_true (is_among ps id) (λ there.
    let r = IsIn-list_any (λ (q : Param). q.id == id) ps there in
    let other = AllByRecursion-IsIn (λ (q : Param). (p.id == q.id) ≡ false) r.0 ps apart r.1 in
    let same : p.id ≡ r.0.id = eqb-true p.id id e ∙ sym (eqb-true r.0.id id r.2) in
    false≢true (sym other ∙ eq-eqb p.id r.0.id same))

-- a parameter stands with no two samplers
one-owner : (n i : ℕ) (ps : List Param) (id : ℕ) → AreApart ps → sum_from (λ k. one_if (is_among (dealt n k i ps) id)) 0 n ≤ one_if (is_among ps id)
one-owner n i [] id apart = let none = sum-none 0 n in omega (arith, none)
one-owner n i (p ∷ ps) id apart = by (p.id == id) refl (one-owner n (i + 1) ps id apart.1)
  where
    by : (b : Bool) → (p.id == id) ≡ b → sum_from (λ k. one_if (is_among (dealt n k (i + 1) ps) id)) 0 n ≤ one_if (is_among ps id)
        → sum_from (λ k. one_if (is_among (dealt n k i (p ∷ ps)) id)) 0 n ≤ one_if ((p.id == id) || is_among ps id)
    by true e rest =
        let none : one_if (is_among ps id) ≡ 0 = ap one_if (not-among p ps id apart.0 e) in
        let here : one_if ((p.id == id) || is_among ps id) ≡ 1 = ap (λ b. one_if (b || is_among ps id)) e in
        let parts = sum-less (λ k. one_if (is_among (dealt n k i (p ∷ ps)) id)) (λ k. one_if (i % n == k) + one_if (is_among (dealt n k (i + 1) ps) id)) 0 n
        (λ k below. kept-among (i % n == k) p (dealt n k (i + 1) ps) id) in
        let added = sum-add (λ k. one_if (i % n == k)) (λ k. one_if (is_among (dealt n k (i + 1) ps) id)) 0 n in
        let most = one-most (i % n) 0 n in
        omega (arith, none, here, parts, added, most, rest)
    by false e rest =
        let here : one_if ((p.id == id) || is_among ps id) ≡ one_if (is_among ps id) = ap (λ b. one_if (b || is_among ps id)) e in
        let same = sum-same (λ k. one_if (is_among (dealt n k i (p ∷ ps)) id)) (λ k. one_if (is_among (dealt n k (i + 1) ps) id)) 0 n
        (λ k below. ap one_if (kept-other (i % n == k) p (dealt n k (i + 1) ps) id e)) in
        omega (arith, here, same, rest)

among-length : (ps : List Param) (x : Sample) (xs : List Sample) → length (samples_among ps (x ∷ xs)) ≡ one_if (is_among ps x.param) + length (samples_among ps xs)
among-length ps x xs = by (is_among ps x.param)
  where
    by : (b : Bool) → length (cond b (x ∷ samples_among ps xs) (samples_among ps xs)) ≡ one_if b + length (samples_among ps xs)
    by true = omega arith
    by false = omega arith

-- a sample is of one sampler at most
pub samples-shared : (n : ℕ) (ps : List Param) (xs : List Sample) → AreApart ps → sum_from (λ k. length (samples_among (dealt n k 0 ps) xs)) 0 n ≤ length (samples_among ps xs)
samples-shared n ps [] apart = let none = sum-none 0 n in omega (arith, none)
samples-shared n ps (x ∷ xs) apart =
    let parts = sum-same (λ k. length (samples_among (dealt n k 0 ps) (x ∷ xs))) (λ k. one_if (is_among (dealt n k 0 ps) x.param) + length (samples_among (dealt n k 0 ps) xs)) 0 n
    (λ k below. among-length (dealt n k 0 ps) x xs) in
    let added = sum-add (λ k. one_if (is_among (dealt n k 0 ps) x.param)) (λ k. length (samples_among (dealt n k 0 ps) xs)) 0 n in
    let one = one-owner n 0 ps x.param apart in
    let rest = samples-shared n ps xs apart in
    omega (arith, parts, added, one, rest, among-length ps x xs)
