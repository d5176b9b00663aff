-- Totals with one more sample are those of the samples with it.
use Rattle.std.proofs.Common.{arith, ◌≡◌, ℕ, ◌≤◌, ◌<◌, ◌^◌, ◌==◌, ◌||◌, refl, sym, ◌∙◌, ap, subst, List, [], ◌∷◌, ◌++◌, length, length-append, Bool, negsuc, true, false, append_assoc, ℤ, pos, ◌+ℤ◌, ◌≤ℤ◌, ◌<ℤ◌, if◌then◌else◌, int_lt}
use Rattle.std.specs.List.{AllByRecursion}
use Rattle.std.specs.Int.{int_div_euclid}
use Rattle.std.specs.Prelude.{unsigned_abs}
use Rattle.std.proofs.lemmas.Int.{ints}
use Rattle.std.proofs.lemmas.Bool.{eqb-true}
use Rattle.std.proofs.lemmas.Bool.Decides.{nat_tests}
use Rattle.statistics.specs.Summaries.{Sample, sample, sum_of, floor_div, IsFirstGreatest, IsFirstLeast, Totals, AreTotals, IsBounded, with_max, with_min, with_value}

all_append : (P : Sample → Type 0) (xs ys : List Sample) → AllByRecursion P xs → AllByRecursion P ys → AllByRecursion P (xs ++ ys)
all_append P [] ys h g = g
all_append P (x ∷ xs) ys h g = (h.0, all_append P xs ys h.1 g)

all_below : (a b : ℤ) → a <ℤ b → (xs : List Sample) → AllByRecursion (λ y. y.value <ℤ a) xs → AllByRecursion (λ y. y.value <ℤ b) xs
all_below a b h [] all = tt
all_below a b h (x ∷ xs) all = (omega (arith, ints, h, all.0), all_below a b h xs all.1)

all_at_most : (a b : ℤ) → a <ℤ b → (xs : List Sample) → AllByRecursion (λ y. y.value ≤ℤ a) xs → AllByRecursion (λ y. y.value <ℤ b) xs
all_at_most a b h [] all = tt
all_at_most a b h (x ∷ xs) all = (omega (arith, ints, h, all.0), all_at_most a b h xs all.1)

all_above : (a b : ℤ) → b <ℤ a → (xs : List Sample) → AllByRecursion (λ y. a <ℤ y.value) xs → AllByRecursion (λ y. b <ℤ y.value) xs
all_above a b h [] all = tt
all_above a b h (x ∷ xs) all = (omega (arith, ints, h, all.0), all_above a b h xs all.1)

all_at_least : (a b : ℤ) → b <ℤ a → (xs : List Sample) → AllByRecursion (λ y. a ≤ℤ y.value) xs → AllByRecursion (λ y. b <ℤ y.value) xs
all_at_least a b h [] all = tt
all_at_least a b h (x ∷ xs) all = (omega (arith, ints, h, all.0), all_at_least a b h xs all.1)

-- a sample that is greater than the greatest is the greatest
greatest-new : (samples : List Sample) (m x : Sample) → IsFirstGreatest samples m → m.value <ℤ x.value → IsFirstGreatest (samples ++ x ∷ []) x
greatest-new samples m x g h =
    record {
      before = samples;
      after = [];
      among = refl;
      above = subst (λ l. AllByRecursion (λ y. y.value <ℤ x.value) l) (sym g.among)
          (all_append _ g.before (m ∷ g.after) (all_below m.value x.value h g.before g.above) (h, all_at_most m.value x.value h g.after g.greatest));
      greatest = tt;
    }

-- one that isn't leaves the greatest
greatest-old : (samples : List Sample) (m x : Sample) → IsFirstGreatest samples m → x.value ≤ℤ m.value → IsFirstGreatest (samples ++ x ∷ []) m
greatest-old samples m x g h =
    record {
      before = g.before;
      after = g.after ++ x ∷ [];
      among = ap (λ l. l ++ x ∷ []) g.among ∙ append_assoc g.before (m ∷ g.after) (x ∷ []);
      above = g.above;
      greatest = all_append _ g.after (x ∷ []) g.greatest (h, tt);
    }

least-new : (samples : List Sample) (m x : Sample) → IsFirstLeast samples m → x.value <ℤ m.value → IsFirstLeast (samples ++ x ∷ []) x
least-new samples m x g h =
    record {
      before = samples;
      after = [];
      among = refl;
      below = subst (λ l. AllByRecursion (λ y. x.value <ℤ y.value) l) (sym g.among)
          (all_append _ g.before (m ∷ g.after) (all_above m.value x.value h g.before g.below) (h, all_at_least m.value x.value h g.after g.least));
      least = tt;
    }

least-old : (samples : List Sample) (m x : Sample) → IsFirstLeast samples m → m.value ≤ℤ x.value → IsFirstLeast (samples ++ x ∷ []) m
least-old samples m x g h =
    record {
      before = g.before;
      after = g.after ++ x ∷ [];
      among = ap (λ l. l ++ x ∷ []) g.among ∙ append_assoc g.before (m ∷ g.after) (x ∷ []);
      below = g.below;
      least = all_append _ g.after (x ∷ []) g.least (h, tt);
    }

abbrev greatest_of : Totals → Sample
greatest_of t = sample t.max_slot t.max

abbrev least_of : Totals → Sample
least_of t = sample t.min_slot t.min

none_there : (samples : List Sample) → length samples ≡ 0 → samples ≡ []
none_there [] e = refl
none_there (x ∷ xs) e = absurd (omega (arith, e))

some_there : (n : ℕ) → (n == 0) ≡ false → 1 ≤ n
some_there n e = grind (arith, nat_tests)

more_if : (a b : ℤ) → int_lt a b ≡ true → a <ℤ b
more_if a b e = grind (arith, ints)

not_more_if : (a b : ℤ) → int_lt a b ≡ false → b ≤ℤ a
not_more_if a b e = grind (arith, ints)

max-by : (samples : List Sample) (t : Totals) (x : Sample) → t.count ≡ length samples → (1 ≤ length samples → IsFirstGreatest samples (greatest_of t)) → (none more : Bool) → (t.count == 0) ≡ none → int_lt t.max x.value ≡ more
    → IsFirstGreatest (samples ++ x ∷ []) (greatest_of (if none || more then record t { max = x.value; max_slot = x.slot } else t))
max-by samples t x n h true more e f =
    subst (λ l. IsFirstGreatest (l ++ x ∷ []) x) (sym (none_there samples (sym n ∙ eqb-true t.count 0 e)))
    (record { before = []; after = []; among = refl; above = tt; greatest = tt })
max-by samples t x n h false true e f =
    greatest-new samples (greatest_of t) x (h (omega (arith, n, some_there t.count e))) (more_if t.max x.value f)
max-by samples t x n h false false e f =
    greatest-old samples (greatest_of t) x (h (omega (arith, n, some_there t.count e))) (not_more_if t.max x.value f)

min-by : (samples : List Sample) (t : Totals) (x : Sample) → t.count ≡ length samples → (1 ≤ length samples → IsFirstLeast samples (least_of t)) → (none less : Bool) → (t.count == 0) ≡ none → int_lt x.value t.min ≡ less
    → IsFirstLeast (samples ++ x ∷ []) (least_of (if none || less then record t { min = x.value; min_slot = x.slot } else t))
min-by samples t x n h true less e f =
    subst (λ l. IsFirstLeast (l ++ x ∷ []) x) (sym (none_there samples (sym n ∙ eqb-true t.count 0 e)))
    (record { before = []; after = []; among = refl; below = tt; least = tt })
min-by samples t x n h false true e f =
    least-new samples (least_of t) x (h (omega (arith, n, some_there t.count e))) (more_if x.value t.min f)
min-by samples t x n h false false e f =
    least-old samples (least_of t) x (h (omega (arith, n, some_there t.count e))) (not_more_if x.value t.min f)

-- what a step on the greatest changes, and what not
max-keeps : (t : Totals) (x : Sample) (b : Bool) (u : Totals) → u ≡ (if b then record t { max = x.value; max_slot = x.slot } else t)
    → (u.count ≡ t.count) × (u.sum ≡ t.sum) × (least_of u ≡ least_of t)
max-keeps t x true u e = (ap (λ v. v.count) e, ap (λ v. v.sum) e, ap least_of e)
max-keeps t x false u e = (ap (λ v. v.count) e, ap (λ v. v.sum) e, ap least_of e)

min-keeps : (t : Totals) (x : Sample) (b : Bool) (u : Totals) → u ≡ (if b then record t { min = x.value; min_slot = x.slot } else t)
    → (u.count ≡ t.count) × (u.sum ≡ t.sum) × (greatest_of u ≡ greatest_of t)
min-keeps t x true u e = (ap (λ v. v.count) e, ap (λ v. v.sum) e, ap greatest_of e)
min-keeps t x false u e = (ap (λ v. v.count) e, ap (λ v. v.sum) e, ap greatest_of e)

sum-append : (samples : List Sample) (x : Sample) → sum_of (samples ++ x ∷ []) ≡ sum_of samples +ℤ x.value
sum-append [] x = omega (arith, ints)
sum-append (s ∷ samples) x = omega (arith, ints, sum-append samples x)

-- with one more sample
pub totals-more : (samples : List Sample) (t u v : Totals) (x : Sample) → AreTotals samples t → u ≡ with_max t x → v ≡ with_min u x
    → AreTotals (samples ++ x ∷ []) (with_value v x.value)
totals-more samples t u v x h e f =
    let max = max-by samples t x h.count h.max (t.count == 0) (int_lt t.max x.value) refl refl in
    let kept = max-keeps t x (t.count == 0 || int_lt t.max x.value) u e in
    let least = min-by samples u x (kept.0 ∙ h.count) (λ i. subst (IsFirstLeast samples) (sym kept.2) (h.min i)) (u.count == 0) (int_lt x.value u.min) refl refl in
    let also = min-keeps u x (u.count == 0 || int_lt x.value u.min) v f in
    let greatest : IsFirstGreatest (samples ++ x ∷ []) (greatest_of u) = subst (λ w. IsFirstGreatest (samples ++ x ∷ []) (greatest_of w)) (sym e) max in
    record {
      count = omega (arith, also.0, kept.0, h.count, length-append samples (x ∷ []));
      sum = ap (λ s. s +ℤ x.value) (also.1 ∙ kept.1 ∙ h.sum) ∙ sym (sum-append samples x);
      max = λ i. subst (IsFirstGreatest (samples ++ x ∷ [])) (sym also.2) greatest;
      min = λ i. subst (λ w. IsFirstLeast (samples ++ x ∷ []) (least_of w)) (sym f) least;
    }

pub floor_is : (n : ℤ) (d : ℕ) → int_div_euclid n (pos d) ≡ floor_div n d
floor_is (pos n) d = refl
floor_is (negsuc n) d = refl

pub sum-few : (count : ℕ) (sum : ℤ) → count < 2 ^ 32 → IsBounded count sum → unsigned_abs sum ≤ 79228162514264337593543950336
sum-few count (pos n) h b = omega (arith, ints, b.greatest)
sum-few count (negsuc n) h b = omega (arith, ints, b.least)
