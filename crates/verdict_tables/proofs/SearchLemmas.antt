-- A search by halves for the last range that begins at a tag or before it.
use Rattle.std.proofs.Common.{arith, ◌≡◌, ℕ, suc, ◌+◌, ◌-◌, ◌*◌, ◌/◌, ◌^◌, ◌<◌, ◌≤◌, sym, ◌∙◌, ap, subst, Some, length}
use Rattle.std.specs.Prelude.{slice_get}
use Rattle.std.proofs.lemmas.Option.{slice_get_within}
use Rattle.std.proofs.Math.Nat.{pow-succ', mul-le-mul_left}
use Rattle.hk_base.proofs.Membership.{some_value}
use Rattle.verdict_tables.specs.Tables.{RangeParts, IsRanges, IsSearched}
use Rattle.verdict_tables.proofs.RisingLemmas.{rises, begun-there}

-- after so many probes the range that is looked for is from one number on and before another
pub record IsBetween (ranges : RangeParts) (tag last end probes : ℕ) : Type 0 where
  pub order : last < end
  pub within : end ≤ length ranges.firsts
  pub below : (first : ℕ) → slice_get ranges.firsts last ≡ Some first → first ≤ tag
  pub above : (first : ℕ) → slice_get ranges.firsts end ≡ Some first → tag < first
  pub left : 2 ^ probes * (end - last - 1) < length ranges.firsts
  pub spent : 2 ^ probes ≤ 2 * length ranges.firsts

pub between-all : (ranges : RangeParts) (tag end probes : ℕ) → IsRanges ranges → end ≡ length ranges.firsts → probes ≡ 0 → IsBetween ranges tag 0 end probes
between-all ranges tag end probes is e p =
    let some = slice_get_within ranges.firsts 0 0 is.begin in
    record {
      order = omega (arith, some, e);
      within = omega (arith, e);
      below = λ first at. omega (arith, some_value first 0 (sym at ∙ is.begin));
      above = λ first at. absurd (omega (arith, slice_get_within ranges.firsts end first at, e));
      left = subst (λ n. 2 ^ n * (end - 0 - 1) < length ranges.firsts) (sym p) (omega (arith, some, e));
      spent = subst (λ n. 2 ^ n ≤ 2 * length ranges.firsts) (sym p) (omega (arith, some));
    }

-- twice as much of half as much
halved : (p g x n q : ℕ) → q ≡ 2 * p → 2 * x ≤ g → p * g < n → q * x < n
halved p g x n q e l h =
    let product : p * (2 * x) ≤ p * g = mul-le-mul_left p l in
    let twice : (2 * p) * x ≡ p * (2 * x) = grind arith in
    let same : q * x ≡ p * (2 * x) = ap (λ z. z * x) e ∙ twice in
    omega (arith, product, same, h)

doubled : (p g n q : ℕ) → q ≡ 2 * p → 1 ≤ g → p * g < n → q ≤ 2 * n
doubled p g n q e l h =
    let product : p * 1 ≤ p * g = mul-le-mul_left p l in
    omega (arith, product, e, h)

more : (old new : ℕ) → new ≡ old + 1 → 2 ^ new ≡ 2 * 2 ^ old
more old new e = ap (λ n. 2 ^ n) (let s : new ≡ suc old = omega (arith, e) in s) ∙ pow-succ' 2 old

-- a probe between the two
pub between-later : (ranges : RangeParts) (tag last end middle first old new : ℕ) → IsBetween ranges tag last end old → 1 < end - last → middle ≡ last + (end - last) / 2 → new ≡ old + 1
    → slice_get ranges.firsts middle ≡ Some first → first ≤ tag → IsBetween ranges tag middle end new
between-later ranges tag last end middle first old new is wide m e at low =
    record {
      order = omega (arith, wide, m);
      within = is.within;
      below = λ f there. omega (arith, low, some_value f first (sym there ∙ at));
      above = is.above;
      left = halved (2 ^ old) (end - last - 1) (end - middle - 1) (length ranges.firsts) (2 ^ new) (more old new e) (omega (arith, wide, m)) is.left;
      spent = doubled (2 ^ old) (end - last - 1) (length ranges.firsts) (2 ^ new) (more old new e) (omega (arith, wide)) is.left;
    }

pub between-earlier : (ranges : RangeParts) (tag last end middle first old new : ℕ) → IsBetween ranges tag last end old → 1 < end - last → middle ≡ last + (end - last) / 2 → new ≡ old + 1
    → slice_get ranges.firsts middle ≡ Some first → tag < first → IsBetween ranges tag last middle new
between-earlier ranges tag last end middle first old new is wide m e at high =
    record {
      order = omega (arith, wide, m);
      within = omega (arith, is.within, wide, m);
      below = is.below;
      above = λ f there. omega (arith, high, some_value f first (sym there ∙ at));
      left = halved (2 ^ old) (end - last - 1) (middle - last - 1) (length ranges.firsts) (2 ^ new) (more old new e) (omega (arith, wide, m)) is.left;
      spent = doubled (2 ^ old) (end - last - 1) (length ranges.firsts) (2 ^ new) (more old new e) (omega (arith, wide)) is.left;
    }

-- nothing is between them
pub between-found : (ranges : RangeParts) (tag last end probes : ℕ) → IsRanges ranges → IsBetween ranges tag last end probes → end - last ≤ 1 → IsSearched ranges tag last
between-found ranges tag last end probes is between narrow =
    record {
      within = omega (arith, between.order, between.within);
      last = sym (begun-there tag ranges.firsts last (rises ranges.firsts is.rising) (omega (arith, between.order, between.within)) between.below
          (λ first at. between.above first (subst (λ n. slice_get ranges.firsts n ≡ Some first) (let e : last + 1 ≡ end = omega (arith, between.order, narrow) in e) at)));
    }
