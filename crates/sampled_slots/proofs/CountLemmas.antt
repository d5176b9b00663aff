-- How far the counts of faults rise while samplers sample.
use Rattle.std.proofs.Common.{arith, ◌≡◌, ℕ, suc, ◌+◌, ◌-◌, ◌<◌, ◌≤◌, min, refl, sym, ap, subst, ◌∙◌, List, [], ◌∷◌, length, filter, Bool, true, false, ◌⊎◌, inl, inr, ⊎_elim}
use Rattle.std.specs.Prelude.{nat_le, slice_index_or}
use Rattle.std.proofs.lemmas.Bool.{leb-true, leb-false, le-leb, false≢true, or_left, or_right, or_cases}
use Rattle.std.proofs.lemmas.List.{length-map}
use Rattle.hk_base.specs.Fit.{IsFit}
use Rattle.hk_base.specs.Outside.{most_faults}
use Rattle.hk_base.specs.TailoringParts.{TailoringParts}
use Rattle.hk_base.specs.declared.outside.Sensor.{Ghosts}
use Rattle.hk_world.specs.declared.moment.Moment.{Moment}
use Rattle.board_steps.specs.SlotRuns.{filings}
use Rattle.sampler_threads.specs.Orders.{orders_for, dealt, sensed}
use Rattle.sampler_threads.specs.Samplings.{Filed, samples_of, is_ordered, sensed_filings}
use Rattle.sampler_threads.specs.Slots.{AreReadings, failures}
use Rattle.sampler_threads.specs.declared.slot.Sampler.{Sampler}
use Rattle.board_runs.specs.Samplers.{filings_of, faults_of, is_at_end, AreCounted}
use Rattle.sampled_slots.specs.Seats.{sensors_of, HaveSeats, AreFiled}
use Rattle.sampled_slots.proofs.ParamLemmas.{dealt-own, sensed-apart}
use Rattle.sampled_slots.proofs.ReadingLemmas.{filing, filings-read, filings-count, samples_among, readings-count}
use Rattle.sampled_slots.proofs.SeatLemmas.{member}
use Rattle.sampled_slots.proofs.SumLemmas.{sum_from, sum-same, sum-add, dealt-lengths, samples-shared}

-- how many orders of a sampler have no filing
abbrev pub missing_of : TailoringParts → ℕ → List Moment → ℕ → ℕ
missing_of t count ms k = length (dealt count k 0 (sensed t.params)) - length (filings_of (dealt count k 0 (sensed t.params)) ms)

-- what samplers haven't filed, with what was filed, is all that is sensed
total : (t : TailoringParts) (n : ℕ) (ms : List Moment) → IsFit t → 0 < n
    → ((k : ℕ) → k < n → missing_of t n ms k + length (filings_of (dealt n k 0 (sensed t.params)) ms) ≡ length (dealt n k 0 (sensed t.params)))
    → length (sensed t.params) ≤ sum_from (missing_of t n ms) 0 n + length (filings_of (sensed t.params) ms)
total t n ms fit some h =
    let ps = sensed t.params in
    let filed : ℕ → ℕ = λ k. length (filings_of (dealt n k 0 ps) ms) in
    let each : ℕ → ℕ = λ k. length (dealt n k 0 ps) in
    let samples : ℕ → ℕ = λ k. length (samples_among (dealt n k 0 ps) (filings ms)) in
    let lengths = dealt-lengths n 0 ps some in
    let parts = sum-same (λ k. missing_of t n ms k + filed k) each 0 n (λ k below. h k (omega (arith, below))) in
    let added = sum-add (missing_of t n ms) filed 0 n in
    let same = sum-same filed samples 0 n (λ k below. filings-count (dealt n k 0 ps) ms) in
    let shared = samples-shared n ps (filings ms) (sensed-apart t fit) in
    let whole = filings-count ps ms in
    omega (arith, lengths, parts, added, same, shared, whole)

module _ {S : Type 0} (g : Ghosts S) where
  -- what one sampler has filed and what it hasn't
  pub record HasRisenBy (t : TailoringParts) (count : ℕ) (ms : List Moment) (k : ℕ) (s after : Sampler S) : Type 0 where
    pub all : missing_of t count ms k + length (filings_of (dealt count k 0 (sensed t.params)) ms) ≡ length (dealt count k 0 (sensed t.params))
    pub risen : min (g.faults s.sensor + missing_of t count ms k) most_faults ≤ g.faults after.sensor

  pub risen-by : (t : TailoringParts) (count k slot : ℕ) (ms : List Moment) (s after : Sampler S) → IsFit t → s.orders ≡ orders_for t count k slot → Filed g t ms s after
      → HasRisenBy t count ms k s after
  risen-by t count k slot ms s after fit orders h =
      let ps = dealt count k 0 (sensed t.params) in
      let read = filings-read t slot ps ms h.0 (dealt-own t count k fit) (subst (λ os. filter (is_ordered os) (sensed_filings t ms) ≡ samples_of h.0) orders h.1) in
      let filed : length (filings_of ps ms) ≡ length (samples_of h.0) = ap length read ∙ length-map (samples_of h.0) filing in
      let both = readings-count g t s.sensor slot ps h.0 (subst (λ os. AreReadings g t s.sensor os h.0) orders h.2) in
      let missing : missing_of t count ms k ≡ failures h.0 = omega (arith, filed, both) in
      record {
        all = omega (arith, missing, filed, both);
        risen = subst (λ n. min (g.faults s.sensor + n) most_faults ≤ g.faults after.sensor) (sym missing) h.3;
      }

  -- the counts rise by as much, unless one has come to its end
  sums : (f : ℕ → ℕ) (i : ℕ) (xs ys : List (Sampler S)) → length ys ≡ length xs
      → ((k : ℕ) (s : Sampler S) → k < length xs → min (g.faults (slice_index_or xs k s).sensor + f (i + k)) most_faults ≤ g.faults (slice_index_or ys k s).sensor)
      → (is_at_end g (sensors_of ys) ≡ true) ⊎ (sum_from f i (length xs) + faults_of g (sensors_of xs) ≤ faults_of g (sensors_of ys))
  sums f i [] [] e h = inr (omega arith)
  sums f i [] (y ∷ ys) e h = absurd (omega (arith, e))
  sums f i (x ∷ xs) [] e h = absurd (omega (arith, e))
  sums f i (x ∷ xs) (y ∷ ys) e h =
      by (nat_le most_faults (g.faults y.sensor)) refl
      (sums f (suc i) xs ys (omega (arith, e)) (λ k s below.
      let next : i + suc k ≡ suc i + k = omega arith in
      subst (λ j. min (g.faults (slice_index_or xs k s).sensor + f j) most_faults ≤ g.faults (slice_index_or ys k s).sensor) next (h (suc k) s (omega (arith, below)))))
    where
      by : (b : Bool) → nat_le most_faults (g.faults y.sensor) ≡ b
          → (is_at_end g (sensors_of ys) ≡ true) ⊎ (sum_from f (suc i) (length xs) + faults_of g (sensors_of xs) ≤ faults_of g (sensors_of ys))
          → (is_at_end g (sensors_of (y ∷ ys)) ≡ true) ⊎ ((f i + sum_from f (suc i) (length xs)) + (g.faults x.sensor + faults_of g (sensors_of xs)) ≤ g.faults y.sensor + faults_of g (sensors_of ys))
      by true b rest = inl (or_left (nat_le most_faults (g.faults y.sensor)) (is_at_end g (sensors_of ys)) b)
      by false b (inl end) = inl (or_right (nat_le most_faults (g.faults y.sensor)) (is_at_end g (sensors_of ys)) end)
      by false b (inr rest) =
          let low = leb-false most_faults (g.faults y.sensor) b in
          let place : i + 0 ≡ i = omega arith in
          let here : min (g.faults x.sensor + f i) most_faults ≤ g.faults y.sensor = subst (λ j. min (g.faults x.sensor + f j) most_faults ≤ g.faults y.sensor) place (h 0 x (omega arith)) in
          inr (omega (arith, low, here, rest))

  -- a count that has come to its end stays there
  pub end-stays : (xs ys : List (Sampler S)) → length ys ≡ length xs
      → ((k : ℕ) (s : Sampler S) → k < length xs → min (g.faults (slice_index_or xs k s).sensor) most_faults ≤ g.faults (slice_index_or ys k s).sensor)
      → is_at_end g (sensors_of xs) ≡ true → is_at_end g (sensors_of ys) ≡ true
  end-stays [] ys e h end = absurd (false≢true end)
  end-stays (x ∷ xs) [] e h end = absurd (omega (arith, e))
  end-stays (x ∷ xs) (y ∷ ys) e h end =
      by (or_cases (nat_le most_faults (g.faults x.sensor)) (is_at_end g (sensors_of xs)) end)
      (λ later. end-stays xs ys (omega (arith, e)) (λ k s below. h (suc k) s (omega (arith, below))) later)
    where
      by : (nat_le most_faults (g.faults x.sensor) ≡ true) ⊎ (is_at_end g (sensors_of xs) ≡ true) → (is_at_end g (sensors_of xs) ≡ true → is_at_end g (sensors_of ys) ≡ true)
          → is_at_end g (sensors_of (y ∷ ys)) ≡ true
      by (inl b) rest =
          let high = leb-true most_faults (g.faults x.sensor) b in
          let here : min (g.faults x.sensor) most_faults ≤ g.faults y.sensor = h 0 x (omega arith) in
          or_left (nat_le most_faults (g.faults y.sensor)) (is_at_end g (sensors_of ys)) (le-leb most_faults (g.faults y.sensor) (omega (arith, high, here)))
      by (inr later) rest = or_right (nat_le most_faults (g.faults y.sensor)) (is_at_end g (sensors_of ys)) (rest later)

  -- of a whole slot
  pub slot-counted : (t : TailoringParts) (was : List S) (slot : ℕ) (ms : List Moment) (samplers after : List (Sampler S)) → IsFit t → 0 < length was
      → HaveSeats g t was slot samplers → length after ≡ length samplers → AreFiled g t ms samplers after
      → (is_at_end g (sensors_of after) ≡ true)
      ⊎ ((length (sensed t.params) - length (filings_of (sensed t.params) ms)) + faults_of g (sensors_of samplers) ≤ faults_of g (sensors_of after))
  slot-counted t was slot ms samplers after fit some seats same filed =
      let many : length samplers ≡ length was = sym (length-map samplers (λ (x : Sampler S). x.sensor)) ∙ seats.stayed.count in
      let one = λ (k : ℕ) (s : Sampler S) (below : k < length samplers).
      risen-by t (length was) k slot ms (slice_index_or samplers k s) (slice_index_or after k s) fit (seats.orders k s below) (filed k s below) in
      let all = total t (length was) ms fit some (λ k below. let here : k < length samplers = omega (arith, below, many) in (one k (member samplers k here) here).all) in
      ⊎_elim (λ end. inl end)
      (λ rest.
      let rise = subst (λ n. sum_from (missing_of t (length was) ms) 0 n + faults_of g (sensors_of samplers) ≤ faults_of g (sensors_of after)) many rest in
      inr (omega (arith, rise, all)))
      (sums (missing_of t (length was) ms) 0 samplers after same (λ k s below.
      let place : k ≡ 0 + k = omega arith in
      subst (λ j. min (g.faults (slice_index_or samplers k s).sensor + missing_of t (length was) ms j) most_faults ≤ g.faults (slice_index_or after k s).sensor) place
      (one k s below).risen))

  pub slot-at-end : (t : TailoringParts) (ms : List Moment) (samplers after : List (Sampler S)) → length after ≡ length samplers → AreFiled g t ms samplers after
      → is_at_end g (sensors_of samplers) ≡ true → is_at_end g (sensors_of after) ≡ true
  slot-at-end t ms samplers after same filed end =
      end-stays samplers after same (λ k s below. let r = (filed k s below).3 in omega (arith, r)) end

  -- one slot more
  pub counted-more : (t : TailoringParts) (was is after : List S) (ms : List Moment) (slots : List (List Moment)) → AreCounted g t was is slots
      → (is_at_end g is ≡ true → is_at_end g after ≡ true)
      → (is_at_end g after ≡ true) ⊎ ((length (sensed t.params) - length (filings_of (sensed t.params) ms)) + faults_of g is ≤ faults_of g after)
      → AreCounted g t was after (ms ∷ slots)
  counted-more t was is after ms slots (inl end) stays one = inl (stays end)
  counted-more t was is after ms slots (inr few) stays (inl end) = inl end
  counted-more t was is after ms slots (inr few) stays (inr more) = inr (omega (arith, few, more))
