-- Which samples a slot files that was run up to a step.
use Rattle.std.proofs.Common.{◌≡◌, ◌≢◌, ℕ, ◌+◌, ◌<◌, ◌≤◌, ◌⊎◌, inl, inr, Bool, true, false, ◌==◌, List, [], ◌∷◌, ◌++◌, length, map, filter, reverse, refl, sym, ◌∙◌, ap, subst, arith}
use lib.ListN.{get_or}
use Rattle.std.specs.List.{list_any, AllByRecursion}
use Rattle.std.proofs.lemmas.Bool.{eqb-true, eqb-false, false_from_ne_true}
use Rattle.std.proofs.lemmas.List.{get_or_default, append_cancel_left, append_assoc}
use Rattle.rtrb.specs.Ring.{received, known_items}
use Rattle.hk_base.specs.Fit.{IsFit}
use Rattle.hk_base.specs.declared.outside.Sensor.{Ghosts}
use Rattle.hk_world.specs.declared.moment.Moment.{Moment}
use Rattle.board_steps.specs.Cores.{Core}
use Rattle.board_steps.specs.declared.event.Sample.{Sample}
use Rattle.board_steps.specs.declared.event.BoardFault.{BoardFault}
use Rattle.sampler_threads.specs.Samples.{sent_by}
use Rattle.board_steps.specs.SlotRuns.{Ahead, at_start}
use Rattle.sampler_threads.specs.Deeds.{Deed, takings, items_from, sample_of}
use Rattle.sampler_threads.specs.Slots.{Ring, RanPart, AreReadings}
use Rattle.sampler_threads.specs.Samplings.{AreFresh, FiledPart, is_ordered, samples_of, sensed_filings}
use Rattle.sampler_threads.specs.declared.item.Item.{Item}
use Rattle.sampler_threads.specs.declared.item.Order.{Order}
use Rattle.sampler_threads.specs.declared.slot.Sampler.{Sampler}
use Rattle.sampler_threads.proofs.SettleLemmas.{some_of}
use Rattle.sampler_threads.proofs.FilingLemmas.{CanFile, filed_in_order}
use Rattle.sampler_threads.proofs.ApartLemmas.{DistinctItems, map_all, all_by_rings, apart_by_rings, ring_samples, readings_ordered, readings_distinct, readings_can, any_apart}
use Rattle.sampler_threads.proofs.FinalLemmas.{below_or_not}

-- what is so of all is so of the first ones
all_front : (P : Item → Type 0) (xs ys : List Item) → AllByRecursion P (xs ++ ys) → AllByRecursion P xs
all_front P [] ys h = tt
all_front P (x ∷ xs) ys h = (h.0, all_front P xs ys h.1)

distinct_front : (xs ys : List Item) → DistinctItems (xs ++ ys) → DistinctItems xs
distinct_front [] ys h = tt
distinct_front (x ∷ xs) ys h = (all_front (λ (y : Item). y.param ≢ x.param) xs ys h.0, distinct_front xs ys h.1)

-- nothing was sent, or all readings
by_sent : (P : Item → Type 0) (items : List Item) (R : Type 0) → (items ≡ []) ⊎ R → (R → AllByRecursion P items) → AllByRecursion P items
by_sent P items R (inl e) f = subst (λ w. AllByRecursion P w) (sym e) tt
by_sent P items R (inr r) f = f r

distinct_by_sent : (items : List Item) (R : Type 0) → (items ≡ []) ⊎ R → (R → DistinctItems items) → DistinctItems items
distinct_by_sent items R (inl e) f = subst (λ w. DistinctItems w) (sym e) tt
distinct_by_sent items R (inr r) f = f r

module _ {N : Type 0} (g : Ghosts N) (ups : List (List ℕ)) (core : Core) (rings : List Ring) (xs : List (Sampler N)) (fault : BoardFault) (ds : List Deed) (ahead : Ahead) (after : Core) (rings_after : List Ring) (ys : List (Sampler N))
    (count : length xs ≡ length rings) (ran : RanPart g core.tailoring ups core rings xs fault ds ahead after rings_after ys) (fit : IsFit core.tailoring) (fresh : AreFresh core rings xs) where
  -- what was taken out of a ring begins what was sent into it in this slot
  abbrev left : (k : ℕ) → k < length xs → List Item
  left k below =
      let inside : k < length rings = omega (arith, count, below) in known_items (get_or rings_after k (some_of rings k inside))

  taken : (k : ℕ) (s : Sampler N) (below : k < length xs) → items_from k (takings ds) ++ left k below ≡ (ran.sampled.each k s below).items.0
  taken k s below =
      let inside : k < length rings = omega (arith, count, below) in
      let r = some_of rings k inside in
      let there : k < length rings_after = omega (arith, ran.received.count, inside) in
      let i = (ran.sampled.each k s below).items in
      let from = items_from k (takings ds) in
      let known = known_items (get_or rings_after k r) in
      append_cancel_left (received (get_or rings k r)) (from ++ known) i.0
      (sym (append_assoc (received (get_or rings k r)) from known)
      ∙ (ap (λ w. w ++ known) (sym (ran.received.items k r inside))
      ∙ (ran.whole.each k r s there ∙ (i.1 ∙ ap (λ w. w ++ i.0) (sym (fresh.empty k r s below))))))

  abbrev Owned : ℕ → ℕ → Type 0
  Owned k p = (k < length xs) × ((s : Sampler N) → list_any (λ o. o.param == p) (get_or xs k s).orders ≡ true)

  excl : (j k p : ℕ) → j ≢ k → Owned j p → Owned k p → ⊥
  excl j k p ne a b =
      let s = some_of xs j a.0 in any_apart p (get_or xs j s).orders (get_or xs k s).orders (fresh.apart j k s a.0 b.0 ne) (a.1 s) (b.1 s)

  front : (P : Item → Type 0) (k : ℕ) (s : Sampler N) (below : k < length xs) → AllByRecursion P (ran.sampled.each k s below).items.0 → AllByRecursion P (items_from k (takings ds))
  front P k s below h = all_front P (items_from k (takings ds)) (left k below) (subst (λ w. AllByRecursion P w) (sym (taken k s below)) h)

  owned_at : (k : ℕ) → (k < length xs) ⊎ (length xs ≤ k) → AllByRecursion (λ (i : Item). Owned k i.param) (items_from k (takings ds))
  owned_at k (inl below) =
      let s = some_of xs k below in
      let e = (ran.sampled.each k s below).items in
      let at : Sampler N = get_or xs k s in
      front (λ (i : Item). Owned k i.param) k s below
      (by_sent (λ (i : Item). Owned k i.param) e.0 (AreReadings g core.tailoring at.sensor at.orders e.0) e.2 (λ readings.
      map_all (λ (i : Item). list_any (λ o. o.param == i.param) at.orders ≡ true) (λ (i : Item). Owned k i.param)
      (λ i h. (below, λ z. subst (λ (w : Sampler N). list_any (λ o. o.param == i.param) w.orders ≡ true) (get_or_default xs k s z below) h)) e.0
      (readings_ordered g core.tailoring at.sensor at.orders e.0 readings)))
  owned_at k (inr above) = subst (λ w. AllByRecursion (λ (i : Item). Owned k i.param) w) (sym (ran.received.others k (omega (arith, count, above)))) tt

  distinct_at : (k : ℕ) → (k < length xs) ⊎ (length xs ≤ k) → DistinctItems (items_from k (takings ds))
  distinct_at k (inl below) =
      let s = some_of xs k below in
      let e = (ran.sampled.each k s below).items in
      let at : Sampler N = get_or xs k s in
      distinct_front (items_from k (takings ds)) (left k below) (subst (λ w. DistinctItems w) (sym (taken k s below))
      (distinct_by_sent e.0 (AreReadings g core.tailoring at.sensor at.orders e.0) e.2
      (λ readings. readings_distinct g core.tailoring at.sensor at.orders e.0 readings (fresh.distinct k s below))))
  distinct_at k (inr above) = subst (λ w. DistinctItems w) (sym (ran.received.others k (omega (arith, count, above)))) tt

  can_at : (k : ℕ) → (k < length xs) ⊎ (length xs ≤ k) → AllByRecursion (λ (i : Item). CanFile core (sample_of i)) (items_from k (takings ds))
  can_at k (inl below) =
      let s = some_of xs k below in
      let e = (ran.sampled.each k s below).items in
      let at : Sampler N = get_or xs k s in
      front (λ (i : Item). CanFile core (sample_of i)) k s below
      (by_sent (λ (i : Item). CanFile core (sample_of i)) e.0 (AreReadings g core.tailoring at.sensor at.orders e.0) e.2
      (λ readings. readings_can g core at.sensor at.orders e.0 readings (fresh.due k s below)))
  can_at k (inr above) = subst (λ w. AllByRecursion (λ (i : Item). CanFile core (sample_of i)) w) (sym (ran.received.others k (omega (arith, count, above)))) tt

  told_at : (k : ℕ) (s : Sampler N) (below : k < length xs) (j : ℕ) (b : Bool) → (j == k) ≡ b → (i : Item) → Owned j i.param → (z : Sample) → z.param ≡ i.param → is_ordered (get_or xs k s).orders z ≡ b
  told_at k s below j true e i own z same =
      subst (λ p. list_any (λ o. o.param == p) (get_or xs k s).orders ≡ true) (sym same)
      (subst (λ n. list_any (λ o. o.param == i.param) (get_or xs n s).orders ≡ true) (eqb-true j k e) (own.1 s))
  told_at k s below j false e i own z same =
      false_from_ne_true (is_ordered (get_or xs k s).orders z) (λ yes.
      excl j k i.param (λ q. eqb-false j k e q) own (
        below,
        λ w. subst (λ (v : Sampler N). list_any (λ o. o.param == i.param) v.orders ≡ true) (get_or_default xs k s w below)
            (subst (λ p. list_any (λ o. o.param == p) (get_or xs k s).orders ≡ true) same yes),
      ))

  -- of each sampler
  pub filed_part : (k : ℕ) (s : Sampler N) → k < length xs → (m : List Moment) × (after.moments ≡ reverse m ++ core.moments) × FiledPart g core.tailoring m (get_or xs k s)
  filed_part k s below =
      let ts = takings ds in
      let all = filed_in_order (at_start ups) ahead core after ds fit ran.went
      (all_by_rings (λ j i. CanFile core (sample_of i)) ts (λ j. can_at j (below_or_not j (length xs))))
      (apart_by_rings Owned excl ts (λ j. owned_at j (below_or_not j (length xs))) (λ j. distinct_at j (below_or_not j (length xs)))) in
      let told = all_by_rings (λ j i. (z : Sample) → z.param ≡ i.param → is_ordered (get_or xs k s).orders z ≡ (j == k)) ts
      (λ j. map_all (λ (i : Item). Owned j i.param) (λ (i : Item). (z : Sample) → z.param ≡ i.param → is_ordered (get_or xs k s).orders z ≡ (j == k))
      (λ i own. told_at k s below j (j == k) refl i own) (items_from j ts) (owned_at j (below_or_not j (length xs)))) in
      let e = (ran.sampled.each k s below).items in (
        all.0,
        all.1,
        (
          items_from k ts,
          left k below,
          ap (filter (is_ordered (get_or xs k s).orders)) all.2 ∙ ring_samples k (get_or xs k s).orders ts told,
          subst (λ w. (w ≡ []) ⊎ AreReadings g core.tailoring (get_or xs k s).sensor (get_or xs k s).orders w) (sym (taken k s below)) e.2,
        ),
      )
