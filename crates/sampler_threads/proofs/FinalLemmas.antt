-- Which samples a whole slot files.
use Rattle.std.proofs.Common.{◌≡◌, ◌≢◌, ℕ, ◌+◌, ◌<◌, ◌≤◌, ◌⊎◌, inl, inr, Bool, true, false, ◌==◌, List, [], ◌∷◌, ◌++◌, length, map, filter, reverse, refl, sym, ◌∙◌, ap, subst, arith}
use lib.ListN.{get_or}
use Rattle.std.specs.List.{list_any, AllByRecursion}
use Rattle.std.proofs.lemmas.Bool.{eqb-true, eqb-false, false_from_ne_true, cases_order}
use Rattle.std.proofs.lemmas.List.{get_or_default, append_cancel_left}
use Rattle.rtrb.specs.Ring.{received}
use Rattle.hk_base.specs.Fit.{IsFit}
use Rattle.hk_base.specs.declared.outside.Sensor.{Ghosts}
use Rattle.hk_world.specs.declared.moment.Moment.{Moment}
use Rattle.board_steps.specs.Cores.{Core}
use Rattle.board_steps.specs.declared.event.Sample.{Sample}
use Rattle.sampler_threads.specs.Samples.{sent_by}
use Rattle.sampler_threads.specs.Deeds.{Deed, takings, items_from, sample_of}
use Rattle.board_steps.specs.SlotRuns.{at_start, at_end}
use Rattle.sampler_threads.specs.Slots.{Ring, Ran, Settled}
use Rattle.sampler_threads.specs.Samplings.{AreFresh, Filed, is_ordered, samples_of, sensed_filings}
use Rattle.sampler_threads.specs.declared.item.Item.{Item}
use Rattle.sampler_threads.specs.declared.item.Order.{Order}
use Rattle.sampler_threads.specs.declared.slot.Sampler.{Sampler}
use Rattle.sampler_threads.proofs.SettleLemmas.{some_of}
use Rattle.sampler_threads.proofs.FilingLemmas.{CanFile, filed_in_order}
use Rattle.sampler_threads.proofs.ApartLemmas.{DistinctItems, map_all, all_by_rings, apart_by_rings, ring_samples, readings_ordered, readings_distinct, readings_can, any_apart}

from_order : (k n : ℕ) → (k ≡ n) ⊎ ((k < n) ⊎ (n < k)) → (k < n) ⊎ (n ≤ k)
from_order k n (inl e) = inr (omega (arith, e))
from_order k n (inr (inl l)) = inl l
from_order k n (inr (inr l)) = inr (omega (arith, l))

pub below_or_not : (k n : ℕ) → (k < n) ⊎ (n ≤ k)
below_or_not k n = from_order k n (cases_order k n)

module _ {N : Type 0} (g : Ghosts N) (ups : List (List ℕ)) (core : Core) (rings : List Ring) (xs : List (Sampler N)) (ds : List Deed) (after : Core) (rings_after : List Ring) (ys : List (Sampler N))
    (count : length xs ≡ length rings) (ran : Ran g core.tailoring ups core rings xs ds after rings_after ys) (fit : IsFit core.tailoring) (fresh : AreFresh core rings xs) where
  -- the items of a sampler
  abbrev items_of : (k : ℕ) → k < length xs → List Item
  items_of k below = (ran.sampled.each k (some_of xs k below) below).items.0

  -- what was taken out of a ring is what was sent into it in this slot
  taken : (k : ℕ) (s : Sampler N) (below : k < length xs) → items_from k (takings ds) ≡ (ran.sampled.each k s below).items.0
  taken k s below =
      let inside : k < length rings = omega (arith, count, below) in
      let r = some_of rings k inside in
      let there : k < length rings_after = omega (arith, ran.received.count, inside) in
      let i = (ran.sampled.each k s below).items in
      append_cancel_left (received (get_or rings k r)) (items_from k (takings ds)) i.0
      (sym (ran.received.items k r inside)
      ∙ ((ran.settled.each k r s there).whole ∙ (i.1 ∙ ap (λ w. w ++ i.0) (sym (fresh.empty k r s below)))))

  abbrev Owned : ℕ → ℕ → Type 0
  Owned k p = (k < length xs) × ((s : Sampler N) → list_any (λ o. o.param == p) (get_or xs k s).orders ≡ true)

  excl : (j k p : ℕ) → j ≢ k → Owned j p → Owned k p → ⊥
  excl j k p ne a b =
      let s = some_of xs j a.0 in any_apart p (get_or xs j s).orders (get_or xs k s).orders (fresh.apart j k s a.0 b.0 ne) (a.1 s) (b.1 s)

  owned_at : (k : ℕ) → (k < length xs) ⊎ (length xs ≤ k) → AllByRecursion (λ (i : Item). Owned k i.param) (items_from k (takings ds))
  owned_at k (inl below) =
      let s = some_of xs k below in
      let e = ran.sampled.each k s below in
      subst (λ w. AllByRecursion (λ (i : Item). Owned k i.param) w) (sym (taken k s below))
      (map_all (λ (i : Item). list_any (λ o. o.param == i.param) (get_or xs k s).orders ≡ true) (λ (i : Item). Owned k i.param)
      (λ i h. (below, λ z. subst (λ (w : Sampler N). list_any (λ o. o.param == i.param) w.orders ≡ true) (get_or_default xs k s z below) h)) e.items.0
      (readings_ordered g core.tailoring (get_or xs k s).sensor (get_or xs k s).orders e.items.0 e.items.2))
  owned_at k (inr above) = subst (λ w. AllByRecursion (λ (i : Item). Owned k i.param) w) (sym (ran.received.others k (omega (arith, count, above)))) tt

  distinct_at : (k : ℕ) → (k < length xs) ⊎ (length xs ≤ k) → DistinctItems (items_from k (takings ds))
  distinct_at k (inl below) =
      let s = some_of xs k below in
      let e = ran.sampled.each k s below in
      subst (λ w. DistinctItems w) (sym (taken k s below))
      (readings_distinct g core.tailoring (get_or xs k s).sensor (get_or xs k s).orders e.items.0 e.items.2 (fresh.distinct k s below))
  distinct_at k (inr above) = subst (λ w. DistinctItems w) (sym (ran.received.others k (omega (arith, count, above)))) tt

  can_at : (k : ℕ) → (k < length xs) ⊎ (length xs ≤ k) → AllByRecursion (λ (i : Item). CanFile core (sample_of i)) (items_from k (takings ds))
  can_at k (inl below) =
      let s = some_of xs k below in
      let e = ran.sampled.each k s below in
      subst (λ w. AllByRecursion (λ (i : Item). CanFile core (sample_of i)) w) (sym (taken k s below))
      (readings_can g core (get_or xs k s).sensor (get_or xs k s).orders e.items.0 e.items.2 (fresh.due k s below))
  can_at k (inr above) = subst (λ w. AllByRecursion (λ (i : Item). CanFile core (sample_of i)) w) (sym (ran.received.others k (omega (arith, count, above)))) tt

  told_at : (k : ℕ) (s : Sampler N) (below : k < length xs) (j : ℕ) (b : Bool) → (j == k) ≡ b → (i : Item) → Owned j i.param → (z : Sample) → z.param ≡ i.param → is_ordered (get_or xs k s).orders z ≡ b
  told_at k s below j true e i own z same =
      subst (λ p. list_any (λ o. o.param == p) (get_or xs k s).orders ≡ true) (sym same)
      (subst (λ n. list_any (λ o. o.param == i.param) (get_or xs n s).orders ≡ true) (eqb-true j k e) (own.1 s))
  told_at k s below j false e i own z same =
      false_from_ne_true (is_ordered (get_or xs k s).orders z) (λ yes.
      excl j k i.param (λ q. eqb-false j k e q) own (
        below,
        λ w. subst (λ (v : Sampler N). list_any (λ o. o.param == i.param) v.orders ≡ true) (get_or_default xs k s w below)
            (subst (λ p. list_any (λ o. o.param == p) (get_or xs k s).orders ≡ true) same yes),
      ))

  -- of each sampler
  pub filed_each : (k : ℕ) (s : Sampler N) → k < length xs → (m : List Moment) × (after.moments ≡ reverse m ++ core.moments) × Filed g core.tailoring m (get_or xs k s) (get_or ys k s)
  filed_each k s below =
      let ts = takings ds in
      let all = filed_in_order (at_start ups) at_end core after ds fit ran.went
      (all_by_rings (λ j i. CanFile core (sample_of i)) ts (λ j. can_at j (below_or_not j (length xs))))
      (apart_by_rings Owned excl ts (λ j. owned_at j (below_or_not j (length xs))) (λ j. distinct_at j (below_or_not j (length xs)))) in
      let told = all_by_rings (λ j i. (z : Sample) → z.param ≡ i.param → is_ordered (get_or xs k s).orders z ≡ (j == k)) ts
      (λ j. map_all (λ (i : Item). Owned j i.param) (λ (i : Item). (z : Sample) → z.param ≡ i.param → is_ordered (get_or xs k s).orders z ≡ (j == k))
      (λ i own. told_at k s below j (j == k) refl i own) (items_from j ts) (owned_at j (below_or_not j (length xs)))) in
      let e = (ran.sampled.each k s below).items in (
        all.0,
        all.1,
        (
          e.0,
          ap (filter (is_ordered (get_or xs k s).orders)) all.2 ∙ (ring_samples k (get_or xs k s).orders ts told ∙ ap samples_of (taken k s below)),
          e.2,
          e.3,
        ),
      )
