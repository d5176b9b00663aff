-- Samplers that were made for the ends of an executor can run a slot.
use Rattle.std.proofs.Common.{◌≡◌, ◌≢◌, ℕ, ◌+◌, ◌<◌, ◌≤◌, List, [], ◌∷◌, length, map, refl, sym, ◌∙◌, ap, subst, arith}
use lib.ListN.{get_or}
use Rattle.std.specs.List.{AllByRecursion}
use Rattle.std.proofs.lemmas.List.{length-map}
use Rattle.std.proofs.Math.ListN.{get_or-map}
use Rattle.rtrb.specs.Ring.{IsPair, received}
use Rattle.hk_base.specs.Fit.{IsFit}
use Rattle.hk_base.specs.TailoringParts.{TailoringParts}
use Rattle.board_steps.specs.Cores.{Core}
use Rattle.sampler_threads.specs.Samples.{sent_by, places_of}
use Rattle.sampler_threads.specs.Orders.{orders_for, dealt, sensed, orders_from}
use Rattle.sampler_threads.specs.Slots.{Ring, WithEach, FreshEnd, IsSamplerOf, CanOrderAll, AreKnown, ends_of}
use Rattle.sampler_threads.specs.Samplings.{AreFresh, NoneFiled, IsDue, AreDistinctOrders}
use Rattle.hk_base.specs.declared.types.Param.{Param}
use Rattle.sampler_threads.specs.declared.item.Order.{Order}
use Rattle.sampler_threads.specs.declared.end.SamplerEnd.{SamplerEnd}
use Rattle.sampler_threads.specs.declared.slot.Sampler.{Sampler}
use Rattle.sampler_threads.proofs.OrderLaws.{due_law, distinct_law, apart_law, known_law}

-- as many orders in every slot
same_length : (t : TailoringParts) (n k slot : ℕ) → length (orders_for t n k slot) ≡ length (orders_for t n k 0)
same_length t n k slot =
    length-map (dealt n k 0 (sensed t.params)) (λ (p : Param). record { param = p.id; slot = slot }) ∙ sym (length-map (dealt n k 0 (sensed t.params)) (λ (p : Param). record { param = p.id; slot = 0 }))

module _ {N : Type 0} where
  end_at : (ends : List SamplerEnd) (xs : List (Sampler N)) → ends_of xs ≡ ends → (k : ℕ) (s : Sampler N) → get_or ends k s.end ≡ (get_or xs k s).end
  end_at ends xs e k s = ap (λ w. get_or w k s.end) (sym e) ∙ get_or-map (λ (z : Sampler N). z.end) xs k s

  pub crew_ready : (t : TailoringParts) (n slot : ℕ) (rings : List Ring) (ends : List SamplerEnd) (xs : List (Sampler N)) → IsFit t → ends_of xs ≡ ends → WithEach FreshEnd rings ends
      → ((k : ℕ) (e : SamplerEnd) → k < length ends → places_of (get_or ends k e) ≡ length (orders_for t n k 0) + 1)
      → ((k : ℕ) (s : Sampler N) → k < length xs → (get_or xs k s).orders ≡ orders_for t n k slot)
      → WithEach IsSamplerOf rings xs × CanOrderAll t xs
  crew_ready t n slot rings ends xs fit e fresh places orders =
      let count : length xs ≡ length ends = sym (length-map xs (λ (z : Sampler N). z.end)) ∙ ap length e in (
        record {
          count = count ∙ fresh.count;
          each = λ j r x below. subst (λ (z : SamplerEnd). IsPair z.producer (get_or rings j r)) (end_at ends xs e j x) (fresh.each j r x.end below).0;
        },
        λ k s below. (
          subst (λ os. AreKnown t os) (sym (orders k s below)) (known_law t n k slot fit),
          omega (arith, ap length (orders k s below), same_length t n k slot, places k s.end (omega (arith, below, count)), ap places_of (end_at ends xs e k s)),
        ),
      )

  pub crew_fresh : (core : Core) (n : ℕ) (rings : List Ring) (ends : List SamplerEnd) (xs : List (Sampler N)) → IsFit core.tailoring → ends_of xs ≡ ends → WithEach FreshEnd rings ends
      → ((k : ℕ) (s : Sampler N) → k < length xs → (get_or xs k s).orders ≡ orders_for core.tailoring n k core.slot_now)
      → NoneFiled core → AreFresh core rings xs
  crew_fresh core n rings ends xs fit e fresh orders none =
      let count : length xs ≡ length ends = sym (length-map xs (λ (z : Sampler N). z.end)) ∙ ap length e in
      record {
        due = λ k s below. subst (λ os. AllByRecursion (IsDue core) os) (sym (orders k s below)) (due_law core n k fit none);
        distinct = λ k s below. subst (λ os. AreDistinctOrders os) (sym (orders k s below)) (distinct_law core.tailoring n k core.slot_now fit);
        apart = λ j k s here there ne.
            subst (λ os. AllByRecursion (λ order. AllByRecursion (λ other. other.param ≢ order.param) (get_or xs k s).orders) os) (sym (orders j s here))
            (subst (λ os. AllByRecursion (λ order. AllByRecursion (λ other. other.param ≢ order.param) os) (orders_for core.tailoring n j core.slot_now)) (sym (orders k s there))
            (apart_law core.tailoring n j k core.slot_now fit ne));
        empty = λ k r s below.
            let f = fresh.each k r s.end (omega (arith, below, count, fresh.count)) in
            f.1 ∙ sym (ap sent_by (sym (end_at ends xs e k s)) ∙ f.3);
      }
