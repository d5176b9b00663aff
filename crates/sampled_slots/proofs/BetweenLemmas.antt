-- Samplers between the slots of a run.
use Rattle.std.proofs.Common.{arith, ◌≡◌, ◌<◌, sym, subst, ◌∙◌, List, [], ◌∷◌, length, inr}
use Rattle.std.proofs.lemmas.List.{length-map}
use Rattle.hk_base.specs.Fit.{IsFit}
use Rattle.hk_base.specs.TailoringParts.{TailoringParts}
use Rattle.hk_base.specs.declared.outside.Sensor.{Ghosts}
use Rattle.hk_world.specs.declared.moment.Moment.{Moment}
use Rattle.board_steps.specs.Cores.{Core}
use Rattle.sampler_threads.specs.Samplings.{AreFresh, HavePlaces, NoneFiled}
use Rattle.sampler_threads.specs.Slots.{AreSampled, CanOrderAll, IsEndOf, IsSamplerOf, Ring, SettledSampler, WithEach, ends_of}
use Rattle.sampler_threads.specs.declared.slot.Sampler.{Sampler}
use Rattle.board_runs.specs.Samplers.{AreCounted, HaveSampled}
use Rattle.sampled_slots.specs.Seats.{AreBetween, AreFiled, AreFiledInPart, AreTakenOut, HaveOrders, HaveSeats, HaveStayed, sensors_of}
use Rattle.sampled_slots.proofs.SeatLemmas.{all-part, all-sure, all-whole}
use Rattle.sampled_slots.proofs.CountLemmas.{counted-more, slot-counted, slot-at-end}
use Rattle.sampled_slots.proofs.OrderLemmas.{AreApartEach, AreDistinctEach, AreDueWhereUnfiled, all-can, all-fresh, ends-paired, places-more, samplers-paired, settled-out, stayed-first, stayed-more}

module _ {S : Type 0} (g : Ghosts S) where
  pub between-first : (t : TailoringParts) (rings : List Ring) (samplers : List (Sampler S)) → WithEach IsSamplerOf rings samplers → WithEach SettledSampler rings samplers
      → HavePlaces t (length samplers) (ends_of samplers) → AreBetween g t (sensors_of samplers) [] rings samplers
  between-first t rings samplers paired settled places =
      let same : length samplers ≡ length (sensors_of samplers) = sym (length-map samplers (λ (s : Sampler S). s.sensor)) in
      record {
        sampled = tt;
        counted = inr (omega arith);
        stayed = stayed-first g (sensors_of samplers);
        places = subst (λ n. HavePlaces t n (ends_of samplers)) same places;
        paired = ends-paired rings samplers paired;
        taken_out = settled-out rings samplers settled;
      }

  pub between-count : (t : TailoringParts) (was : List S) (slots : List (List Moment)) (rings : List Ring) (samplers : List (Sampler S)) → AreBetween g t was slots rings samplers
      → (length samplers ≡ length was) × (length rings ≡ length was)
  between-count t was slots rings samplers h =
      let same = sym (length-map samplers (λ (s : Sampler S). s.sensor)) ∙ h.stayed.count in
      (same, sym h.paired.count ∙ (length-map samplers (λ (s : Sampler S). s.end) ∙ same))

  -- orders may change
  pub between-ordered : (t : TailoringParts) (was : List S) (slots : List (List Moment)) (rings : List Ring) (samplers others : List (Sampler S)) → AreBetween g t was slots rings samplers
      → sensors_of others ≡ sensors_of samplers → ends_of others ≡ ends_of samplers → AreBetween g t was slots rings others
  between-ordered t was slots rings samplers others h sensors ends =
      record {
        sampled = h.sampled;
        counted = subst (λ is. AreCounted g t was is slots) (sym sensors) h.counted;
        stayed = subst (λ is. HaveStayed g was is) (sym sensors) h.stayed;
        places = subst (λ es. HavePlaces t (length was) es) (sym ends) h.places;
        paired = subst (λ es. WithEach IsEndOf rings es) (sym ends) h.paired;
        taken_out = subst (λ es. AreTakenOut rings es) (sym ends) h.taken_out;
      }

  -- with their orders a slot can be run
  pub between-ready : AreDueWhereUnfiled → AreDistinctEach → AreApartEach → (core : Core) (was : List S) (slots : List (List Moment)) (rings : List Ring) (samplers : List (Sampler S))
      → IsFit core.tailoring → NoneFiled core → AreBetween g core.tailoring was slots rings samplers → HaveOrders core.tailoring (length was) core.slot_now samplers
      → WithEach IsSamplerOf rings samplers × CanOrderAll core.tailoring samplers × AreFresh core rings samplers
  between-ready due distinct apart core was slots rings samplers fit none h orders = (
    samplers-paired rings samplers h.paired,
    all-can due core.tailoring (length was) core.slot_now samplers fit orders h.places,
    all-fresh due distinct apart core (length was) rings samplers fit none orders h.taken_out,
  )

  -- and they go on behind it
  pub between-next : (t : TailoringParts) (was : List S) (slots : List (List Moment)) (moments : List Moment) (rings later : List Ring) (samplers after : List (Sampler S)) → IsFit t → 0 < length was
      → AreBetween g t was slots rings samplers → HaveOrders t (length was) (length slots) samplers
      → AreFiled g t moments samplers after → AreSampled g t samplers after → WithEach IsSamplerOf later after → WithEach SettledSampler later after
      → AreBetween g t was (moments ∷ slots) later after
  between-next t was slots moments rings later samplers after fit some h orders filed sampled paired settled =
      let seats : HaveSeats g t was (length slots) samplers = record { orders = orders; stayed = h.stayed } in
      record {
        sampled = (all-whole g t was (length slots) moments samplers after fit seats filed, all-sure g t was (length slots) moments samplers after fit seats filed, h.sampled);
        counted = counted-more g t was (sensors_of samplers) (sensors_of after) moments slots h.counted
            (slot-at-end g t moments samplers after sampled.count filed)
            (slot-counted g t was (length slots) moments samplers after fit some seats sampled.count filed);
        stayed = stayed-more g t was samplers after h.stayed sampled;
        places = places-more g t t (length was) samplers after h.places sampled;
        paired = ends-paired later after paired;
        taken_out = settled-out later after settled;
      }

  pub between-part : (t : TailoringParts) (was : List S) (slots : List (List Moment)) (moments : List Moment) (rings : List Ring) (samplers : List (Sampler S)) → IsFit t
      → AreBetween g t was slots rings samplers → HaveOrders t (length was) (length slots) samplers
      → AreFiledInPart g t moments samplers → HaveSampled g t was (length slots) moments
  between-part t was slots moments rings samplers fit h orders filed =
      all-part g t was (length slots) moments samplers fit (record { orders = orders; stayed = h.stayed }) filed
