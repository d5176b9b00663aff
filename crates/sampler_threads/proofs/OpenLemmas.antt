-- What a slot does but for its end, put together.
use Rattle.std.proofs.Common.{◌≡◌, ℕ, ◌+◌, ◌<◌, ◌≤◌, ◌⊎◌, inl, inr, min, List, [], ◌∷◌, ◌++◌, length, map, refl, sym, ◌∙◌, ap, subst, true, arith}
use lib.ListN.{get_or}
use Rattle.std.proofs.lemmas.List.{append-nil}
use Rattle.rtrb.specs.Ring.{IsPair, SameConsumer}
use Rattle.hk_base.specs.Outside.{GivesAlike, StaysSure, most_faults}
use Rattle.hk_base.specs.TailoringParts.{TailoringParts}
use Rattle.hk_base.specs.declared.outside.Sensor.{Ghosts}
use Rattle.board_steps.specs.Cores.{Core}
use Rattle.sampler_threads.specs.Samples.{SameEnd, sent_by, free_of, places_of}
use Rattle.sampler_threads.specs.Deeds.{Took, Deed, takes, takings}
use Rattle.board_steps.specs.SlotRuns.{Ahead}
use Rattle.sampler_threads.specs.Rings.{Received}
use Rattle.sampler_threads.specs.Slots.{Ring, MetSampler, KeptSampler, SettledSampler, IsSamplerOf, AtEach, WithEach, ServedFrom, Sampled, AreSampled, MaySample, MaySampleAll, CanSampleAll, CanOrderAll, AreKnown, AreReadings, failures}
use Rattle.sampler_threads.specs.declared.item.Item.{Item}
use Rattle.sampler_threads.specs.declared.slot.Sampler.{Sampler}
use Rattle.sampler_threads.proofs.RunLemmas.{took_went, takings_takes}
use Rattle.sampler_threads.proofs.RingLemmas.{same_end}
use Rattle.sampler_threads.proofs.SettleLemmas.{pair_kept}

-- items were taken
pub served_took : (ahead : Ahead) (core after : Core) (rings rings_after : List Ring) (ts : List (ℕ × Item)) → ahead.is_open ≡ true → Took core ts after → Received rings ts rings_after
    → ServedFrom ahead core rings (map takes ts) ahead after rings_after
served_took ahead core after rings rings_after ts is_open took received =
    record {
      went = took_went ahead core after ts is_open took;
      is_open = is_open;
      received = subst (λ us. Received rings us rings_after) (sym (takings_takes ts)) received;
    }

module _ {N : Type 0} where
  -- a meeting keeps what was sent
  pub met_as_kept : (rings after : List Ring) (xs ys : List (Sampler N)) → AtEach MetSampler rings after xs ys → AtEach KeptSampler rings after xs ys
  met_as_kept rings after xs ys h =
      record { count = h.count; others = h.others; each = λ j r x below. let m = h.each j r x below in (m.0.same, m.0.sent, m.1, m.2) }

  -- the samplers can take their orders where all places are known to be free
  pub can_sample : (t : TailoringParts) (rings after : List Ring) (xs ys : List (Sampler N)) → length xs ≡ length rings
      → CanOrderAll t xs → AtEach KeptSampler rings after xs ys → WithEach SettledSampler after ys → (some : (k : ℕ) → k < length rings → Ring) → CanSampleAll t ys
  can_sample t rings after xs ys count orders kept settled some j x below =
      let in_xs : j < length xs = omega (arith, kept.others, below) in
      let in_rings : j < length rings = omega (arith, count, in_xs) in
      let r = some j in_rings in
      let k = kept.each j r x in_rings in
      let s = settled.each j r x (omega (arith, kept.count, in_rings)) in
      let o = orders j x in_xs in
      let places : places_of (get_or ys j x).end ≡ places_of (get_or xs j x).end = k.0.1 in
      let amount : length (get_or ys j x).orders ≡ length (get_or xs j x).orders = ap length k.3 in (
        subst (λ os. AreKnown t os) (sym k.3) o.0,
        omega (arith, o.1, places, amount, s.free),
      )

  -- the ends while items are taken and sent
  pub sampled_ends : (g : Ghosts N) (t : TailoringParts) (rings after : List Ring) (ts : List (ℕ × Item)) (xs ys : List (Sampler N)) → WithEach IsSamplerOf rings xs → Received rings ts after → AreSampled g t xs ys → WithEach IsSamplerOf after ys
  sampled_ends g t rings after ts xs ys h k s =
      record {
        count = s.count ∙ (h.count ∙ sym k.count);
        each = λ j r x below.
            let inside : j < length rings = omega (arith, k.count, below) in
            let p = pair_kept (get_or xs j x).end (get_or rings j r) (get_or after j r) (h.each j r x inside) (k.same j r inside) in
            let e = (s.each j x (omega (arith, h.count, inside))).same.0 in
            (p.0 ∙ sym e.0, p.1 ∙ sym e.1, p.2 ∙ sym e.2, p.3 ∙ sym e.3);
      }

  -- a sampler that took its orders, with looks before and behind
  sampled_at : (g : Ghosts N) (t : TailoringParts) (a b c d : Sampler N) (r : Ring) → KeptSampler r r a b → Sampled g t b c → KeptSampler r r c d → Sampled g t a d
  sampled_at g t a b c d r h s k =
      let i = s.items in
      record {
        same = same_end a.end b.end d.end h.0 (same_end b.end c.end d.end s.same k.0);
        orders = k.3 ∙ (s.orders ∙ h.3);
        items = (
          i.0,
          k.1 ∙ (i.1 ∙ ap (λ w. w ++ i.0) h.1),
          subst (λ sensor. AreReadings g t sensor a.orders i.0) h.2 (subst (λ orders. AreReadings g t b.sensor orders i.0) h.3 i.2),
          subst (λ sensor. min (g.faults a.sensor + failures i.0) most_faults ≤ g.faults sensor) (sym k.2)
              (subst (λ sensor. min (g.faults sensor + failures i.0) most_faults ≤ g.faults c.sensor) h.2 i.3),
        );
        gives = subst (λ sensor. GivesAlike (g.gives a.sensor) (g.gives sensor)) (sym k.2) (subst (λ sensor. GivesAlike (g.gives sensor) (g.gives c.sensor)) h.2 s.gives);
        stays_sure = subst (λ sensor. StaysSure (g.is_sure a.sensor) (g.is_sure sensor)) (sym k.2) (subst (λ sensor. StaysSure (g.is_sure sensor) (g.is_sure c.sensor)) h.2 s.stays_sure);
      }

  pub sampled_between : (g : Ghosts N) (t : TailoringParts) (ra rb rc rd : List Ring) (xs ys zs ws : List (Sampler N)) → length xs ≡ length ra → length rc ≡ length ra → (some : (k : ℕ) → k < length ra → Ring)
      → AtEach KeptSampler ra rb xs ys → AreSampled g t ys zs → AtEach KeptSampler rc rd zs ws → AreSampled g t xs ws
  sampled_between g t ra rb rc rd xs ys zs ws count same some h s k =
      record {
        count = k.others ∙ (s.count ∙ h.others);
        each = λ j x below.
            let in_ra : j < length ra = omega (arith, count, below) in
            let r = some j in_ra in
            sampled_at g t (get_or xs j x) (get_or ys j x) (get_or zs j x) (get_or ws j x) r
            (h.each j r x in_ra) (s.each j x (omega (arith, h.others, below))) (k.each j r x (omega (arith, same, in_ra)));
      }

  -- what may have been sampled
  pub may_sampled : (g : Ghosts N) (t : TailoringParts) (xs ys : List (Sampler N)) → AreSampled g t xs ys → MaySampleAll g t xs ys
  may_sampled g t xs ys h =
      record {
        count = h.count;
        each = λ j x below.
            let s = h.each j x below in
            record { same = s.same; orders = s.orders; items = (s.items.0, s.items.1, inr s.items.2) };
      }

  pub may_kept : (g : Ghosts N) (t : TailoringParts) (rings after : List Ring) (xs ys : List (Sampler N)) → length xs ≡ length rings → (some : (k : ℕ) → k < length rings → Ring) → AtEach KeptSampler rings after xs ys → MaySampleAll g t xs ys
  may_kept g t rings after xs ys count some h =
      record {
        count = h.others;
        each = λ j x below.
            let inside : j < length rings = omega (arith, count, below) in
            let k = h.each j (some j inside) x inside in
            record { same = k.0; orders = k.3; items = ([], k.1 ∙ sym (append-nil (sent_by (get_or xs j x).end)), inl refl) };
      }
