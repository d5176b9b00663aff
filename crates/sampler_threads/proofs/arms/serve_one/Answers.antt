use Rattle.std.proofs.Common.{◌≡◌, ◌++◌, ◌∷◌, [], map, List, ℕ, refl, sym, ◌∙◌, ap, subst}
use Rattle.board_steps.specs.Cores.{Core}
use Rattle.board_steps.specs.declared.event.Event.TheVariants.{Uplink}
use Rattle.sampler_threads.specs.Deeds.{takes, gives, Went}
use Rattle.board_steps.specs.SlotRuns.{at_work, IsIdle}
use Rattle.sampler_threads.specs.Rings.{Received}
use Rattle.board_steps.specs.SlotRuns.{IsStopped, waiting}
use Rattle.sampler_threads.proofs.RunLemmas.{took_tailoring, took_went, went_append, takings_takes, takings_then, filing_stops}
use Rattle.sampler_threads.proofs.ServeLemmas.{received_deeds, uplink_stops, uplinked, on_ok, if_err}
use Rattle.sampler_threads.proofs.StepLemmas.{made_tailoring}
use Rattle.sampler_threads.proofs.arms.serve_one.Goals as goal

pub returns-in-Err-clause-tailoring : goal.returns-in-Err-clause-tailoring
returns-in-Err-clause-tailoring c = let d = c.drain_all.ensures.taken in took_tailoring c.args.core.now c.drain_all.new.core d.0 d.1

pub returns-in-Err-clause-went : goal.returns-in-Err-clause-went
returns-in-Err-clause-went c = λ before later next.
    let d = c.drain_all.ensures.taken in (
      map takes d.0,
      before,
      record {
        went = took_went before c.args.core.now c.drain_all.new.core d.0 next.0 d.1;
        is_open = next.0;
        received = subst (λ ts. Received c.args.rings.now ts c.drain_all.new.rings) (sym (takings_takes d.0)) d.2;
      },
      tt,
      filing_stops before c.drain_all.new.core c.in-Err.fault next.0 c.in-Err.ensures.err,
    )

pub returns-in-Err-uplink-clause-tailoring : goal.returns-in-Err-uplink-clause-tailoring
returns-in-Err-uplink-clause-tailoring c =
    let d = c.drain_all.ensures.taken in
    ap (λ (k : Core). k.tailoring) c.in-Err-uplink.ensures.err.0 ∙ took_tailoring c.args.core.now c.drain_all.new.core d.0 d.1

pub returns-in-Err-uplink-clause-went : goal.returns-in-Err-uplink-clause-went
returns-in-Err-uplink-clause-went c = λ before later next.
    let d = c.drain_all.ensures.taken in
    let same = sym c.in-Err-uplink.ensures.err.0 in (
      map takes d.0,
      before,
      record {
        went = subst (λ k. Went before c.args.core.now (map takes d.0) before k) same (took_went before c.args.core.now c.drain_all.new.core d.0 next.0 d.1);
        is_open = next.0;
        received = subst (λ ts. Received c.args.rings.now ts c.drain_all.new.rings) (sym (takings_takes d.0)) d.2;
      },
      tt,
      subst (λ k. IsStopped before k c.in-Err-uplink.fault) same
          (uplink_stops before c.args.core.now c.drain_all.new.core c.args.packet.now later c.in-Err-uplink.fault d.0 next d.1 c.uplink.ensures.octets c.in-Err-uplink.ensures.err.1),
    )

pub work-requires : goal.work-requires
work-requires c =
    let d = c.drain_all.ensures.taken in
    let u = c.in_default-uplink.ensures.ok in
    c.requires.tailoring ∙ sym (made_tailoring c.drain_all.new.core c.uplink.new.core (Uplink c.args.packet.now) u ∙ took_tailoring c.args.core.now c.drain_all.new.core d.0 d.1)

pub returns-clause-tailoring : goal.returns-clause-tailoring
returns-clause-tailoring c =
    let d = c.drain_all.ensures.taken in
    let u = c.in_default-uplink.ensures.ok in
    c.work.ensures.tailoring ∙ (made_tailoring c.drain_all.new.core c.uplink.new.core (Uplink c.args.packet.now) u ∙ took_tailoring c.args.core.now c.drain_all.new.core d.0 d.1)

pub returns-clause-went : goal.returns-clause-went
returns-clause-went c = λ before later next.
    let d = c.drain_all.ensures.taken in
    let u = c.in_default-uplink.ensures.ok in
    let w = c.work.ensures.went in
    let packet = c.args.packet.now in (
      (map takes d.0 ++ gives (Uplink packet) ∷ []) ++ w.0,
      at_work later,
      record {
        went = went_append before (at_work later) (at_work later) c.args.core.now c.uplink.new.core c.work.new.core (map takes d.0 ++ gives (Uplink packet) ∷ []) w.0
            (uplinked before c.args.core.now c.drain_all.new.core c.uplink.new.core packet later d.0 next d.1 u) (w.1 later);
        is_open = refl;
        received = received_deeds c.args.rings.now c.drain_all.new.rings c.work.new.rings (map takes d.0 ++ gives (Uplink packet) ∷ []) w.0
            (subst (λ ts. Received c.args.rings.now ts c.drain_all.new.rings) (sym (takings_then d.0 (Uplink packet))) d.2) w.2;
      },
      on_ok c.work.result (waiting c.work.new.core ≡ 0) (IsIdle (at_work later) c.work.new.core × (later ≡ later)) (λ z. (λ _. z, refl)) c.work.ensures.ok,
      if_err c.work.result (λ fault. (l : List (List ℕ)) → IsStopped (at_work l) c.work.new.core fault) (λ fault. IsStopped (at_work later) c.work.new.core fault) (λ fault h. h later) c.work.ensures.err,
    )
