use Rattle.std.proofs.Common.{◌≡◌, ◌+◌, ◌<◌, ◌≤◌, ◌++◌, ◌∷◌, [], length, map, rules, refl, sym, ◌∙◌, ap, subst, arith}
use Rattle.board_steps.specs.Cores.{Core}
use Rattle.board_steps.specs.SlotRuns.{IsStopped, at_work, waiting}
use Rattle.board_steps.specs.declared.event.Event.TheVariants.{Work}
use Rattle.sampler_threads.specs.Deeds.{takes, gives, Went}
use Rattle.sampler_threads.specs.Rings.{Received}
use Rattle.sampler_threads.proofs.RunLemmas.{took_tailoring, took_waiting, took_went, took_worked, took_moments, takings_takes, takings_then, filing_stops}
use Rattle.sampler_threads.proofs.StepLemmas.{made_tailoring, work_adds}
use Rattle.sampler_threads.proofs.arms.work_once.Goals as goal

pub returns-in-Err-clause-tailoring : goal.returns-in-Err-clause-tailoring
returns-in-Err-clause-tailoring c = let d = c.drain_all.ensures.taken in took_tailoring c.args.core.now c.drain_all.new.core d.0 d.1

pub returns-in-Err-clause-went : goal.returns-in-Err-clause-went
returns-in-Err-clause-went c =
    let d = c.drain_all.ensures.taken in (
      map takes d.0,
      λ later. took_went (at_work later) c.args.core.now c.drain_all.new.core d.0 refl d.1,
      subst (λ ts. Received c.args.rings.now ts c.drain_all.new.rings) (sym (takings_takes d.0)) d.2,
    )

pub returns-in-Err-clause-err : goal.returns-in-Err-clause-err
returns-in-Err-clause-err c = λ later. filing_stops (at_work later) c.drain_all.new.core c.in-Err.fault refl c.in-Err.ensures.err

pub returns-clause-tailoring : goal.returns-clause-tailoring
returns-clause-tailoring c =
    let d = c.drain_all.ensures.taken in
    made_tailoring c.drain_all.new.core c.give.new.core Work c.in_default-give.ensures.made ∙ took_tailoring c.args.core.now c.drain_all.new.core d.0 d.1

pub returns-clause-went : goal.returns-clause-went
returns-clause-went c =
    let d = c.drain_all.ensures.taken in (
      map takes d.0 ++ gives Work ∷ [],
      took_worked c.args.core.now c.drain_all.new.core c.give.new.core d.0 d.1 c.requires.waiting c.in_default-give.ensures.made,
      subst (λ ts. Received c.args.rings.now ts c.drain_all.new.rings) (sym (takings_then d.0 Work)) d.2,
    )

pub returns-clause-more : goal.returns-clause-more
returns-clause-more c =
    let d = c.drain_all.ensures.taken in
    let waits : 0 < waiting c.drain_all.new.core = subst (λ n. 0 < n) (sym (took_waiting c.args.core.now c.drain_all.new.core d.0 d.1)) c.requires.waiting in
    let more = work_adds c.drain_all.new.core c.give.new.core c.in_default-give.ensures.made waits in
    let grown = took_moments c.args.core.now c.drain_all.new.core d.0 d.1 in
    let most : length c.give.new.core.moments ≤ 1048576 = search rules in
    (omega (arith, more, grown), most)

pub returns-in-Err-give-clause-tailoring : goal.returns-in-Err-give-clause-tailoring
returns-in-Err-give-clause-tailoring c =
    let d = c.drain_all.ensures.taken in
    ap (λ (k : Core). k.tailoring) c.in-Err-give.ensures.refused.0 ∙ took_tailoring c.args.core.now c.drain_all.new.core d.0 d.1

pub returns-in-Err-give-clause-went : goal.returns-in-Err-give-clause-went
returns-in-Err-give-clause-went c =
    let d = c.drain_all.ensures.taken in (
      map takes d.0,
      λ later. subst (λ k. Went (at_work later) c.args.core.now (map takes d.0) (at_work later) k) (sym c.in-Err-give.ensures.refused.0)
          (took_went (at_work later) c.args.core.now c.drain_all.new.core d.0 refl d.1),
      subst (λ ts. Received c.args.rings.now ts c.drain_all.new.rings) (sym (takings_takes d.0)) d.2,
    )

pub returns-in-Err-give-clause-err : goal.returns-in-Err-give-clause-err
returns-in-Err-give-clause-err c =
    let d = c.drain_all.ensures.taken in
    let waits : 0 < waiting c.drain_all.new.core = subst (λ n. 0 < n) (sym (took_waiting c.args.core.now c.drain_all.new.core d.0 d.1)) c.requires.waiting in
    λ later. subst (λ k. IsStopped (at_work later) k c.in-Err-give.fault) (sym c.in-Err-give.ensures.refused.0)
    (λ other. (Work, at_work later, (refl, (refl, waits, refl)), tt, c.in-Err-give.ensures.refused.1))
