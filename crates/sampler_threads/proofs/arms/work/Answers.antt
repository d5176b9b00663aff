use Rattle.std.proofs.Common.{◌≡◌, ◌++◌, sym, ◌∙◌}
use Rattle.board_steps.specs.SlotRuns.{at_work}
use Rattle.sampler_threads.proofs.RunLemmas.{went_append}
use Rattle.sampler_threads.proofs.ServeLemmas.{received_deeds}
use Rattle.sampler_threads.proofs.arms.work.Goals as goal

pub returns-in-Err-clause-went : goal.returns-in-Err-clause-went
returns-in-Err-clause-went c =
    let i = c.loop-core.invariant.2 in
    let w = c.work_once.ensures.went in (
      i.0 ++ w.0,
      λ later. went_append (at_work later) (at_work later) (at_work later) c.args.core.now c.loop-core.core c.work_once.new.core i.0 w.0 (i.1 later) (w.1 later),
      received_deeds c.args.rings.now c.loop-core.rings c.work_once.new.rings i.0 w.0 i.2 w.2,
    )

pub loop-core-preserved : goal.loop-core-preserved
loop-core-preserved c =
    let i = c.loop-core.invariant.2 in
    let w = c.work_once.ensures.went in (
      c.work_once.ensures.tailoring ∙ c.loop-core.invariant.0,
      c.loop-core.invariant.1 ∙ sym c.work_once.ensures.tailoring,
      (
        i.0 ++ w.0,
        λ later. went_append (at_work later) (at_work later) (at_work later) c.args.core.now c.loop-core.core c.work_once.new.core i.0 w.0 (i.1 later) (w.1 later),
        received_deeds c.args.rings.now c.loop-core.rings c.work_once.new.rings i.0 w.0 i.2 w.2,
      ),
    )
