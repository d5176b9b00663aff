use Rattle.std.proofs.Common.{arith, ◌<◌, length, List, Option}
use Rattle.hk_base.specs.declared.types.Structure.{Structure}
use Rattle.definition_intervals.specs.Founds.{AreSameFound, found_after}
use Rattle.live_verdicts.proofs.FindLemmas.{same-after}
use Rattle.live_verdicts.proofs.GrowLemmas.{all-more, all-taken}
use Rattle.live_verdicts.proofs.leaving.leaves_finds.Goals as goal

pub loop-found-preserved : goal.loop-found-preserved
loop-found-preserved c =
    let within : c.loop-found.found-index < length c.args.finds.now = omega arith in
    all-more (λ (f : Option (List (Option Structure))). AreSameFound f (found_after c.args.tailoring.now c.args.request.now f)) c.args.finds.now c.loop-found.found-index c.found-item.result within c.found-item.is
    c.loop-found.invariant (same-after c.found-item.result c.in_ok-after.after _ (c.is_same_found.ensures c.if-not-is_same_found.false) c.in_ok-after.ensures.same)

pub returns : goal.returns
returns c =
    λ yes.
    all-taken (λ (f : Option (List (Option Structure))). AreSameFound f (found_after c.args.tailoring.now c.args.request.now f)) c.args.finds.now c.loop-found.found-index (omega (arith, c.loop-found-test.false)) c.loop-found.invariant
