use Rattle.std.proofs.Common.{◌≤◌, subst}
use Rattle.std.proofs.lemmas.Bool.{leb-true}
use Rattle.live_verdicts.proofs.SplitLemmas.{are-late}
use Rattle.live_verdicts.proofs.firm.are_late.Goals as goal

pub returns-else-first-count : goal.returns-else-first-count
returns-else-first-count c =
    λ yes.
    are-late c.bounds_rise.ensures c.args.history.now c.args.first c.args.tag c.tailoring-tailoring.ensures.grounded
    (subst (λ n. c.args.tag ≤ n) c.low.ensures (leb-true c.args.tag c.low.result yes))
