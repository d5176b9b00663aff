use Rattle.std.proofs.Common.{◌∙◌, sym, ap}
use Rattle.definition_intervals.specs.Openings.{is_at_most}
use Rattle.live_verdicts.proofs.SplitLemmas.{not_true, are-pending}
use Rattle.live_verdicts.proofs.firm.are_pending.Goals as goal

pub returns-else-first-count : goal.returns-else-first-count
returns-else-first-count c =
    λ yes.
    are-pending c.bounds_rise.ensures c.args.history.now c.args.first c.args.tag c.tailoring-tailoring.ensures.grounded
    (ap (λ known. is_at_most known c.args.tag) (sym c.high.ensures) ∙ (sym c.is_at_most.ensures ∙ not_true c.is_at_most.result yes))
