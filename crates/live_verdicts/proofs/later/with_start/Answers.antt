use Rattle.std.proofs.Common.{subst}
use Rattle.hk_base.specs.TailoringParts.{TailoringParts}
use Rattle.definition_intervals.specs.Founds.{IsFormedFound}
use Rattle.live_verdicts.proofs.later.with_start.Goals as goal

pub returns-clause-formed : goal.returns-clause-formed
returns-clause-formed c =
    λ all.
    c.in_ok-add_find.ensures.formed c.args.history.now.tailoring
    (subst (λ (t : TailoringParts). IsFormedFound t c.in_ok-found.found) c.tailoring-tailoring.ensures.tailoring c.in_ok-found.ensures.formed) all
