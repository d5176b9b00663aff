use Rattle.definition_intervals.proofs.FormedDecisions.{decisions_formed}
use Rattle.definition_intervals.proofs.decisions_are_formed.Goals as goal

pub returns : goal.returns
returns c = decisions_formed
