use Rattle.definition_intervals.proofs.GatherLemmas.{changes-formed}
use Rattle.definition_intervals.proofs.finding.changes_are_formed.Goals as goal

pub returns : goal.returns
returns c = changes-formed
