use Rattle.definition_intervals.proofs.GatherLemmas.{reported-states-formed}
use Rattle.definition_intervals.proofs.finding.reported_states_are_formed.Goals as goal

pub returns : goal.returns
returns c = reported-states-formed
