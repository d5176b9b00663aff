use Rattle.definition_intervals.proofs.ValueLemmas.{values_true}
use Rattle.definition_intervals.proofs.decided_values.Goals as goal

pub returns : goal.returns
returns c = values_true
