use Rattle.definition_intervals.proofs.BasisLemmas.{bases_decide}
use Rattle.definition_intervals.proofs.bases_decide.Goals as goal

pub returns : goal.returns
returns c = bases_decide
