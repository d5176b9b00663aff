use Rattle.definition_intervals.proofs.FoundLemmas.{finds_give_bases}
use Rattle.definition_intervals.proofs.finding.finds_give_bases.Goals as goal

pub returns : goal.returns
returns c = finds_give_bases
