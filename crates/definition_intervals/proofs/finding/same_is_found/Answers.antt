use Rattle.definition_intervals.proofs.FoundLemmas.{after-same}
use Rattle.definition_intervals.proofs.finding.same_is_found.Goals as goal

pub returns : goal.returns
returns c = after-same
