use Rattle.definition_intervals.proofs.FoundLemmas.{openings-found}
use Rattle.definition_intervals.proofs.finding.openings_are_found.Goals as goal

pub returns : goal.returns
returns c = openings-found
