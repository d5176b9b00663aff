use Rattle.definition_intervals.proofs.ValueLemmas.{reports_made}
use Rattle.definition_intervals.proofs.kept_reports.Goals as goal

pub returns : goal.returns
returns c = reports_made
