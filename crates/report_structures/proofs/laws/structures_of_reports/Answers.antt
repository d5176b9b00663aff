use Rattle.report_structures.proofs.ReportedLemmas.{reported-formed}
use Rattle.report_structures.proofs.laws.structures_of_reports.Goals as goal

pub returns : goal.returns
returns c = reported-formed
