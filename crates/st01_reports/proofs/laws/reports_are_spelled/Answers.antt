use Rattle.st01_reports.proofs.SpellingLemmas.{verification-read}
use Rattle.st01_reports.proofs.TakenBodies.{report-took}
use Rattle.st01_reports.proofs.laws.reports_are_spelled.Goals as goal

pub returns-clause-again : goal.returns-clause-again
returns-clause-again c = verification-read

pub returns-clause-only : goal.returns-clause-only
returns-clause-only c = report-took
