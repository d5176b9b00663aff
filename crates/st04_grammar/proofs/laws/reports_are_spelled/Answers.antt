use Rattle.st04_grammar.proofs.SpellingLemmas.{report-again, report-only}
use Rattle.st04_grammar.proofs.laws.reports_are_spelled.Goals as goal

pub returns-clause-again : goal.returns-clause-again
returns-clause-again c = report-again

pub returns-clause-only : goal.returns-clause-only
returns-clause-only c = report-only
