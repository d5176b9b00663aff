use Rattle.st03_grammar.proofs.SpellingLemmas.{report-read}
use Rattle.st03_grammar.proofs.TakenBodies.{report-took}
use Rattle.st03_grammar.proofs.laws.reports_are_spelled.Goals as goal

pub returns-clause-again : goal.returns-clause-again
returns-clause-again c = report-read

pub returns-clause-only : goal.returns-clause-only
returns-clause-only c = report-took
