use Rattle.st03_grammar.proofs.SpellingLemmas.{request-read}
use Rattle.st03_grammar.proofs.TakenBodies.{request-took}
use Rattle.st03_grammar.proofs.laws.requests_are_spelled.Goals as goal

pub returns-clause-again : goal.returns-clause-again
returns-clause-again c = request-read

pub returns-clause-only : goal.returns-clause-only
returns-clause-only c = request-took
