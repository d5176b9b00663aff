use Rattle.st04_grammar.proofs.SpellingLemmas.{request-again, request-only}
use Rattle.st04_grammar.proofs.laws.requests_are_spelled.Goals as goal

pub returns-clause-again : goal.returns-clause-again
returns-clause-again c = request-again

pub returns-clause-only : goal.returns-clause-only
returns-clause-only c = request-only
