use Rattle.decommutator.proofs.LawLemmas.{follows-next, follows-text, follows-rest}
use Rattle.decommutator.proofs.laws.entries_are_followed.Goals as goal

pub returns-clause-next : goal.returns-clause-next
returns-clause-next c = follows-next

pub returns-clause-text : goal.returns-clause-text
returns-clause-text c = follows-text

pub returns-clause-rest : goal.returns-clause-rest
returns-clause-rest c = follows-rest
