use Rattle.session_texts.proofs.EntryLemmas.{known-more, kinds-more, problems-more}
use Rattle.session_texts.proofs.laws.entries_come_one_by_one.Goals as goal

pub returns-clause-known : goal.returns-clause-known
returns-clause-known c = known-more

pub returns-clause-kinds : goal.returns-clause-kinds
returns-clause-kinds c = kinds-more

pub returns-clause-problems : goal.returns-clause-problems
returns-clause-problems c = problems-more
