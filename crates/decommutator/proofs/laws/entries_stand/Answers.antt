use Rattle.decommutator.proofs.EntryLemmas.{next-stands}
use Rattle.decommutator.proofs.laws.entries_stand.Goals as goal

pub returns-clause-next : goal.returns-clause-next
returns-clause-next c = next-stands
