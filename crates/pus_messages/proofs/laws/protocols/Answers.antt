use Rattle.pus_messages.proofs.Lawful.{lawful}
use Rattle.pus_messages.proofs.NameLemmas.{none_twice}
use Rattle.pus_messages.proofs.laws.protocols.Goals as goal

pub returns-clause-lawful : goal.returns-clause-lawful
returns-clause-lawful c = lawful

pub returns-clause-names : goal.returns-clause-names
returns-clause-names c = none_twice
