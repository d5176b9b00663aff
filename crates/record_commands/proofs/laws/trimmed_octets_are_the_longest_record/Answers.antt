use Rattle.record_commands.proofs.WholeLemmas.{trims, refuses}
use Rattle.record_commands.proofs.laws.trimmed_octets_are_the_longest_record.Goals as goal

pub returns-clause-trims : goal.returns-clause-trims
returns-clause-trims c = trims

pub returns-clause-refuses : goal.returns-clause-refuses
returns-clause-refuses c = refuses
