use Rattle.std.proofs.Common.{rules}
use Rattle.record_commands.proofs.CutLemmas.{end_on, cut_on}
use Rattle.record_commands.proofs.trim.next_whole.Goals as goal

pub returns-in-Ok-None-clause-end : goal.returns-in-Ok-None-clause-end
returns-in-Ok-None-clause-end g c = search (rules, end_on, cut_on)
