use Rattle.std.proofs.Common.{◌∙◌, sym}
use Rattle.verdict_tables.proofs.KeyLemmas.{other-keys}
use Rattle.verdict_tables.proofs.keys.changed_keys.Goals as goal

pub returns-in-Stat : goal.returns-in-Stat
returns-in-Stat c = c.new.ensures.items ∙ sym (other-keys c.args.request.now.body c.in-Stat.is)
