use Rattle.pus_messages.proofs.ChangeLemmas.{other_service}
use Rattle.pus_messages.proofs.instruction.changes_on.Goals as goal

pub returns-in-Stat : goal.returns-in-Stat
returns-in-Stat c = other_service c.args.key c.args.request.now.body c.in-Stat.is
