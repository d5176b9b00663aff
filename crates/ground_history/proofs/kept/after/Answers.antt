use Rattle.ground_history.proofs.KeptOctets.{stripped}
use Rattle.ground_history.proofs.kept.after.Goals as goal

pub returns : goal.returns
returns c more = stripped c.args.front.now c.args.bytes.now more c.strip_prefix.result c.strip_prefix.ensures.cases
