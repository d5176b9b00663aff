use Rattle.ground_history.proofs.CountLemmas.{count-of}
use Rattle.ground_history.proofs.history.History.own_count.Goals as goal

pub returns-clause-octets : goal.returns-clause-octets
returns-clause-octets c = count-of c.self.inside.tailoring c.args.bytes.now c.in-Ok.header c.in-Ok.field-0-1.now c.in-Ok.ensures.gives
