use Rattle.verdict_tables.proofs.BuildLemmas.{tables-made}
use Rattle.verdict_tables.proofs.building.ranges_from.Goals as goal

pub returns : goal.returns
returns c = tables-made c.args.history.now c.args.key c.args.tags c.ranges_at.result c.requires.tags c.requires.some c.ranges_at.ensures
