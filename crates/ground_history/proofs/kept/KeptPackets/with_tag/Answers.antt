use Rattle.std.proofs.Common.{◌∙◌}
use Rattle.ground_history.proofs.KeptMapLemmas.{found-by-tag}
use Rattle.ground_history.proofs.kept.KeptPackets.with_tag.Goals as goal

pub returns : goal.returns
returns c = rw (← c.self.view_is) (c.get.ensures.value ∙ found-by-tag c.args.tag c.self.inside.packets.entries c.self.invariant.0)
