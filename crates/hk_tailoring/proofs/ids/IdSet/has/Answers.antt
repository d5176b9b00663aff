use Rattle.std.proofs.Common.{◌∙◌}
use Rattle.hk_tailoring.proofs.IdLemmas.{ordered-has}
use Rattle.hk_tailoring.proofs.ids.IdSet.has.Goals as goal

pub returns : goal.returns
returns c = rw (← c.self.view_is) (c.contains.ensures ∙ ordered-has c.args.id c.self.inside.ids.keys)
