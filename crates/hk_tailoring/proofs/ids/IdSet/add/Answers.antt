use Rattle.std.proofs.Common.{◌∙◌, ap, not}
use Rattle.hk_tailoring.proofs.IdLemmas.{ordered-has, ordered-added}
use Rattle.hk_tailoring.proofs.ids.IdSet.add.Goals as goal

pub returns-clause-new : goal.returns-clause-new
returns-clause-new c = rw (← c.self.view_is) (c.in_ok-insert.ensures.added ∙ ap (λ b. not b) (ordered-has c.args.id c.self.inside.ids.keys))

pub returns-clause-ids : goal.returns-clause-ids
returns-clause-ids c =
    rw (← c.self.view_is) (ordered-added c.self.inside.ids.keys c.insert.new.self.keys c.args.id c.in_ok-insert.ensures.updates.0)
