use Rattle.std.proofs.Common.{◌∙◌, ap, subst, Bool}
use Rattle.std.specs.Prelude.{◌||◌}
use Rattle.ground_history.specs.Ground.{Ground}
use Rattle.ground_history.specs.Indexes.{Says, shown_at}
use Rattle.ground_history.specs.declared.shown.Shown.{Shown}
use Rattle.ground_history.proofs.OutcomeLemmas.{refused-is}
use Rattle.ground_history.proofs.history.History.is_refused.Goals as goal

pub returns : goal.returns
returns c =
    let says : Says c.self.inside.evidence c.args.self.now.history.kept = subst (λ (g : Ground). Says c.self.inside.evidence g.history.kept) c.self.view_is c.self.invariant.0 in
    ap (λ (s : Shown). s.unstarted || c.is_marked.result) c.at.ensures
    ∙ (ap (λ (b : Bool). (shown_at c.self.inside.evidence.shown c.args.k).unstarted || b) c.is_marked.ensures
    ∙ refused-is c.self.inside.evidence c.args.self.now.history c.args.k c.args.number says)
