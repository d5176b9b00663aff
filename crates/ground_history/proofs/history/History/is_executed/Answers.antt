use Rattle.std.proofs.Common.{◌∙◌, ap, subst, Bool}
use Rattle.std.specs.Prelude.{◌||◌, ◌&&◌}
use Rattle.ground_history.specs.Evidence.{is_alone}
use Rattle.ground_history.specs.Ground.{Ground}
use Rattle.ground_history.specs.Indexes.{Says, shown_at, is_marked}
use Rattle.ground_history.specs.declared.shown.Shown.{Shown}
use Rattle.ground_history.proofs.OutcomeLemmas.{executed-is}
use Rattle.ground_history.proofs.history.History.is_executed.Goals as goal

pub returns : goal.returns
returns c =
    let says : Says c.self.inside.evidence c.args.self.now.history.kept = subst (λ (g : Ground). Says c.self.inside.evidence g.history.kept) c.self.view_is c.self.invariant.0 in
    let shown : Shown = shown_at c.self.inside.evidence.shown c.args.k in
    ap (λ (s : Shown). (s.completed || c.is_marked.result) || (c.is_alone.result && s.started)) c.at-shown.ensures
    ∙ (ap (λ (b : Bool). (shown.completed || b) || (c.is_alone.result && shown.started)) c.is_marked.ensures
    ∙ (ap (λ (b : Bool). (shown.completed || is_marked c.self.inside.evidence.done c.args.k c.args.number) || (b && shown.started)) c.is_alone.ensures
    ∙ executed-is c.self.inside.evidence c.args.self.now.history c.args.k c.args.number (is_alone c.args.self.now.history c.args.k) says))
