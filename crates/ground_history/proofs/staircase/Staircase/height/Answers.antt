-- The last step up to the place is as high as the place.
use Rattle.std.proofs.Common.{sym, ◌∙◌}
use Rattle.ground_history.proofs.StairLemmas.{height-last, height-none, is-upto}
use Rattle.ground_history.proofs.staircase.Staircase.height.Goals as goal

pub returns-in-Some : goal.returns-in-Some
returns-in-Some c =
    let between = c.range.ensures.between tt in
    let steps = c.in-Some.ensures.steps in
    rw (← c.self.view_is) (sym (height-last _ c.args.place c.self.inside.steps.entries _ _ (is-upto c.args.place) c.self.invariant (sym between ∙ steps)))

pub returns-in-None : goal.returns-in-None
returns-in-None c =
    let between = c.range.ensures.between tt in
    let steps = c.in-None.ensures.steps in
    rw (← c.self.view_is) (sym (height-none _ c.args.place c.self.inside.steps.entries (is-upto c.args.place) (sym between ∙ steps.0)))
