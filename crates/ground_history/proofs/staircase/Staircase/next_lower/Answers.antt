-- The first step behind the place, among steps that rise.
use Rattle.std.proofs.Common.{arith, ◌≤◌, sym, ◌∙◌}
use Rattle.ground_history.proofs.StairLemmas.{behind-none, behind-high, is-behind}
use Rattle.ground_history.proofs.staircase.Staircase.next_lower.Goals as goal

pub returns-in_err-lower : goal.returns-in_err-lower
returns-in_err-lower c =
    let between = c.range.ensures.between tt in
    let steps = c.in_err-lower.ensures.steps in
    rw c.from_residual.ensures
    (rw (← c.self.view_is) (behind-none _ c.args.place c.args.height c.self.inside.steps.entries (is-behind c.args.place) (sym between ∙ steps.0)))

pub returns-else-found-height : goal.returns-else-found-height
returns-else-found-height c =
    let between = c.range.ensures.between tt in
    let steps = c.in_ok-lower.ensures.steps in
    let high : c.args.height ≤ c.in_ok-lower.found.now = omega arith in
    rw (← c.self.view_is) (behind-high _ c.args.place c.args.height c.self.inside.steps.entries _ _ (is-behind c.args.place) c.self.invariant (sym between ∙ steps) high)
