-- A height that is put where it fits.
use Rattle.std.proofs.Common.{arith, ◌<◌, ◌≤◌, sym, subst}
use Rattle.ground_history.specs.Stairs.{height_at, FitsBetween}
use Rattle.ground_history.proofs.StairLemmas.{height-idle, raised-fits, raised-rising, raised-heights}
use Rattle.ground_history.proofs.staircase.Staircase.raise.Goals as goal

pub returns-then-height : goal.returns-then-height
returns-then-height c =
    let le : c.args.height ≤ height_at c.args.self.now c.args.place = omega (arith, c.height.ensures) in
    height-idle c.args.place c.args.height c.args.self.now le

pub invariant_of-self : goal.invariant_of-self
invariant_of-self c =
    let lt : height_at c.args.self.now c.args.place < c.args.height = omega (arith, c.height.ensures) in
    let fits = raised-fits c.args.place c.args.height c.args.self.now c.remove_lower.new.self lt c.remove_lower.ensures.heights c.remove_lower.ensures.behind in
    raised-rising c.args.place c.args.height c.self.inside.steps.entries _ c.insert.ensures.was_ordered c.self.invariant
    (subst (λ s. FitsBetween c.args.place c.args.height s) (sym c.self.view_is) fits) c.in-Ok.ensures.entries

pub returns : goal.returns
returns c =
    let lt : height_at c.args.self.now c.args.place < c.args.height = omega (arith, c.height.ensures) in
    let fits = raised-fits c.args.place c.args.height c.args.self.now c.remove_lower.new.self lt c.remove_lower.ensures.heights c.remove_lower.ensures.behind in
    raised-heights c.args.place c.args.height c.args.self.now c.self.inside.steps.entries _ (subst (λ s. FitsBetween c.args.place c.args.height s) (sym c.self.view_is) fits)
    (rw c.self.view_is c.remove_lower.ensures.heights) c.in-Ok.ensures.entries
