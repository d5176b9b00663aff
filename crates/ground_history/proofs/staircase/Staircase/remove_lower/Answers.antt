-- A step that isn't higher than the one before it is not missed.
use Rattle.std.proofs.Common.{sym, subst}
use Rattle.ground_history.specs.Stairs.{IsRising, HasStep, IsLower}
use Rattle.ground_history.proofs.StairLemmas.{rising-remove, removed-heights, removed-step}
use Rattle.ground_history.proofs.staircase.Staircase.remove_lower.Goals as goal

pub invariant_of-self : goal.invariant_of-self
invariant_of-self c = subst IsRising (sym c.remove.ensures.entries) (rising-remove _ c.self.inside.steps.entries c.self.invariant)

pub loop-lower-preserved : goal.loop-lower-preserved
loop-lower-preserved c =
    let is = sym c.self.view_is in
    let low = subst (λ s. IsLower c.in-Some.lower c.args.height s) is c.in-Some.ensures.1 in
    record {
      heights = removed-heights c.args.place c.args.height c.in-Some.lower c.args.self.now c.self.inside.steps.entries _ c.in-Some.ensures.0 low c.remove.ensures.entries
          (rw c.self.view_is c.loop-lower.invariant.heights);
      step = removed-step c.args.place c.in-Some.lower c.self.inside.steps.entries _ c.in-Some.ensures.0 c.remove.ensures.entries
          (subst (λ s. HasStep s c.args.place) is c.loop-lower.invariant.step);
    }
