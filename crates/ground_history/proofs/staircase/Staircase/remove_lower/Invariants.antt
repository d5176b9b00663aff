use Rattle.std.proofs.Common.{◌≡◌, ℕ, ◌∷◌, length}
use Rattle.ground_history.specs.Stairs.{height_at, HasStep}
use Rattle.ground_history.proofs.staircase.Staircase.remove_lower.Given as goal

abbrev pub invariant-loop-lower : goal.invariant-loop-lower
invariant-loop-lower l = record {
  heights : (k : ℕ) → height_at ((l.place, l.height) ∷ l.self) k ≡ height_at ((l.place, l.height) ∷ l.initial.self) k;
  step : HasStep l.self l.place;
}

abbrev pub decreases-loop-lower : goal.decreases-loop-lower
decreases-loop-lower l = length l.self
