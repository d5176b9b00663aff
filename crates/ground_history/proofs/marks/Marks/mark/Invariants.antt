use Rattle.std.proofs.Common.{◌≡◌, ℕ, ◌||◌, ◌&&◌, ◌==◌, take}
use Rattle.std.specs.List.{list_any}
use Rattle.ground_history.specs.Indexes.{is_marked, HasMark}
use Rattle.ground_history.proofs.marks.Marks.mark.Given as goal

abbrev pub invariant-loop-step : goal.invariant-loop-step
invariant-loop-step l = record {
  marks : (k step : ℕ) → is_marked l.self k step
      ≡ (is_marked l.initial.self k step || (k == l.request && list_any (λ s. s == step) (take l.step-index l.steps)));
  room : (k step : ℕ) → HasMark l.initial.self k step → HasMark l.self k step;
}
