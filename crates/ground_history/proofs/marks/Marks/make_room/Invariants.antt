use Rattle.std.proofs.Common.{◌≡◌, ℕ, ◌<◌, get_or}
use Rattle.ground_history.specs.Indexes.{is_marked, HasMark}
use Rattle.ground_history.proofs.marks.Marks.make_room.Given as goal

abbrev pub invariant-loop-step : goal.invariant-loop-step
invariant-loop-step l = record {
  marks : (k step : ℕ) → is_marked l.self k step ≡ is_marked l.initial.self k step;
  room : (j d : ℕ) → j < l.step-index → HasMark l.self l.request (get_or l.steps j d);
}
