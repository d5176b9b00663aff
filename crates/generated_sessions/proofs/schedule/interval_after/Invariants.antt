use Rattle.std.proofs.Common.{◌≡◌}
use Rattle.generated_sessions.specs.Generated as made
use Rattle.generated_sessions.proofs.schedule.interval_after.Given as goal

abbrev pub invariant-loop-left : goal.invariant-loop-left
invariant-loop-left l = made.interval_after l.structure l.left ≡ made.interval_after l.structure l.fn.requests

abbrev pub decreases-loop-left : goal.decreases-loop-left
decreases-loop-left l = l.left
