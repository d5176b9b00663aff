use Rattle.std.proofs.Common.{◌≤◌, length}
use Rattle.live_verdicts.proofs.held.coming_place.Given as goal

abbrev pub invariant-loop-end : goal.invariant-loop-end
invariant-loop-end l = l.end ≤ length l.held

abbrev pub decreases-loop-end : goal.decreases-loop-end
decreases-loop-end l = l.end
