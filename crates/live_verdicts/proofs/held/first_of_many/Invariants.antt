use Rattle.std.proofs.Common.{◌≤◌, length}
use Rattle.live_verdicts.proofs.held.first_of_many.Given as goal

abbrev pub invariant-loop-end : goal.invariant-loop-end
invariant-loop-end l =
    record {
      within : l.end ≤ length l.held;
      some : 1 ≤ l.left;
    }

abbrev pub decreases-loop-end : goal.decreases-loop-end
decreases-loop-end l = l.end
