use Rattle.std.proofs.Common.{◌-◌, ◌≤◌}
use Rattle.live_verdicts.proofs.counting.ended_before.Given as goal

abbrev pub invariant-loop-first : goal.invariant-loop-first
invariant-loop-first l =
    record {
      order : l.first ≤ l.end;
      within : l.end ≤ l.to;
    }

abbrev pub decreases-loop-first : goal.decreases-loop-first
decreases-loop-first l = l.end - l.first
