use Rattle.std.proofs.Common.{◌-◌, ◌≤◌, length}
use Rattle.live_verdicts.specs.Marks.{HaveBegun, AreLate}
use Rattle.live_verdicts.proofs.counting.listed_below.Given as goal

abbrev pub invariant-loop-from : goal.invariant-loop-from
invariant-loop-from l =
    record {
      order : l.from ≤ l.to;
      within : l.to ≤ length l.history.history.requests;
      begun : HaveBegun l.history.history l.from l.tag;
      late : AreLate l.history.history l.to l.tag;
    }

abbrev pub decreases-loop-from : goal.decreases-loop-from
decreases-loop-from l = l.to - l.from
