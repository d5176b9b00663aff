use Rattle.std.proofs.Common.{◌-◌, ◌≤◌}
use Rattle.verdict_tables.proofs.SearchLemmas.{IsBetween}
use Rattle.verdict_tables.proofs.ranges.Ranges.number_at.Given as goal

abbrev pub invariant-loop-end : goal.invariant-loop-end
invariant-loop-end g l =
    record {
      more : l.fn.steps ≤ l.steps;
      between : IsBetween l.self l.tag l.last l.end (l.steps - l.fn.steps);
    }

abbrev pub decreases-loop-end : goal.decreases-loop-end
decreases-loop-end g l = l.end - l.last
