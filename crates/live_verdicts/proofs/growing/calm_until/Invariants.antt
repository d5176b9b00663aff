use Rattle.std.proofs.Common.{List}
use Rattle.std.specs.List.{All}
use Rattle.opening_sweeps.specs.Requests.{Start}
use Rattle.live_verdicts.specs.Marks.{IsMarkOf, LeavesFinds, with_calm}
use Rattle.live_verdicts.proofs.growing.calm_until.Given as goal

abbrev pub invariant-loop-number : goal.invariant-loop-number
invariant-loop-number l =
    record {
      calm : (starts : List Start) → IsMarkOf l.history l.key starts l.mark → IsMarkOf l.history l.key starts (with_calm l.mark l.number);
      left : All (λ c. LeavesFinds l.history.tailoring c l.mark) l.left.items;
    }
