use Rattle.std.proofs.Common.{◌≡◌, ◌++◌, length}
use Rattle.std.specs.Prelude.{filter_map}
use Rattle.entry_changes.specs.Changes.{told_start_below}
use Rattle.live_verdicts.specs.Marks as marks
use Rattle.live_verdicts.specs.Marks.{kept_from}
use Rattle.live_verdicts.proofs.between.told_between.Given as goal

abbrev pub invariant-loop-from : goal.invariant-loop-from
invariant-loop-from l =
    l.starts.items ++ filter_map (told_start_below l.key l.tag) (kept_from l.from l.history.history) ≡ marks.told_between l.history.history l.key l.fn.from l.tag

abbrev pub decreases-loop-from : goal.decreases-loop-from
decreases-loop-from l = length (kept_from l.from l.history.history)
