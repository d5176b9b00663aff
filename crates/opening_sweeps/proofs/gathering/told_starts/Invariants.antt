use Rattle.std.proofs.Common.{◌≡◌, ◌++◌, length}
use Rattle.std.specs.Prelude.{filter_map}
use Rattle.opening_sweeps.specs.Requests as requests
use Rattle.definition_intervals.proofs.KeptLemmas.{kept_from}
use Rattle.opening_sweeps.proofs.gathering.told_starts.Given as goal

abbrev pub invariant-loop-from : goal.invariant-loop-from
invariant-loop-from l =
    l.starts.items ++ filter_map (requests.told_start l.key) (kept_from l.from l.history.history.kept) ≡ requests.told_starts l.history.history l.key

abbrev pub decreases-loop-from : goal.decreases-loop-from
decreases-loop-from l = length (kept_from l.from l.history.history.kept)
