use Rattle.std.proofs.Common.{◌≡◌, ◌++◌, length}
use Rattle.std.specs.Prelude.{filter_map}
use Rattle.definition_intervals.specs.Openings as openings
use Rattle.definition_intervals.proofs.KeptLemmas.{kept_from}
use Rattle.definition_intervals.proofs.gathering.openings.Given as goal

abbrev pub invariant-loop-from : goal.invariant-loop-from
invariant-loop-from l =
    let h = l.history.history in
    l.openings.items ++ filter_map (openings.report_opening h l.key l.tag) (kept_from l.from h.kept) ≡ openings.openings l.history.tailoring h l.key l.tag

abbrev pub decreases-loop-from : goal.decreases-loop-from
decreases-loop-from l = length (kept_from l.from l.history.history.kept)
