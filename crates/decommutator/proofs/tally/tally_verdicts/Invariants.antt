use Rattle.std.proofs.Common.{◌≡◌, ◌≤◌, ◌+◌, ◌*◌, length}
use Rattle.std.specs.List.{AllByRecursion}
use Rattle.pus_messages.specs.Spelling.{HasRoom}
use Rattle.ground_history.specs.Histories.{Kept}
use Rattle.decommutator.specs.Standing.{tally_by, with_verdicts}
use Rattle.decommutator.specs.Tallying.{verdicts_on}
use Rattle.decommutator.proofs.tally.tally_verdicts.Given as goal

abbrev pub invariant-loop-kept : goal.invariant-loop-kept
invariant-loop-kept l = record {
  ahead : with_verdicts l.verdicts.tailoring l.tally (verdicts_on l.verdicts.tailoring l.verdicts.history l.kept-iterator) ≡ tally_by l.verdicts l.counts;
  short : AllByRecursion (λ (k : Kept). HasRoom k.report.body) l.kept-iterator;
  few : l.tally.decided + (l.tally.undecidable + (l.tally.other + length l.kept-iterator)) ≤ length l.verdicts.history.kept;
  values : l.tally.values + 4294967296 * length l.kept-iterator ≤ 4294967296 * length l.verdicts.history.kept;
}
