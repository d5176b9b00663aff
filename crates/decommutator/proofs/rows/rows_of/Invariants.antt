use Rattle.std.proofs.Common.{◌≡◌, ◌<◌, length}
use Rattle.std.specs.Prelude.{filter, slice_get}
use Rattle.std.specs.List.{AllByRecursion}
use Rattle.pus_messages.specs.Spelling.{HasRoom}
use Rattle.ground_history.specs.Histories.{Kept}
use Rattle.decommutator.specs.Rows.{parameter_reports, is_parameter_report}
use Rattle.decommutator.proofs.rows.rows_of.Given as goal

abbrev pub invariant-loop-kept : goal.invariant-loop-kept
invariant-loop-kept l = record {
  next : slice_get (filter is_parameter_report l.kept-iterator) l.left ≡ slice_get (parameter_reports l.history) l.number;
  within : l.left < length (filter is_parameter_report l.kept-iterator);
  short : AllByRecursion (λ (k : Kept). HasRoom k.report.body) l.kept-iterator;
}
