use Rattle.std.proofs.Common.{◌≡◌, ◌+◌, length}
use Rattle.std.specs.Prelude.{filter}
use Rattle.decommutator.specs.Rows.{report_count, is_parameter_report}
use Rattle.decommutator.proofs.rows.report_count.Given as goal

abbrev pub invariant-loop-kept : goal.invariant-loop-kept
invariant-loop-kept l = l.count + length (filter is_parameter_report l.kept-iterator) ≡ report_count l.history
