use Rattle.std.proofs.Common.{◌≡◌}
use Rattle.definition_intervals.specs.Findings as findings
use Rattle.definition_intervals.proofs.narrowing.shared_states.Given as goal

abbrev pub invariant-loop-state : goal.invariant-loop-state
invariant-loop-state l = l.shared.items ≡ findings.shared_states l.yielded l.others
