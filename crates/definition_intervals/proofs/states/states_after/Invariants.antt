use Rattle.std.proofs.Common.{take, flat_map}
use Rattle.definition_intervals.specs.States.{next_states}
use Rattle.definition_intervals.specs.Findings.{IsSetOf}
use Rattle.definition_intervals.proofs.states.states_after.Given as goal

abbrev pub invariant-loop-state : goal.invariant-loop-state
invariant-loop-state l = IsSetOf l.after.items (flat_map (next_states l.tailoring l.request) (take l.state-index l.states))
