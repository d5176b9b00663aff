use Rattle.definition_intervals.proofs.ReachLemmas.{AreReached}
use Rattle.definition_intervals.proofs.states.possible_states.Given as goal

abbrev pub invariant-loop-request : goal.invariant-loop-request
invariant-loop-request l = AreReached l.tailoring l.opening l.request-index l.states.items
