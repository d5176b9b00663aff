use Rattle.std.proofs.Common.{length}
use Rattle.definition_intervals.proofs.equality.+are_same_states.Given as goal

-- each call has a shorter list
abbrev pub decreases-are_same_states : goal.decreases-are_same_states
decreases-are_same_states l = length l.a.now
