use Rattle.std.proofs.Common.{length}
use Rattle.definition_intervals.proofs.equality.+are_same_arrays.Given as goal

-- each call has a shorter list
abbrev pub decreases-are_same_arrays : goal.decreases-are_same_arrays
decreases-are_same_arrays l = length l.a.now
