use Rattle.std.proofs.Common.{◌≡◌, true}
use Rattle.std.specs.List.{AllWithin}
use Rattle.definition_intervals.specs.Openings as openings
use Rattle.opening_sweeps.specs.Requests.{Bounded}
use Rattle.opening_sweeps.proofs.cursors.settled_before.Given as goal

abbrev pub invariant-loop-place : goal.invariant-loop-place
invariant-loop-place l = AllWithin (λ (r : Bounded). openings.is_at_most r.high l.tag ≡ true) l.requests l.from l.place
