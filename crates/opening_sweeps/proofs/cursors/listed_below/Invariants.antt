use Rattle.std.proofs.Common.{◌<◌}
use Rattle.std.specs.List.{AllWithin}
use Rattle.opening_sweeps.specs.Requests.{Bounded}
use Rattle.opening_sweeps.proofs.cursors.listed_below.Given as goal

abbrev pub invariant-loop-place : goal.invariant-loop-place
invariant-loop-place l = AllWithin (λ (r : Bounded). r.low < l.tag) l.requests l.from l.place
