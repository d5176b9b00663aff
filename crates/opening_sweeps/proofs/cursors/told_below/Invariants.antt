use Rattle.std.proofs.Common.{◌<◌}
use Rattle.std.specs.List.{AllWithin}
use Rattle.opening_sweeps.specs.Requests.{Start}
use Rattle.opening_sweeps.proofs.cursors.told_below.Given as goal

abbrev pub invariant-loop-place : goal.invariant-loop-place
invariant-loop-place l = AllWithin (λ (s : Start). s.tag < l.tag) l.starts l.from l.place
