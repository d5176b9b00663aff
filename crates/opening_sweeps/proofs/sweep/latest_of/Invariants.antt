use Rattle.std.proofs.Common.{◌≡◌, take, drop}
use Rattle.opening_sweeps.specs.Sweeps.{last_tag}
use Rattle.opening_sweeps.proofs.sweep.latest_of.Given as goal

abbrev pub invariant-loop-place : goal.invariant-loop-place
invariant-loop-place l = l.latest ≡ last_tag l.fn.latest (drop l.from (take l.place l.starts))
