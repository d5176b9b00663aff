use Rattle.std.proofs.Common.{◌≡◌, take, drop, None}
use Rattle.definition_intervals.specs.Founds.{first_after_all}
use Rattle.opening_sweeps.specs.Groups.{unsure}
use Rattle.opening_sweeps.proofs.naming.named_request.Given as goal

abbrev pub invariant-loop-place : goal.invariant-loop-place
invariant-loop-place l =
    first_after_all (unsure (drop l.place (take l.listed l.requests))) None ≡ first_after_all (unsure (drop l.settled (take l.listed l.requests))) None
