use Rattle.std.proofs.Common.{◌≡◌, take, None}
use Rattle.std.specs.Prelude.{filter_map}
use Rattle.definition_intervals.specs.Founds.{first_after_all}
use Rattle.opening_sweeps.specs.Requests.{settled}
use Rattle.opening_sweeps.proofs.naming.first_settled.Given as goal

abbrev pub invariant-loop-place : goal.invariant-loop-place
invariant-loop-place l =
    l.fn.first ≡ first_after_all (filter_map (settled l.tag) (take l.from l.requests)) None
    → l.first ≡ first_after_all (filter_map (settled l.tag) (take l.place l.requests)) None
