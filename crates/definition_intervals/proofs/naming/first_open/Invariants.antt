use Rattle.std.proofs.Common.{◌≡◌, drop}
use Rattle.std.specs.Prelude.{find, option_map}
use Rattle.definition_intervals.specs.Openings as openings
use Rattle.definition_intervals.proofs.naming.first_open.Given as goal

abbrev pub invariant-loop-request : goal.invariant-loop-request
invariant-loop-request l = option_map (λ c. c.number) (find openings.is_open (drop l.request-index l.request-items)) ≡ openings.first_open l.opening
