use Rattle.std.proofs.Common.{◌≡◌, take}
use Rattle.std.specs.Option.{option_copied}
use Rattle.definition_intervals.specs.Verdicts as verdicts
use Rattle.definition_intervals.proofs.naming.latest.Given as goal

abbrev pub invariant-loop-opening : goal.invariant-loop-opening
invariant-loop-opening l = option_copied l.latest ≡ verdicts.latest (take l.opening-index l.openings)
