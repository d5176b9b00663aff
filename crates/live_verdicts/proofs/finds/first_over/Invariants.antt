use Rattle.std.proofs.Common.{◌≡◌, drop}
use Rattle.definition_intervals.specs.Founds.{first_after_all}
use Rattle.live_verdicts.proofs.finds.first_over.Given as goal

abbrev pub invariant-loop-request : goal.invariant-loop-request
invariant-loop-request l = first_after_all (drop l.request-index l.requests) l.first ≡ first_after_all l.requests l.fn.first
