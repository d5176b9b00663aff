use Rattle.std.proofs.Common.{◌≡◌}
use Rattle.opening_sweeps.proofs.GatherLemmas.{first_requests}
use Rattle.opening_sweeps.proofs.gathering.bounded_requests.Given as goal

abbrev pub invariant-loop-number : goal.invariant-loop-number
invariant-loop-number l = l.requests.items ≡ first_requests l.history.history l.key l.number
