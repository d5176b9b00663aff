use Rattle.std.proofs.Common.{◌+◌, ◌-◌, ◌*◌, ◌/◌, ◌≤◌, length}
use Rattle.ground_history.proofs.RequestLemmas.{NoneFrom}
use Rattle.ground_history.proofs.requests.Requests.verified.Given as goal

abbrev pub invariant-loop-rounds : goal.invariant-loop-rounds
invariant-loop-rounds l = record {
  most : l.rounds ≤ (length l.self + 16384 - 1 - l.count) / 16384;
  none : NoneFrom l.long l.id l.tag l.self (l.count + 16384 * l.rounds);
}

abbrev pub decreases-loop-rounds : goal.decreases-loop-rounds
decreases-loop-rounds l = l.rounds
