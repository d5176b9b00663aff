use Rattle.std.proofs.Common.{◌*◌, ◌≤◌}
use Rattle.generated_sessions.specs.Generated as made
use Rattle.hk_replay.specs.Generating.{Follows}
use Rattle.hk_replay.proofs.generated.take_rounds.Given as goal

abbrev pub invariant-loop-round : goal.invariant-loop-round
invariant-loop-round l = record {
  follows : Follows (made.rounds l.seed l.round) l.fn.session.standing l.session.standing;
  few : l.session.standing.entries ≤ 32 * l.round;
}
