use Rattle.std.proofs.Common.{◌+◌, ◌≤◌, take}
use Rattle.hk_replay.specs.Generating.{Follows}
use Rattle.hk_replay.proofs.generated.take_each.Given as goal

abbrev pub invariant-loop-entry : goal.invariant-loop-entry
invariant-loop-entry l = record {
  follows : Follows (take l.entry-index l.entries) l.fn.session.standing l.session.standing;
  few : l.session.standing.entries ≤ l.fn.session.standing.entries + l.entry-index;
}
