use Rattle.std.proofs.Common.{◌≡◌, ◌++◌, flat_map}
use Rattle.generated_sessions.specs.Generated as made
use Rattle.generated_sessions.specs.Generated.{numbers_from}
use Rattle.generated_sessions.proofs.rounds.add_structures.Given as goal

abbrev pub invariant-loop-number : goal.invariant-loop-number
invariant-loop-number l = l.entries.items ≡ l.fn.entries.items ++ flat_map (made.delivered l.seed l.round) (numbers_from 1 l.number)
