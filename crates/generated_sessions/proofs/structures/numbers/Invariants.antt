use Rattle.std.proofs.Common.{◌≡◌}
use Rattle.generated_sessions.specs.Generated.{numbers_from}
use Rattle.generated_sessions.proofs.structures.numbers.Given as goal

abbrev pub invariant-loop-number : goal.invariant-loop-number
invariant-loop-number l = l.numbers.items ≡ numbers_from l.first l.number
