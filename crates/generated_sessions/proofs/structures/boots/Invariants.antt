use Rattle.std.proofs.Common.{◌≡◌, map}
use Rattle.generated_sessions.specs.Generated.{numbers_from, made_boot}
use Rattle.generated_sessions.proofs.structures.boots.Given as goal

abbrev pub invariant-loop-number : goal.invariant-loop-number
invariant-loop-number l = l.boots.items ≡ map made_boot (numbers_from 1 l.number)
