use Rattle.std.proofs.Common.{◌≡◌, map}
use Rattle.generated_sessions.specs.Generated.{numbers_from}
use Rattle.generated_sessions.specs.Parts.{made_param}
use Rattle.generated_sessions.proofs.structures.params.Given as goal

abbrev pub invariant-loop-number : goal.invariant-loop-number
invariant-loop-number l = l.params.items ≡ map made_param (numbers_from 1 l.number)
