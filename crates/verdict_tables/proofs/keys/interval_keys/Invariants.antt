use Rattle.std.proofs.Common.{◌≡◌, take, map}
use Rattle.st03_grammar.specs.Instructions.{key_of}
use Rattle.verdict_tables.proofs.keys.interval_keys.Given as goal

abbrev pub invariant-loop-pair : goal.invariant-loop-pair
invariant-loop-pair l = l.keys.items ≡ map (λ pair. key_of l.kind pair.id) (take l.pair-index l.pairs)
