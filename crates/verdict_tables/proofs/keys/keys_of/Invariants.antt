use Rattle.std.proofs.Common.{◌≡◌, take, map}
use Rattle.st03_grammar.specs.Instructions.{key_of}
use Rattle.verdict_tables.proofs.keys.keys_of.Given as goal

abbrev pub invariant-loop-id : goal.invariant-loop-id
invariant-loop-id l = l.keys.items ≡ map (key_of l.kind) (take l.id-index l.ids)
