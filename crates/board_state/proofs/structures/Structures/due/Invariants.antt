use Rattle.std.specs.Prelude.{◌≡◌, ◌≤◌, ◌++◌}
use Rattle.std.specs.List.{AllByRecursion}
use Rattle.board_state.specs.Holdings.{due_keys}
use Rattle.board_state.proofs.structures.Structures.due.Given as goal

abbrev pub invariant-loop-key : goal.invariant-loop-key
invariant-loop-key l =
    (l.keys.items ++ due_keys l.slot l.key-iterator ≡ due_keys l.slot l.self) × AllByRecursion (λ x. 1 ≤ x.1.structure.def.interval) l.key-iterator
