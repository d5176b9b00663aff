use Rattle.std.specs.Prelude.{take}
use Rattle.board_state.specs.Holdings.{AreBoots}
use Rattle.board_state.proofs.structures.of_boots.Given as goal

abbrev pub invariant-loop-boot : goal.invariant-loop-boot
invariant-loop-boot l = AreBoots (take l.boot-index l.boots) l.structures
