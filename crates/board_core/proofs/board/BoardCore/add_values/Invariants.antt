use Rattle.std.proofs.Common.{map, take}
use Rattle.board_steps.specs.Plans.{samples_of}
use Rattle.board_core.specs.Closing.{IsTelling}
use Rattle.board_core.proofs.board.BoardCore.add_values.Given as goal

abbrev pub invariant-loop-key : goal.invariant-loop-key
invariant-loop-key l = IsTelling l.self (map samples_of (take l.key-index l.keys)) l.draft
