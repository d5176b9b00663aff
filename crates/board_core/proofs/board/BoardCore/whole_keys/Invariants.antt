use Rattle.std.proofs.Common.{◌≡◌, ◌++◌, drop}
use Rattle.std.specs.Prelude.{filter}
use Rattle.board_core.specs.Closing.{is_whole}
use Rattle.board_core.proofs.board.BoardCore.whole_keys.Given as goal

abbrev pub invariant-loop-key : goal.invariant-loop-key
invariant-loop-key l = l.keys.items ++ filter (is_whole l.self) (drop l.key-index l.due) ≡ filter (is_whole l.self) l.due
