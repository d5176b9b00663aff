use Rattle.std.proofs.Common.{take}
use Rattle.board_state.specs.Statistics.{AreRowsOf}
use Rattle.board_state.proofs.members.rows_of.Given as goal

abbrev pub invariant-loop-member : goal.invariant-loop-member
invariant-loop-member l = AreRowsOf l.tailoring (take l.member-index l.members) l.rows.items
