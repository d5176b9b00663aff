use Rattle.std.proofs.Common.{◌≡◌, take}
use Rattle.board_state.specs.Statistics.{params_of}
use Rattle.board_state.proofs.members.ids_of.Given as goal

abbrev pub invariant-loop-member : goal.invariant-loop-member
invariant-loop-member l = l.ids.items ≡ params_of (take l.member-index l.members)
