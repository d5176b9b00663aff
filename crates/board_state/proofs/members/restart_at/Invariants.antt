use Rattle.board_state.proofs.HalfLemmas.{AreHalf}
use Rattle.board_state.specs.Statistics.{RestartsAt}
use Rattle.board_state.proofs.members.restart_at.Given as goal

abbrev pub invariant-loop-member : goal.invariant-loop-member
invariant-loop-member l = AreHalf (RestartsAt l.param) l.member-index l.initial.members l.members
