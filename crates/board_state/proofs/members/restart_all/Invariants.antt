use Rattle.board_state.proofs.HalfLemmas.{AreHalf}
use Rattle.board_state.specs.Statistics.{IsEmpty}
use Rattle.board_state.proofs.members.restart_all.Given as goal

abbrev pub invariant-loop-member : goal.invariant-loop-member
invariant-loop-member l = AreHalf (λ old new. IsEmpty old.param new) l.member-index l.initial.members l.members
