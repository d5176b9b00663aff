use Rattle.board_state.proofs.HalfLemmas.{AreHalf}
use Rattle.statistics.specs.Summaries.{sample}
use Rattle.board_state.specs.Statistics.{CountsAt}
use Rattle.board_state.proofs.members.file_in.Given as goal

abbrev pub invariant-loop-member : goal.invariant-loop-member
invariant-loop-member l = AreHalf (CountsAt l.param (sample l.slot l.value)) l.member-index l.initial.members l.members
