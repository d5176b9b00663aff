use Rattle.std.proofs.Common.{arith, ◌<◌, ◌≡◌, ◌+◌, ◌∙◌, length, refl, sym, subst, ap, get_or, set}
use Rattle.std.proofs.lemmas.Int.{to_z-of_z}
use Rattle.statistics.specs.Summaries.{sample}
use Rattle.board_state.specs.Statistics.{CountsAt}
use Rattle.board_state.proofs.HalfLemmas.{half-member, half-step, half-all}
use Rattle.board_state.proofs.members.file_in.Goals as goal

pub file-requires-clause-room : goal.file-requires-clause-room
file-requires-clause-room c =
    let fits = c.ranges.value in
    let lt : c.loop-member.member-index < length c.args.members.now = omega arith in
    let inv = simp to_z-of_z at c.loop-member.invariant in
    let same = half-member (CountsAt c.args.param (sample c.args.slot c.args.value)) c.loop-member.member-index c.args.members.now c.loop-member.members c.member-item.result inv in
    subst (λ m. m.stat.count < 4294967295) (sym same) (c.requires.room c.loop-member.member-index c.member-item.result lt)

pub loop-member-preserved : goal.loop-member-preserved
loop-member-preserved c =
    let fits = c.ranges.value in
    let lt : c.loop-member.member-index < length c.args.members.now = omega arith in
    let inv = simp to_z-of_z at c.loop-member.invariant in
    let now = simp to_z-of_z at c.file.ensures in
    simp to_z-of_z (half-step (CountsAt c.args.param (sample c.args.slot c.args.value)) c.loop-member.member-index c.args.members.now c.loop-member.members c.member-item.result c.file.new.self lt inv now)

pub returns : goal.returns
returns c =
    let fits = c.ranges.value in
    let inv = simp to_z-of_z at c.loop-member.invariant in
    let e : length c.args.members.now ≡ c.loop-member.member-index = omega arith in
    half-all (CountsAt c.args.param (sample c.args.slot c.args.value)) c.loop-member.member-index c.args.members.now c.loop-member.members e inv
