use Rattle.std.proofs.Common.{arith, ◌<◌, ◌≡◌, length}
use Rattle.board_state.specs.Statistics.{IsEmpty}
use Rattle.board_state.proofs.HalfLemmas.{half-step, half-all}
use Rattle.board_state.proofs.members.restart_all.Goals as goal

pub loop-member-preserved : goal.loop-member-preserved
loop-member-preserved c =
    let lt : c.loop-member.member-index < length c.args.members.now = omega arith in
    half-step (λ old new. IsEmpty old.param new) c.loop-member.member-index c.args.members.now c.loop-member.members c.member-item.result c.restart.new.self lt c.loop-member.invariant c.restart.ensures

pub returns : goal.returns
returns c =
    let e : length c.args.members.now ≡ c.loop-member.member-index = omega arith in
    half-all (λ old new. IsEmpty old.param new) c.loop-member.member-index c.args.members.now c.loop-member.members e c.loop-member.invariant
