use Rattle.std.proofs.Common.{arith, ◌≡◌, ◌<◌, List, length, subst, Some}
use Rattle.hk_base.specs.declared.types.Structure.{Structure}
use Rattle.board_state.specs.Holdings.{ChangesAt, new_held}
use Rattle.board_state.proofs.BootLemmas.{boots-more, item-there}
use Rattle.board_state.proofs.structures.of_boots.Goals as goal

pub loop-boot-preserved : goal.loop-boot-preserved
loop-boot-preserved c =
    let bs = c.args.boots.now in
    let i = c.loop-boot.boot-index in
    let b = c.boot-item.result in
    let within : i < length bs = omega arith in
    boots-more bs i b c.loop-boot.structures c.create.new.self c.requires (item-there bs i b within c.boot-item.is)
    (subst (λ (s : Structure). ChangesAt b.key (Some (new_held s 0)) c.loop-boot.structures c.create.new.self) c.in_ok-copy.ensures c.in_ok-create.ensures.ok)
    c.in_ok-create.ensures.one_shots c.in_ok-create.ensures.rising c.loop-boot.invariant
