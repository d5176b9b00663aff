use Rattle.std.proofs.Common.{arith, ◌<◌, ◌^◌, ◌+◌, ◌*◌, sym, subst}
use Rattle.hk_base.specs.Fit.{IsFit}
use Rattle.hk_base.specs.TailoringParts.{TailoringParts}
use Rattle.hk_base.specs.declared.types.Widths.{Widths}
use Rattle.board_steps.specs.Cores.{Core}
use Rattle.board_core.specs.Boards.{core_of}
use Rattle.board_core.proofs.EndTimeLemmas.{slot-few, end-few}
use Rattle.board_core.proofs.board.BoardCore.end_clock.Goals as goal

pub overflow_add-self-inside : goal.overflow_add-self-inside
overflow_add-self-inside c =
    let b = c.self.inside in
    let before : Core = core_of b.clock b.slot_now b.requests b.structures b.log in
    let fit = subst IsFit c.tailoring.ensures c.widths.ensures.fit in
    let few = slot-few before fit c.self.invariant.board.stands in
    omega (arith, few)

pub overflow_mul-self-inside : goal.overflow_mul-self-inside
overflow_mul-self-inside c =
    let b = c.self.inside in
    let before : Core = core_of b.clock b.slot_now b.requests b.structures b.log in
    let fit = subst IsFit c.tailoring.ensures c.widths.ensures.fit in
    let few = end-few before fit c.self.invariant.board.stands in
    let here = subst (λ (t : TailoringParts). (b.slot_now + 1) * t.widths.slot < 2 ^ 60) (sym c.tailoring.ensures) few in
    let there = subst (λ (w : Widths). (b.slot_now + 1) * w.slot < 2 ^ 60) (sym c.widths.ensures.widths) here in
    omega (arith, there)
