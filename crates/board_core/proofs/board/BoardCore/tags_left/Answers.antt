use Rattle.std.proofs.Common.{arith, ℕ, ◌≡◌, ◌<◌, ◌^◌, ◌+◌, ◌-◌, ◌*◌, max, length, sym, ◌∙◌, ap, ap₂, subst}
use Rattle.hk_base.specs.Fit.{IsFit}
use Rattle.hk_base.specs.TailoringParts.{TailoringParts}
use Rattle.hk_base.specs.declared.types.Widths.{Widths}
use Rattle.board_steps.specs.Cores.{Core, next_tag}
use Rattle.board_steps.specs.Plans.{tags_left, prepared, settables}
use Rattle.board_steps.specs.declared.event.Event.TheVariants.{CloseSlot}
use Rattle.board_core.specs.Boards.{core_of}
use Rattle.board_core.specs.Closing.{end_clock}
use Rattle.board_core.proofs.EndTimeLemmas.{slot-few, next-end-few, taken-both}
use Rattle.board_core.proofs.board.BoardCore.tags_left.Goals as goal

pub overflow_add-self-inside : goal.overflow_add-self-inside
overflow_add-self-inside c =
    let b = c.self.inside in
    let before : Core = core_of b.clock b.slot_now b.requests b.structures b.log in
    let few = slot-few before (subst IsFit c.tailoring.ensures c.widths.ensures.fit) c.self.invariant.board.stands in
    omega (arith, few)

pub overflow_mul-self-inside : goal.overflow_mul-self-inside
overflow_mul-self-inside c =
    let b = c.self.inside in
    let before : Core = core_of b.clock b.slot_now b.requests b.structures b.log in
    let few = next-end-few before (subst IsFit c.tailoring.ensures c.widths.ensures.fit) c.self.invariant.board.stands in
    let here = subst (λ (t : TailoringParts). (b.slot_now + 2) * t.widths.slot < 2 ^ 58) (sym c.tailoring.ensures) few in
    let there = subst (λ (w : Widths). (b.slot_now + 2) * w.slot < 2 ^ 58) (sym c.widths.ensures.widths) here in
    omega (arith, there)

pub returns-clause-left : goal.returns-clause-left
returns-clause-left c =
    let b = c.self.inside in
    let before : Core = core_of b.clock b.slot_now b.requests b.structures b.log in
    let wide = ap (λ (w : Widths). w.slot) c.widths.ensures.widths ∙ ap (λ (t : TailoringParts). t.widths.slot) c.tailoring.ensures in
    let at = c.end_clock.ensures ∙ ap end_clock (sym c.self.view_is) in
    let count = subst (λ (y : Core). c.args.filings ≡ length (settables y.tailoring)) (sym c.self.view_is) c.requires in
    let end : ℕ = (b.slot_now + 2) * b.log.tailoring.widths.slot in
    let first : ℕ = next_tag (end_clock before) b.log.moments in
    subst (λ (y : Core). c.saturating_sub-2.result ≡ tags_left (prepared y CloseSlot)) c.self.view_is
    (c.saturating_sub-2.ensures
    ∙ ap (λ n. n - c.args.filings) (c.saturating_sub.ensures ∙ ap₂ (λ w n. (b.slot_now + 2) * w - n) wide (c.max-first.ensures ∙ ap₂ (λ k n. max k (n + 1)) at c.last_tag.ensures.last))
    ∙ taken-both end first c.args.filings ∙ ap (λ n. end - (first + n)) count)

pub returns-clause-small : goal.returns-clause-small
returns-clause-small c =
    let b = c.self.inside in
    let before : Core = core_of b.clock b.slot_now b.requests b.structures b.log in
    let few = next-end-few before (subst IsFit c.tailoring.ensures c.widths.ensures.fit) c.self.invariant.board.stands in
    let here = subst (λ (t : TailoringParts). (b.slot_now + 2) * t.widths.slot < 2 ^ 58) (sym c.tailoring.ensures) few in
    let there = subst (λ (w : Widths). (b.slot_now + 2) * w.slot < 2 ^ 58) (sym c.widths.ensures.widths) here in
    let one = c.saturating_sub.ensures in
    let two = c.saturating_sub-2.ensures in
    omega (arith, there, one, two)
