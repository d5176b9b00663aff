use Rattle.std.proofs.Common.{◌≡◌, ◌≤◌, ◌<◌, Ok, Err, length, sym, ◌∙◌, ap, subst}
use Rattle.hk_base.specs.Fit.{greatest_tag}
use Rattle.board_steps.specs.Cores.{Core}
use Rattle.board_steps.specs.Plans.{planned}
use Rattle.board_steps.specs.declared.event.BoardFault.TheVariants.{TimeExhausted}
use Rattle.board_steps.specs.declared.event.Event.TheVariants.{CloseSlot}
use Rattle.board_core.specs.Boards.{core_of}
use Rattle.board_core.specs.Closing.{end_clock, AnswersOpening}
use Rattle.board_core.proofs.EndDueLemmas.{opened, opened-late, not-opened}
use Rattle.board_core.proofs.board.BoardCore.opening.Goals as goal

pub returns-in-Err : goal.returns-in-Err
returns-in-Err c =
    let b = c.self.inside in
    let before : Core = core_of b.clock b.slot_now b.requests b.structures b.log in
    let at = c.end_clock-clock.ensures ∙ ap end_clock (sym c.self.view_is) in
    let is = subst (λ (y : Core). c.args.count ≡ length (planned y CloseSlot)) (sym c.self.view_is) c.requires.count in
    subst (λ (y : Core). AnswersOpening y (Err c.in-Err.fault)) c.self.view_is
    (not-opened before c.end_clock-clock.result c.args.count at is c.in-Err.fault c.in-Err.ensures)

pub returns-then-clock-greatest_tag : goal.returns-then-clock-greatest_tag
returns-then-clock-greatest_tag c =
    let b = c.self.inside in
    let before : Core = core_of b.clock b.slot_now b.requests b.structures b.log in
    let at = c.end_clock-clock.ensures ∙ ap end_clock (sym c.self.view_is) in
    let is = subst (λ (y : Core). c.args.count ≡ length (planned y CloseSlot)) (sym c.self.view_is) c.requires.count in
    subst (λ (y : Core). AnswersOpening y (Err TimeExhausted)) c.self.view_is
    (opened-late before c.end_clock-clock.result c.args.count at is c.in-Ok.draft c.in-Ok.ensures (subst (λ n. n < c.end_clock-clock.result) (c.greatest_tag.ensures.greatest ∙ ap greatest_tag c.tailoring.ensures) c.if-clock-greatest_tag.true))

pub returns : goal.returns
returns c =
    let b = c.self.inside in
    let before : Core = core_of b.clock b.slot_now b.requests b.structures b.log in
    let at = c.end_clock-clock.ensures ∙ ap end_clock (sym c.self.view_is) in
    let is = subst (λ (y : Core). c.args.count ≡ length (planned y CloseSlot)) (sym c.self.view_is) c.requires.count in
    subst (λ (y : Core). AnswersOpening y (Ok c.in-Ok.draft)) c.self.view_is
    (opened before c.end_clock-clock.result c.args.count at is c.in-Ok.draft c.in-Ok.ensures (subst (λ n. c.end_clock-clock.result ≤ n) (c.greatest_tag.ensures.greatest ∙ ap greatest_tag c.tailoring.ensures) c.if-clock-greatest_tag.false))
