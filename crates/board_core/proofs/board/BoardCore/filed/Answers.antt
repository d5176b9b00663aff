use Rattle.std.proofs.Common.{◌≡◌, subst, ◌∙◌}
use Rattle.hk_base.specs.Fit.{IsFit}
use Rattle.board_steps.specs.Cores.{Core, session}
use Rattle.board_steps.specs.Slots.{is_filed}
use Rattle.board_state.proofs.HeldLemmas.{filed-held}
use Rattle.board_core.specs.Boards.{core_of}
use Rattle.board_core.proofs.board.BoardCore.filed.Goals as goal

pub returns : goal.returns
returns c =
    let b = c.self.inside in
    let before : Core = core_of b.clock b.slot_now b.requests b.structures b.log in
    let fit = subst IsFit c.tailoring.ensures c.widths-fit.ensures.fit in
    subst (λ (y : Core). c.is_filed.result ≡ is_filed y c.args.param) c.self.view_is
    (c.is_filed.ensures ∙ filed-held (session before) before.slot_now before.moments b.channels c.args.param fit.widths.max_interval.0.0 c.self.invariant.board.stands.good c.self.invariant.values)
