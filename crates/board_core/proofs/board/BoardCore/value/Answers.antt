use Rattle.std.proofs.Common.{◌≡◌, refl, subst, ◌∙◌}
use Rattle.board_steps.specs.Cores.{Core, session, state_of}
use Rattle.board_state.proofs.HeldLemmas.{value-held}
use Rattle.board_core.specs.Boards.{core_of}
use Rattle.board_core.proofs.board.BoardCore.value.Goals as goal

pub returns : goal.returns
returns c =
    let b = c.self.inside in
    let before : Core = core_of b.clock b.slot_now b.requests b.structures b.log in
    subst (λ (y : Core). c.value.result ≡ (state_of y).value c.args.param) c.self.view_is
    (c.value.ensures ∙ value-held (session before) before.slot_now before.moments b.channels c.args.param refl c.self.invariant.board.stands.good c.self.invariant.values)
