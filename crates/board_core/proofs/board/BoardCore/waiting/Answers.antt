use Rattle.std.proofs.Common.{◌≡◌, ◌∙◌, sym, subst}
use Rattle.board_steps.specs.Cores.{Core}
use Rattle.board_steps.specs.SlotRuns as slot_runs
use Rattle.board_core.specs.Boards.{core_of}
use Rattle.board_core.proofs.WorkingLemmas.{waiting-is}
use Rattle.board_core.proofs.board.BoardCore.waiting.Goals as goal

pub returns : goal.returns
returns c =
    let b = c.self.inside in
    subst (λ (x : Core). c.waiting.result ≡ slot_runs.waiting x) c.self.view_is
    (c.waiting.ensures ∙ sym (waiting-is (core_of b.clock b.slot_now b.requests b.structures b.log) b.requests.waiting c.self.invariant.board.waits))
