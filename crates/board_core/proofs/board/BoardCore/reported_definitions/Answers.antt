use Rattle.std.proofs.Common.{◌∷◌, [], Some, sym, subst}
use Rattle.std.specs.Prelude.{IfOk}
use Rattle.hk_base.specs.Fit.{IsFit}
use Rattle.board_steps.specs.Cores.{Core}
use Rattle.board_steps.specs.Plans.{definitions}
use Rattle.board_state.specs.declared.instruction.StatisticsChange.TheVariants as change
use Rattle.board_core.specs.Boards.{core_of}
use Rattle.board_core.specs.Effects.{IsExecuting}
use Rattle.board_core.specs.Execution.{IsExecutedBy, IsToldAfter}
use Rattle.board_core.specs.Reporting.{IsDefinitionsBody}
use Rattle.board_core.specs.declared.effect.Effect.TheVariants.{ChangeStatistics}
use Rattle.board_core.proofs.StatisticsShortLemmas.{definitions-after, ok-mapped}
use Rattle.board_core.proofs.board.BoardCore.reported_definitions.Goals as goal

pub returns : goal.returns
returns c = λ w m tag h by.
    let b = c.self.inside in
    let core : Core = core_of b.clock b.slot_now b.requests b.structures b.log in
    let e = ChangeStatistics change.ShowDefinitions in
    let fit = subst IsFit c.tailoring.ensures c.widths-fit.ensures.fit in
    let executing = subst (λ (x : Core). IsExecuting x w e) (sym c.self.view_is) h in
    let executed = subst (λ (x : Core). IsExecutedBy x w e m) (sym c.self.view_is) by in
    subst (λ (x : Core). IfOk c.definitions_report.result (λ body. IsToldAfter x m tag (definitions ∷ []) (Some body))) c.self.view_is
    (ok-mapped (IsDefinitionsBody b.members) (λ body. IsToldAfter core m tag (definitions ∷ []) (Some body))
    (λ body k. definitions-after core b.requests.waiting b.structures b.channels b.members w executing m tag body fit c.self.invariant executed k)
    c.definitions_report.result c.definitions_report.ensures)
