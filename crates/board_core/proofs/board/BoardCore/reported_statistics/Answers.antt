use Rattle.std.proofs.Common.{◌≤◌, ◌∷◌, [], Some, sym, subst}
use Rattle.std.specs.Prelude.{IfOk}
use Rattle.std.specs.List.{All}
use Rattle.hk_base.specs.Fit.{IsFit, greatest_tag}
use Rattle.hk_base.specs.TailoringParts.{TailoringParts}
use Rattle.board_steps.specs.Cores.{Core}
use Rattle.board_steps.specs.Plans.{statistics}
use Rattle.board_state.specs.Statistics.{IsTimely}
use Rattle.board_state.specs.declared.instruction.StatisticsChange.TheVariants as change
use Rattle.board_core.specs.Boards.{core_of}
use Rattle.board_core.specs.Effects.{IsExecuting}
use Rattle.board_core.specs.Execution.{IsExecutedBy, IsToldAfter}
use Rattle.board_core.specs.Reporting.{IsStatisticsBody}
use Rattle.board_core.specs.declared.effect.Effect.TheVariants.{ChangeStatistics}
use Rattle.board_core.proofs.StatisticsShortLemmas.{held-timely, statistics-after, ok-mapped}
use Rattle.board_core.proofs.board.BoardCore.reported_statistics.Goals as goal

pub statistics_report-requires : goal.statistics_report-requires
statistics_report-requires c =
    let b = c.self.inside in
    let core : Core = core_of b.clock b.slot_now b.requests b.structures b.log in
    let fit = subst IsFit c.tailoring-tailoring.ensures c.widths-fit.ensures.fit in
    subst (λ (t : TailoringParts). All (IsTimely t) b.members.members) (sym c.tailoring-tailoring.ensures)
    (held-timely core b.requests.waiting b.structures b.channels b.members fit c.self.invariant)

pub returns : goal.returns
returns c = λ w m resets h by.
    let b = c.self.inside in
    let core : Core = core_of b.clock b.slot_now b.requests b.structures b.log in
    let e = ChangeStatistics (change.Report resets) in
    let fit = subst IsFit c.tailoring-tailoring.ensures c.widths-fit.ensures.fit in
    let le = subst (λ (x : Core). c.args.tag ≤ greatest_tag x.tailoring) (sym c.self.view_is) c.requires in
    let executing = subst (λ (x : Core). IsExecuting x w e) (sym c.self.view_is) h in
    let executed = subst (λ (x : Core). IsExecutedBy x w e m) (sym c.self.view_is) by in
    subst (λ (x : Core). IfOk c.statistics_report.result (λ body. IsToldAfter x m c.args.tag (statistics ∷ []) (Some body))) c.self.view_is
    (ok-mapped (IsStatisticsBody c.tailoring-tailoring.result.now b.members c.args.tag) (λ body. IsToldAfter core m c.args.tag (statistics ∷ []) (Some body))
    (λ body k. statistics-after core b.requests.waiting b.structures b.channels b.members w resets executing m c.args.tag body fit c.self.invariant le executed
    (subst (λ (t : TailoringParts). IsStatisticsBody t b.members c.args.tag body) c.tailoring-tailoring.ensures k))
    c.statistics_report.result c.statistics_report.ensures)
