use Rattle.std.proofs.Common.{sym, subst, Some}
use Rattle.pus_messages.specs.declared.message.ReportBody.{ReportBody}
use Rattle.board_steps.specs.Cores.{Core}
use Rattle.board_state.specs.declared.instruction.StatisticsChange.{StatisticsChange}
use Rattle.board_core.specs.Effects.{IsExecuting, statistics_topics}
use Rattle.board_core.specs.Execution.{IsExecutedBy, IsToldAfter}
use Rattle.board_core.specs.declared.effect.Effect.TheVariants.{ChangeStatistics}
use Rattle.board_core.proofs.board.BoardCore.ordered_statistics.Goals as goal

pub returns-in_ok-reported_statistics-in-Report : goal.returns-in_ok-reported_statistics-in-Report
returns-in_ok-reported_statistics-in-Report c = λ w m h by.
    let core : Core = c.args.self.now in
    let body : ReportBody = c.in_ok-reported_statistics-in-Report.field-0 in
    let is = c.in-Report.is in
    let executing = subst (λ (x : StatisticsChange). IsExecuting core w (ChangeStatistics x)) is h in
    let executed = subst (λ (x : StatisticsChange). IsExecutedBy core w (ChangeStatistics x) m) is by in
    subst (λ (x : StatisticsChange). IsToldAfter core m c.args.tag (statistics_topics x) (Some body)) (sym is)
    (c.in_ok-reported_statistics-in-Report.ensures w m c.in-Report.field-0 executing executed)

pub returns-in_ok-reported_definitions-in-ShowDefinitions : goal.returns-in_ok-reported_definitions-in-ShowDefinitions
returns-in_ok-reported_definitions-in-ShowDefinitions c = λ w m h by.
    let core : Core = c.args.self.now in
    let body : ReportBody = c.in_ok-reported_definitions-in-ShowDefinitions.field-0 in
    let is = c.in-ShowDefinitions.is in
    let executing = subst (λ (x : StatisticsChange). IsExecuting core w (ChangeStatistics x)) is h in
    let executed = subst (λ (x : StatisticsChange). IsExecutedBy core w (ChangeStatistics x) m) is by in
    subst (λ (x : StatisticsChange). IsToldAfter core m c.args.tag (statistics_topics x) (Some body)) (sym is)
    (c.in_ok-reported_definitions-in-ShowDefinitions.ensures w m c.args.tag executing executed)
