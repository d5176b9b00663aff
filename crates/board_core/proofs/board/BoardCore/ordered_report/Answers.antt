use Rattle.std.proofs.Common.{ℕ, List, ◌∷◌, [], sym, ap, subst, Some}
use Rattle.std.specs.Prelude.{IfOk}
use Rattle.hk_base.specs.Fit.{IsFit}
use Rattle.st03_grammar.specs.declared.bodies.Report03.TheVariants as hk
use Rattle.pus_messages.specs.declared.message.ReportBody.{ReportBody}
use Rattle.pus_messages.specs.declared.message.ReportBody.TheVariants.{Hk}
use Rattle.board_steps.specs.Cores.{Core}
use Rattle.board_steps.specs.Plans.{values_of}
use Rattle.board_core.specs.Boards.{core_of}
use Rattle.board_core.specs.Effects.{IsExecuting, IsOrderedBody, effect_topics}
use Rattle.board_core.specs.Execution.{IsExecutedBy, IsToldAfter}
use Rattle.board_core.specs.declared.effect.Effect.{Effect}
use Rattle.board_core.proofs.ToldLemmas.{structure-after, properties-after, values-after}
use Rattle.board_core.proofs.board.BoardCore.ordered_report.Goals as goal

pub returns-in_ok-copy-in-ShowStructure : goal.returns-in_ok-copy-in-ShowStructure
returns-in_ok-copy-in-ShowStructure c = λ w m h by.
    let b = c.self.inside in
    let core : Core = core_of b.clock b.slot_now b.requests b.structures b.log in
    let key = c.in-ShowStructure.key in
    let after = c.in-ShowStructure.structure in
    let copy = c.in_ok-copy-in-ShowStructure.copy in
    let body : ReportBody = Hk (hk.Structure key copy) in
    let is = c.in-ShowStructure.is in
    let executing = subst (λ (e : Effect). IsExecuting core w e) is (subst (λ (x : Core). IsExecuting x w c.args.effect.now) (sym c.self.view_is) h) in
    let executed = subst (λ (e : Effect). IsExecutedBy core w e m) is (subst (λ (x : Core). IsExecutedBy x w c.args.effect.now m) (sym c.self.view_is) by) in
    let told = structure-after core w key after executing m c.args.tag body (subst IsFit c.tailoring.ensures c.widths-fit.ensures.fit) executed (ap (λ x. Hk (hk.Structure key x)) c.in_ok-copy-in-ShowStructure.ensures) in
    subst (λ (x : Core). IsToldAfter x m c.args.tag (effect_topics c.args.effect.now) (Some body)) c.self.view_is
    (subst (λ (e : Effect). IsToldAfter core m c.args.tag (effect_topics e) (Some body)) (sym is) told)

pub returns-in_ok-properties_report-in-ShowProperties : goal.returns-in_ok-properties_report-in-ShowProperties
returns-in_ok-properties_report-in-ShowProperties c = λ w m h by.
    let b = c.self.inside in
    let core : Core = core_of b.clock b.slot_now b.requests b.structures b.log in
    let key = c.in-ShowProperties.key in
    let after = c.in-ShowProperties.structure in
    let body : ReportBody = c.in_ok-properties_report-in-ShowProperties.field-0 in
    let is = c.in-ShowProperties.is in
    let executing = subst (λ (e : Effect). IsExecuting core w e) is (subst (λ (x : Core). IsExecuting x w c.args.effect.now) (sym c.self.view_is) h) in
    let executed = subst (λ (e : Effect). IsExecutedBy core w e m) is (subst (λ (x : Core). IsExecutedBy x w c.args.effect.now m) (sym c.self.view_is) by) in
    let told = properties-after core w key after executing m c.args.tag body (subst IsFit c.tailoring.ensures c.widths-fit.ensures.fit) executed c.in_ok-properties_report-in-ShowProperties.ensures in
    subst (λ (x : Core). IsToldAfter x m c.args.tag (effect_topics c.args.effect.now) (Some body)) c.self.view_is
    (subst (λ (e : Effect). IsToldAfter core m c.args.tag (effect_topics e) (Some body)) (sym is) told)

pub returns-in-ChangeStatistics : goal.returns-in-ChangeStatistics
returns-in-ChangeStatistics c = λ w m h by.
    let core : Core = c.args.self.now in
    let is = c.in-ChangeStatistics.is in
    let executing = subst (λ (e : Effect). IsExecuting core w e) is h in
    let executed = subst (λ (e : Effect). IsExecutedBy core w e m) is by in
    subst (λ (e : Effect). IfOk c.ordered_statistics.result (IsToldAfter core m c.args.tag (effect_topics e))) (sym is) (c.ordered_statistics.ensures w m executing executed)

pub returns-in_ok-values_report-in-ReportValues : goal.returns-in_ok-values_report-in-ReportValues
returns-in_ok-values_report-in-ReportValues c = λ w m h by.
    let core : Core = c.args.self.now in
    let ids = c.in-ReportValues.ids in
    let body : ReportBody = c.in_ok-values_report-in-ReportValues.field-0 in
    let is = c.in-ReportValues.is in
    let executing = subst (λ (e : Effect). IsExecuting core w e) is h in
    let executed = subst (λ (e : Effect). IsExecutedBy core w e m) is by in
    let ordered = subst (λ (xs : List ℕ). IsOrderedBody core 0 (values_of xs ∷ []) (Some body)) c.as_slice.ensures c.in_ok-values_report-in-ReportValues.ensures in
    subst (λ (e : Effect). IsToldAfter core m c.args.tag (effect_topics e) (Some body)) (sym is) (values-after core w ids executing m c.args.tag body executed ordered)
