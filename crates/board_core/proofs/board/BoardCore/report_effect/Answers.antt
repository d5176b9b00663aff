use Rattle.std.proofs.Common.{◌≡◌, ℕ, List, Some, None, refl, sym, ap, subst, ◌∙◌}
use Rattle.std.specs.Prelude.{find, is_none, option_map}
use Rattle.pus_messages.specs.Instructions.{report_values}
use Rattle.report_structures.specs.declared.refusal.Refusal.TheVariants.{NoValue}
use Rattle.st20_grammar.specs.Spelling.{AreIds}
use Rattle.board_steps.specs.Cores.{Core, state_of}
use Rattle.board_core.specs.Boards.{core_of}
use Rattle.board_core.specs.Effects.{IsEffectOf}
use Rattle.board_core.specs.declared.effect.Effect.TheVariants.{Refused, ReportValues}
use Rattle.board_core.proofs.ValueReportLemmas.{without-value, values-refusal}
use Rattle.board_core.proofs.board.BoardCore.report_effect.Goals as goal

pub returns-in-Some : goal.returns-in-Some
returns-in-Some c =
    let b = c.self.inside in
    let before : Core = core_of b.clock b.slot_now b.requests b.structures b.log in
    let ids = c.args.ids.now in
    let found : find (λ id. is_none ((state_of before).value id)) ids ≡ Some c.in-Some.id =
    sym (without-value before b.channels c.self.invariant.board.stands c.self.invariant.values ids) ∙ sym c.without_value.ensures ∙ c.in-Some.is in
    subst (λ (y : Core). IsEffectOf y (report_values ids) (Refused (NoValue c.in-Some.id))) c.self.view_is
    (values-refusal before.tailoring (state_of before) ids ∙ ap (option_map NoValue) found, tt)

pub returns-in_ok-from_slice-in-None : goal.returns-in_ok-from_slice-in-None
returns-in_ok-from_slice-in-None c =
    let b = c.self.inside in
    let before : Core = core_of b.clock b.slot_now b.requests b.structures b.log in
    let ids = c.args.ids.now in
    let found : find (λ id. is_none ((state_of before).value id)) ids ≡ None =
    sym (without-value before b.channels c.self.invariant.board.stands c.self.invariant.values ids) ∙ sym c.without_value.ensures ∙ c.in-None.is in
    let own = subst (λ (y : Core). AreIds y.tailoring ids) (sym c.self.view_is) c.requires in
    subst (λ (y : Core). IsEffectOf y (report_values ids) (ReportValues c.in_ok-from_slice-in-None.field-0)) c.self.view_is
    (subst (λ (xs : List ℕ). IsEffectOf before (report_values ids) (ReportValues xs)) (sym c.in_ok-from_slice-in-None.ensures)
    (refl, values-refusal before.tailoring (state_of before) ids ∙ ap (option_map NoValue) found, own))
