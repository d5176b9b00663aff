use Rattle.std.proofs.Common.{◌≡◌, ◌∷◌, [], Some, None, sym, subst, ◌∙◌}
use Rattle.hk_base.specs.Fit.{IsFit}
use Rattle.st20_grammar.specs.Spelling.{AreIds}
use Rattle.pus_messages.specs.Instructions.{report_values}
use Rattle.pus_messages.specs.declared.message.ReportBody.TheVariants.{Par}
use Rattle.hk_world.specs.States.{refusal}
use Rattle.board_steps.specs.Cores.{Core, state_of}
use Rattle.board_steps.specs.Plans.{values_of}
use Rattle.board_core.specs.Boards.{core_of}
use Rattle.board_core.specs.Effects.{IsOrderedBody}
use Rattle.board_core.specs.Reporting.{pairs_held}
use Rattle.board_core.proofs.ValueReportLemmas.{values-told}
use Rattle.board_core.proofs.board.BoardCore.values_report.Goals as goal

pub returns : goal.returns
returns c =
    let b = c.self.inside in
    let before : Core = core_of b.clock b.slot_now b.requests b.structures b.log in
    let ids = c.args.ids.now in
    let own = subst (λ (y : Core). AreIds y.tailoring ids) (sym c.self.view_is) c.requires.ids in
    let none = subst (λ (y : Core). refusal y.tailoring (state_of y) (report_values ids) ≡ None) (sym c.self.view_is) c.requires.values in
    let is : c.from_vec-pairs.result ≡ pairs_held b.channels ids = c.from_vec-pairs.ensures ∙ c.in_ok-pairs_of.ensures in
    subst (λ (y : Core). IsOrderedBody y 0 (values_of ids ∷ []) (Some (Par (record { pairs = c.from_vec-pairs.result })))) c.self.view_is
    (values-told before b.channels ids c.from_vec-pairs.result (subst IsFit c.tailoring.ensures c.widths-fit.ensures.fit) (c.requests_are_spelled.ensures.only b.log.tailoring)
    c.self.invariant.board.stands c.self.invariant.values own none is)
