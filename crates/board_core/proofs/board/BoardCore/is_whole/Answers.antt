use Rattle.std.proofs.Common.{◌≡◌, ◌+◌, ◌≤◌, false, Some, None, Option, sym, ◌∙◌, ap, subst}
use Rattle.std.specs.Prelude.{IfSome}
use Rattle.std.specs.Option.{option_copied, option_map_or}
use Rattle.hk_base.specs.Fit.{IsFit}
use Rattle.hk_base.specs.declared.types.Structure.{Structure}
use Rattle.board_steps.specs.Cores.{Core, state_of}
use Rattle.board_steps.specs.Slots.{is_complete}
use Rattle.board_state.specs.Holdings.{held_structure}
use Rattle.board_core.specs.Boards.{core_of}
use Rattle.board_core.specs.Closing.{is_whole}
use Rattle.board_core.proofs.EndKeyLemmas.{has-places, whole-held, is-there}
use Rattle.board_core.proofs.board.BoardCore.is_whole.Goals as goal

pub has_samples-requires-clause-sampled : goal.has_samples-requires-clause-sampled
has_samples-requires-clause-sampled c =
    let b = c.self.inside in
    let before : Core = core_of b.clock b.slot_now b.requests b.structures b.log in
    let fit = subst IsFit c.tailoring.ensures c.widths-fit.ensures.fit in
    let only = c.requests_are_spelled.ensures.only b.log.tailoring in
    let there : held_structure b.structures c.args.key ≡ Some c.in-Some.structure.now = sym c.structure.ensures ∙ ap option_copied c.in-Some.is in
    has-places before b.requests.waiting b.structures b.channels b.members fit only c.self.invariant c.args.key c.in-Some.structure.now there

pub has_samples-requires-clause-whole : goal.has_samples-requires-clause-whole
has_samples-requires-clause-whole c =
    let b = c.self.inside in
    let before : Core = core_of b.clock b.slot_now b.requests b.structures b.log in
    let fit = subst IsFit c.tailoring.ensures c.widths-fit.ensures.fit in
    let only = c.requests_are_spelled.ensures.only b.log.tailoring in
    let there : held_structure b.structures c.args.key ≡ Some c.in-Some.structure.now = sym c.structure.ensures ∙ ap option_copied c.in-Some.is in
    let is = is-there before b.requests.waiting b.structures b.channels b.members fit only c.self.invariant c.args.key c.in-Some.structure.now there in
    let some = subst (λ (y : Core). IfSome ((state_of y).structure c.args.key) (λ x. x.def.interval ≤ y.slot_now + 1)) (sym c.self.view_is) c.requires in
    subst (λ (o : Option Structure). IfSome o (λ x. x.def.interval ≤ b.slot_now + 1)) is some

pub returns-in-Some : goal.returns-in-Some
returns-in-Some c =
    let b = c.self.inside in
    let before : Core = core_of b.clock b.slot_now b.requests b.structures b.log in
    let fit = subst IsFit c.tailoring.ensures c.widths-fit.ensures.fit in
    let only = c.requests_are_spelled.ensures.only b.log.tailoring in
    let there : held_structure b.structures c.args.key ≡ Some c.in-Some.structure.now = sym c.structure.ensures ∙ ap option_copied c.in-Some.is in
    let is = is-there before b.requests.waiting b.structures b.channels b.members fit only c.self.invariant c.args.key c.in-Some.structure.now there in
    let some = subst (λ (y : Core). IfSome ((state_of y).structure c.args.key) (λ x. x.def.interval ≤ y.slot_now + 1)) (sym c.self.view_is) c.requires in
    let le = subst (λ (o : Option Structure). IfSome o (λ x. x.def.interval ≤ b.slot_now + 1)) is some in
    subst (λ (y : Core). c.has_samples.result ≡ is_whole y c.args.key) c.self.view_is
    (c.has_samples.ensures ∙ whole-held before b.requests.waiting b.structures b.channels b.members fit only c.self.invariant c.args.key c.in-Some.structure.now there le)

pub returns-in-None : goal.returns-in-None
returns-in-None c =
    let b = c.self.inside in
    let before : Core = core_of b.clock b.slot_now b.requests b.structures b.log in
    let none : held_structure b.structures c.args.key ≡ None = sym c.structure.ensures ∙ ap option_copied c.in-None.is in
    subst (λ (y : Core). false ≡ is_whole y c.args.key) c.self.view_is
    (sym (ap (λ (o : Option Structure). option_map_or (λ x. is_complete before x.def) o false) (sym (c.self.invariant.structures.same c.args.key) ∙ none)))
