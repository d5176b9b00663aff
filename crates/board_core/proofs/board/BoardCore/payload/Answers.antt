use Rattle.std.proofs.Common.{◌≡◌, true, Some, None, Ok, IfOk, sym, ◌∙◌, ap, subst}
use Rattle.std.specs.Prelude.{filter_map}
use Rattle.std.specs.Option.{option_copied}
use Rattle.hk_base.specs.Definitions.{IsWellFormed}
use Rattle.hk_base.specs.Fit.{IsFit}
use Rattle.hk_base.specs.Payload.{places, AllFit, IsPayload, payload_read}
use Rattle.hk_base.specs.TailoringParts.{TailoringParts}
use Rattle.hk_base.specs.declared.types.Structure.{Structure}
use Rattle.board_steps.specs.Cores.{Core}
use Rattle.board_steps.specs.Plans.{is_reported}
use Rattle.board_state.specs.Holdings.{held_structure}
use Rattle.board_core.specs.Boards.{core_of}
use Rattle.board_core.specs.Closing.{held_sample, IsEndPayload}
use Rattle.board_core.proofs.EndKeyLemmas.{has-places, is-there, is-formed, reported-there, reported-interval, reported-fit, end-payload, both-ok}
use Rattle.board_core.proofs.board.BoardCore.payload.Goals as goal

pub unreachable-requires : goal.unreachable-requires
unreachable-requires c =
    let b = c.self.inside in
    let before : Core = core_of b.clock b.slot_now b.requests b.structures b.log in
    let reported = subst (λ (y : Core). is_reported y c.args.key ≡ true) (sym c.self.view_is) c.requires in
    let none : held_structure b.structures c.args.key ≡ None = sym c.structure.ensures ∙ ap option_copied c.in_default.is in
    reported-there before c.args.key reported (sym (c.self.invariant.structures.same c.args.key) ∙ none)

pub payload_of-requires-clause-sampled : goal.payload_of-requires-clause-sampled
payload_of-requires-clause-sampled c =
    let b = c.self.inside in
    let before : Core = core_of b.clock b.slot_now b.requests b.structures b.log in
    let fit = subst IsFit c.tailoring-tailoring.ensures c.widths-fit.ensures.fit in
    let only = c.requests_are_spelled.ensures.only b.log.tailoring in
    let there : held_structure b.structures c.args.key ≡ Some c.in-Some.structure.now = sym c.structure.ensures ∙ ap option_copied c.in-Some.is in
    has-places before b.requests.waiting b.structures b.channels b.members fit only c.self.invariant c.args.key c.in-Some.structure.now there

pub payload_of-requires-clause-whole : goal.payload_of-requires-clause-whole
payload_of-requires-clause-whole c =
    let b = c.self.inside in
    let before : Core = core_of b.clock b.slot_now b.requests b.structures b.log in
    let fit = subst IsFit c.tailoring-tailoring.ensures c.widths-fit.ensures.fit in
    let only = c.requests_are_spelled.ensures.only b.log.tailoring in
    let there : held_structure b.structures c.args.key ≡ Some c.in-Some.structure.now = sym c.structure.ensures ∙ ap option_copied c.in-Some.is in
    let reported = subst (λ (y : Core). is_reported y c.args.key ≡ true) (sym c.self.view_is) c.requires in
    reported-interval before c.args.key c.in-Some.structure.now reported
    (is-there before b.requests.waiting b.structures b.channels b.members fit only c.self.invariant c.args.key c.in-Some.structure.now there)

pub payload_of-requires-clause-formed : goal.payload_of-requires-clause-formed
payload_of-requires-clause-formed c =
    let b = c.self.inside in
    let before : Core = core_of b.clock b.slot_now b.requests b.structures b.log in
    let fit = subst IsFit c.tailoring-tailoring.ensures c.widths-fit.ensures.fit in
    let only = c.requests_are_spelled.ensures.only b.log.tailoring in
    let there : held_structure b.structures c.args.key ≡ Some c.in-Some.structure.now = sym c.structure.ensures ∙ ap option_copied c.in-Some.is in
    subst (λ (t : TailoringParts). IsWellFormed t c.in-Some.structure.now.def) (sym c.tailoring-tailoring.ensures)
    (is-formed before b.requests.waiting b.structures b.channels b.members fit only c.self.invariant c.args.key c.in-Some.structure.now there)

pub payload_of-requires-clause-fit : goal.payload_of-requires-clause-fit
payload_of-requires-clause-fit c =
    let b = c.self.inside in
    let before : Core = core_of b.clock b.slot_now b.requests b.structures b.log in
    let fit = subst IsFit c.tailoring-tailoring.ensures c.widths-fit.ensures.fit in
    let only = c.requests_are_spelled.ensures.only b.log.tailoring in
    let x : Structure = c.in-Some.structure.now in
    let there : held_structure b.structures c.args.key ≡ Some x = sym c.structure.ensures ∙ ap option_copied c.in-Some.is in
    let reported = subst (λ (y : Core). is_reported y c.args.key ≡ true) (sym c.self.view_is) c.requires in
    subst (λ (t : TailoringParts). AllFit t (places x.def x.def.interval) (filter_map (held_sample b.channels b.slot_now) (places x.def b.slot_now))) (sym c.tailoring-tailoring.ensures)
    (reported-fit before b.requests.waiting b.structures b.channels b.members fit only c.self.invariant c.args.key x there reported)

pub returns : goal.returns
returns c =
    let b = c.self.inside in
    let before : Core = core_of b.clock b.slot_now b.requests b.structures b.log in
    let fit = subst IsFit c.tailoring-tailoring.ensures c.widths-fit.ensures.fit in
    let only = c.requests_are_spelled.ensures.only b.log.tailoring in
    let x : Structure = c.in-Some.structure.now in
    let there : held_structure b.structures c.args.key ≡ Some x = sym c.structure.ensures ∙ ap option_copied c.in-Some.is in
    let reported = subst (λ (y : Core). is_reported y c.args.key ≡ true) (sym c.self.view_is) c.requires in
    let is = subst (λ (t : TailoringParts). IfOk c.payload_of.result (IsPayload t x.def (filter_map (held_sample b.channels b.slot_now) (places x.def b.slot_now)))) c.tailoring-tailoring.ensures c.payload_of.ensures.is in
    let again = subst (λ (t : TailoringParts). IfOk c.payload_of.result (λ octets. payload_read t x.def octets ≡ Ok (filter_map (held_sample b.channels b.slot_now) (places x.def b.slot_now)))) c.tailoring-tailoring.ensures c.payload_of.ensures.again in
    subst (λ (y : Core). IfOk c.payload_of.result (IsEndPayload y c.args.key)) c.self.view_is
    (both-ok (IsPayload b.log.tailoring x.def (filter_map (held_sample b.channels b.slot_now) (places x.def b.slot_now)))
    (λ octets. payload_read b.log.tailoring x.def octets ≡ Ok (filter_map (held_sample b.channels b.slot_now) (places x.def b.slot_now)))
    (IsEndPayload before c.args.key)
    (λ octets p q. end-payload before b.requests.waiting b.structures b.channels b.members fit only c.self.invariant c.args.key x there reported octets p q) c.payload_of.result is again)
