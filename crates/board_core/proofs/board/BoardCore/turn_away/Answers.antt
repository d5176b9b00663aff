use Rattle.std.proofs.Common.{◌≡◌, ◌≤◌, length, take, sym, ◌∙◌, ap, subst, Some, Ok, Err}
use Rattle.hk_base.specs.Fit.{IsFit}
use Rattle.st01_reports.specs.declared.verification.Verification.TheVariants as verify
use Rattle.pus_messages.specs.Messages.{protocol}
use Rattle.pus_messages.specs.declared.message.ReportBody.TheVariants.{Verify}
use Rattle.hk_world.specs.Honest.{id_of_packet}
use Rattle.hk_world.specs.declared.moment.Act.TheVariants.{TurnedAway}
use Rattle.board_steps.specs.Cores.{Core}
use Rattle.board_core.specs.Boards.{core_of, IsWhole}
use Rattle.board_core.specs.Logs.{LogParts, AnswersOne}
use Rattle.board_steps.specs.Plans.{handled_as, with_request}
use Rattle.board_steps.specs.Steps.{Answers}
use Rattle.board_state.specs.Waiting.{RequestsHeld}
use Rattle.board_steps.specs.declared.event.Event.TheVariants.{Uplink}
use Rattle.board_steps.proofs.RunLemmas.{number-new}
use Rattle.board_core.proofs.WholeLemmas.{uplink-holds}
use Rattle.board_core.proofs.HandledLemmas.{turned-away, not-now, withdrawn-packet}
use Rattle.board_core.proofs.board.BoardCore.turn_away.Goals as goal

pub keep-requires-clause-next : goal.keep-requires-clause-next
keep-requires-clause-next c =
    let b = c.self.inside in
    let e = subst (λ (x : Core). handled_as x c.args.octets ≡ Some c.args.number) (sym c.self.view_is) c.requires.number in
    number-new (core_of b.clock b.slot_now b.requests b.structures b.log) c.args.octets c.args.number e

pub withdraw-requires : goal.withdraw-requires
withdraw-requires c =
    subst (λ (x : RequestsHeld). length x.waiting ≤ c.next_number-next.result) (sym c.in_ok-keep.ensures.ok) c.next_number-next.ensures.fewer

pub invariant_of-self-in-Ok : goal.invariant_of-self-in-Ok
invariant_of-self-in-Ok c =
    let b = c.self.inside in
    let e = subst (λ (x : Core). handled_as x c.args.octets ≡ Some c.args.number) (sym c.self.view_is) c.requires.number in
    let t = subst (λ (x : Core). (protocol x.tailoring).request c.args.octets ≡ Err c.args.cause) (sym c.self.view_is) c.requires.cause in
    let h = subst (λ i. AnswersOne b.log b.clock (TurnedAway c.args.number) (Some (Verify (verify.Refused i c.args.cause))) c.add_one.new.self (Ok c.in-Ok.count)) (c.packet_id.ensures ∙ ap id_of_packet c.as_slice.ensures) c.in-Ok.ensures in
    let r = turned-away b.clock b.slot_now b.requests b.structures b.log c.args.octets c.args.number e (subst IsFit c.tailoring.ensures c.widths-fit.ensures.fit) (c.requests_are_spelled.ensures.only b.log.tailoring) c.requires.octets c.self.invariant.board
    c.args.cause t c.add_one.new.self c.in-Ok.count h in
    subst (λ (x : RequestsHeld). IsWhole (core_of b.clock b.slot_now x b.structures c.add_one.new.self) x.waiting b.structures b.channels b.members) (sym c.in_ok-keep.ensures.ok)
    (uplink-holds (core_of b.clock b.slot_now b.requests b.structures b.log) (core_of b.clock b.slot_now (record { packets = with_request b.requests.packets c.args.number c.args.octets; waiting = b.requests.waiting }) b.structures c.add_one.new.self)
    c.args.octets c.args.number b.requests.waiting b.requests.waiting b.structures b.channels b.members e r.0.3 r.1 c.self.invariant)

pub returns-in-Ok : goal.returns-in-Ok
returns-in-Ok c =
    let b = c.self.inside in
    let e = subst (λ (x : Core). handled_as x c.args.octets ≡ Some c.args.number) (sym c.self.view_is) c.requires.number in
    let t = subst (λ (x : Core). (protocol x.tailoring).request c.args.octets ≡ Err c.args.cause) (sym c.self.view_is) c.requires.cause in
    let h = subst (λ i. AnswersOne b.log b.clock (TurnedAway c.args.number) (Some (Verify (verify.Refused i c.args.cause))) c.add_one.new.self (Ok c.in-Ok.count)) (c.packet_id.ensures ∙ ap id_of_packet c.as_slice.ensures) c.in-Ok.ensures in
    let r = turned-away b.clock b.slot_now b.requests b.structures b.log c.args.octets c.args.number e (subst IsFit c.tailoring.ensures c.widths-fit.ensures.fit) (c.requests_are_spelled.ensures.only b.log.tailoring) c.requires.octets c.self.invariant.board
    c.args.cause t c.add_one.new.self c.in-Ok.count h in
    subst (λ (x : Core). Answers x (Uplink c.args.octets) (core_of b.clock b.slot_now c.keep.new.self b.structures c.add_one.new.self) (Ok c.in-Ok.count)) c.self.view_is
    (subst (λ (x : RequestsHeld). Answers (core_of b.clock b.slot_now b.requests b.structures b.log) (Uplink c.args.octets) (core_of b.clock b.slot_now x b.structures c.add_one.new.self) (Ok c.in-Ok.count)) (sym c.in_ok-keep.ensures.ok) r.0)

pub invariant_of-self-in-Err : goal.invariant_of-self-in-Err
invariant_of-self-in-Err c =
    let b = c.self.inside in
    let e = subst (λ (x : Core). handled_as x c.args.octets ≡ Some c.args.number) (sym c.self.view_is) c.requires.number in
    let body = Some (Verify (verify.Refused c.packet_id.result c.args.cause)) in
    let same = (not-now b.clock b.slot_now b.requests b.structures b.log c.args.octets c.args.number e (subst IsFit c.tailoring.ensures c.widths-fit.ensures.fit) (c.requests_are_spelled.ensures.only b.log.tailoring) c.requires.octets
    c.self.invariant.board (TurnedAway c.args.number) body c.in-Err.fault c.add_one.new.self c.in-Err.ensures).1 in
    let back : c.withdraw.new.self ≡ b.requests =
    c.withdraw.ensures
    ∙ ap (λ (x : RequestsHeld). record { packets = take c.next_number-next.result x.packets; waiting = x.waiting }) c.in_ok-keep.ensures.ok
    ∙ withdrawn-packet b.requests c.args.number c.args.octets c.next_number-next.result c.next_number-next.ensures.next in
    subst (λ (x : RequestsHeld). IsWhole (core_of b.clock b.slot_now x b.structures c.add_one.new.self) x.waiting b.structures b.channels b.members) (sym back)
    (subst (λ (l : LogParts). IsWhole (core_of b.clock b.slot_now b.requests b.structures l) b.requests.waiting b.structures b.channels b.members) (sym same) c.self.invariant)
