use Rattle.std.proofs.Common.{arith, ◌≡◌, ◌+◌, ◌-◌, take, ◌≤◌, ◌++◌, ◌∷◌, [], length, length-append, sym, ◌∙◌, ap, subst, Some, None, Ok, if◌then◌else◌}
use Rattle.hk_base.specs.Fit.{IsFit}
use Rattle.pus_messages.specs.declared.message.Request.{Request}
use Rattle.st01_reports.specs.declared.verification.Verification.TheVariants as verify
use Rattle.pus_messages.specs.Messages.{protocol}
use Rattle.pus_messages.specs.declared.message.ReportBody.TheVariants.{Verify}
use Rattle.hk_world.specs.Honest.{id_of_packet}
use Rattle.hk_world.specs.declared.moment.Act.TheVariants.{Accepted}
use Rattle.board_steps.specs.Cores.{Core}
use Rattle.board_core.specs.Boards.{core_of, IsWhole}
use Rattle.board_core.specs.Logs.{LogParts}
use Rattle.board_steps.specs.Plans.{handled_as, with_request}
use Rattle.board_steps.specs.Steps.{Answers}
use Rattle.board_state.specs.Waiting.{RequestsHeld, asks}
use Rattle.board_steps.specs.declared.event.Event.TheVariants.{Uplink}
use Rattle.board_state.specs.declared.running.Asked.TheVariants.{Acceptance}
use Rattle.board_steps.proofs.RunLemmas.{number-new}
use Rattle.board_core.proofs.WholeLemmas.{uplink-holds}
use Rattle.board_core.proofs.HandledLemmas.{accepted, not-now, withdrawn}
use Rattle.board_core.proofs.board.BoardCore.accept.Goals as goal

pub accept-requires-clause-next : goal.accept-requires-clause-next
accept-requires-clause-next c =
    let b = c.self.inside in
    let e = subst (λ (x : Core). handled_as x c.args.octets ≡ Some c.args.number) (sym c.self.view_is) c.requires.number in
    subst (λ n. length b.requests.packets ≤ n) (sym c.new-running.ensures.number)
    (number-new (core_of b.clock b.slot_now b.requests b.structures b.log) c.args.octets c.args.number e)

pub withdraw_accepted-requires-clause-fewer : goal.withdraw_accepted-requires-clause-fewer
withdraw_accepted-requires-clause-fewer c =
    subst (λ (x : RequestsHeld). length x.waiting ≤ c.next_number-next.result + 1) (sym c.in_ok-accept.ensures.ok)
    (let few = c.next_number-next.ensures.fewer in omega (arith, few, length-append c.self.inside.requests.waiting (c.new-running.result ∷ [])))

pub invariant_of-self-in-Ok : goal.invariant_of-self-in-Ok
invariant_of-self-in-Ok c =
    let b = c.self.inside in
    let e = subst (λ (x : Core). handled_as x c.args.octets ≡ Some c.args.number) (sym c.self.view_is) c.requires.number in
    let t = subst (λ (x : Core). (protocol x.tailoring).request c.args.octets ≡ Ok c.args.request) (sym c.self.view_is) c.requires.request in
    let w = c.new-running.result in
    let names = c.new-running.ensures.id ∙ c.packet_id.ensures ∙ ap id_of_packet c.as_slice.ensures in
    let body = c.report_if-report.ensures ∙ ap (λ (x : Request). if asks x Acceptance then Some (Verify (verify.Accepted w.id)) else None) c.new-running.ensures.request in
    let r = accepted b.clock b.slot_now b.requests b.structures b.log c.args.octets c.args.number e (subst IsFit c.tailoring.ensures c.widths-fit.ensures.fit) (c.requests_are_spelled.ensures.only b.log.tailoring) c.requires.octets
    c.self.invariant.board c.args.request t w c.new-running.ensures.number c.new-running.ensures.not_started c.new-running.ensures.not_executed c.new-running.ensures.none_refused c.new-running.ensures.request names
    c.report_if-report.result body c.add_one.new.self c.in-Ok.count c.in-Ok.ensures in
    let held : c.accept.new.self ≡ record { packets = with_request b.requests.packets c.args.number c.args.octets; waiting = b.requests.waiting ++ w ∷ [] } =
    c.in_ok-accept.ensures.ok ∙ ap (λ n. record { packets = with_request b.requests.packets n c.args.octets; waiting = b.requests.waiting ++ w ∷ [] }) c.new-running.ensures.number in
    subst (λ (x : RequestsHeld). IsWhole (core_of b.clock b.slot_now x b.structures c.add_one.new.self) x.waiting b.structures b.channels b.members) (sym held)
    (uplink-holds (core_of b.clock b.slot_now b.requests b.structures b.log) (core_of b.clock b.slot_now (record { packets = with_request b.requests.packets c.args.number c.args.octets; waiting = b.requests.waiting ++ w ∷ [] }) b.structures c.add_one.new.self)
    c.args.octets c.args.number b.requests.waiting (b.requests.waiting ++ w ∷ []) b.structures b.channels b.members e r.0.3 r.1 c.self.invariant)

pub invariant_of-self-in-Err : goal.invariant_of-self-in-Err
invariant_of-self-in-Err c =
    let b = c.self.inside in
    let e = subst (λ (x : Core). handled_as x c.args.octets ≡ Some c.args.number) (sym c.self.view_is) c.requires.number in
    let same = (not-now b.clock b.slot_now b.requests b.structures b.log c.args.octets c.args.number e (subst IsFit c.tailoring.ensures c.widths-fit.ensures.fit) (c.requests_are_spelled.ensures.only b.log.tailoring) c.requires.octets
    c.self.invariant.board (Accepted c.args.number) c.report_if-report.result c.in-Err.fault c.add_one.new.self c.in-Err.ensures).1 in
    let w = c.new-running.result in
    let back : c.withdraw_accepted.new.self ≡ b.requests =
    c.withdraw_accepted.ensures
    ∙ ap (λ (x : RequestsHeld). record { packets = take c.next_number-next.result x.packets; waiting = take (length x.waiting - 1) x.waiting }) c.in_ok-accept.ensures.ok
    ∙ withdrawn b.requests w.number c.args.octets w c.next_number-next.result c.next_number-next.ensures.next in
    subst (λ (x : RequestsHeld). IsWhole (core_of b.clock b.slot_now x b.structures c.add_one.new.self) x.waiting b.structures b.channels b.members) (sym back)
    (subst (λ (l : LogParts). IsWhole (core_of b.clock b.slot_now b.requests b.structures l) b.requests.waiting b.structures b.channels b.members) (sym same) c.self.invariant)

pub returns-in-Ok : goal.returns-in-Ok
returns-in-Ok c =
    let b = c.self.inside in
    let e = subst (λ (x : Core). handled_as x c.args.octets ≡ Some c.args.number) (sym c.self.view_is) c.requires.number in
    let t = subst (λ (x : Core). (protocol x.tailoring).request c.args.octets ≡ Ok c.args.request) (sym c.self.view_is) c.requires.request in
    let w = c.new-running.result in
    let names = c.new-running.ensures.id ∙ c.packet_id.ensures ∙ ap id_of_packet c.as_slice.ensures in
    let body = c.report_if-report.ensures ∙ ap (λ (x : Request). if asks x Acceptance then Some (Verify (verify.Accepted w.id)) else None) c.new-running.ensures.request in
    let r = accepted b.clock b.slot_now b.requests b.structures b.log c.args.octets c.args.number e (subst IsFit c.tailoring.ensures c.widths-fit.ensures.fit) (c.requests_are_spelled.ensures.only b.log.tailoring) c.requires.octets
    c.self.invariant.board c.args.request t w c.new-running.ensures.number c.new-running.ensures.not_started c.new-running.ensures.not_executed c.new-running.ensures.none_refused c.new-running.ensures.request names
    c.report_if-report.result body c.add_one.new.self c.in-Ok.count c.in-Ok.ensures in
    let held : c.accept.new.self ≡ record { packets = with_request b.requests.packets c.args.number c.args.octets; waiting = b.requests.waiting ++ w ∷ [] } =
    c.in_ok-accept.ensures.ok ∙ ap (λ n. record { packets = with_request b.requests.packets n c.args.octets; waiting = b.requests.waiting ++ w ∷ [] }) c.new-running.ensures.number in
    subst (λ (x : Core). Answers x (Uplink c.args.octets) (core_of b.clock b.slot_now c.accept.new.self b.structures c.add_one.new.self) (Ok c.in-Ok.count)) c.self.view_is
    (subst (λ (x : RequestsHeld). Answers (core_of b.clock b.slot_now b.requests b.structures b.log) (Uplink c.args.octets) (core_of b.clock b.slot_now x b.structures c.add_one.new.self) (Ok c.in-Ok.count)) (sym held) r.0)
