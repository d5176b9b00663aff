use Rattle.std.proofs.Common.{◌≡◌, List, ℕ, sym, subst, ap, ◌∙◌, Some, Err}
use Rattle.hk_base.specs.Fit.{IsFit}
use Rattle.hk_base.specs.TailoringParts.{TailoringParts}
use Rattle.pus_messages.specs.Messages.{request_of}
use Rattle.pus_messages.specs.declared.message.MessageFault.{MessageFault}
use Rattle.pus_messages.specs.declared.message.MessageFault.TheVariants.{Packet, Body, Memory}
use Rattle.board_steps.specs.Cores.{Core}
use Rattle.board_core.specs.Boards.{core_of}
use Rattle.board_steps.specs.Plans.{handled_as}
use Rattle.board_core.proofs.HandledLemmas.{no-packet-fault}
use Rattle.board_core.proofs.FaultLemmas.{request-fault-small}
use Rattle.board_core.proofs.board.BoardCore.handle.Goals as goal

packet-memory : (f : MessageFault) (p : _) → f ≡ Packet p → f ≡ Memory → ⊥
packet-memory f p a b = cc

body-memory : (f : MessageFault) (p : _) → f ≡ Body p → f ≡ Memory → ⊥
body-memory f p a b = cc

pub body_cause-requires : goal.body_cause-requires
body_cause-requires c =
    let b = c.self.inside in
    let f = c.in-Err-Body.ensures.gives (body-memory c.in-Err-Body.field-0 c.in-Err-Body.fault c.in-Err-Body.field-0-is) in
    let g = subst (λ (t : TailoringParts). request_of t c.as_slice.result.now ≡ Err c.in-Err-Body.field-0) c.tailoring-2.ensures f in
    let h = subst (λ (xs : List ℕ). request_of b.log.tailoring xs ≡ Err c.in-Err-Body.field-0) c.as_slice.ensures g in
    request-fault-small b.log.tailoring (subst IsFit c.tailoring.ensures c.widths-fit.ensures.fit) c.args.octets c.in-Err-Body.fault c.requires.octets (h ∙ ap Err c.in-Err-Body.field-0-is)

pub unreachable-requires : goal.unreachable-requires
unreachable-requires c =
    let b = c.self.inside in
    let e = subst (λ (x : Core). handled_as x c.args.octets ≡ Some c.args.number) (sym c.self.view_is) c.requires.number in
    let f = c.in-Err-Packet.ensures.gives (packet-memory c.in-Err-Packet.field-0 c.in-Err-Packet.field-0-0 c.in-Err-Packet.field-0-is) in
    let g = subst (λ (t : TailoringParts). request_of t c.as_slice.result.now ≡ Err c.in-Err-Packet.field-0) c.tailoring-2.ensures f in
    let h = subst (λ (xs : List ℕ). request_of b.log.tailoring xs ≡ Err c.in-Err-Packet.field-0) c.as_slice.ensures g in
    no-packet-fault (core_of b.clock b.slot_now b.requests b.structures b.log) c.args.octets c.args.number c.in-Err-Packet.field-0-0 e (h ∙ ap Err c.in-Err-Packet.field-0-is)
