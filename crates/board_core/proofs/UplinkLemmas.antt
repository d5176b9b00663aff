-- A packet that is handled: what is added to the journal is what the step adds, and what waits is what the moments say.
use Rattle.std.proofs.Common.{arith, ◌≡◌, ℕ, zero, suc, ◌+◌, ◌-◌, ◌≤◌, refl, sym, ◌∙◌, ap, ap₂, subst, List, [], ◌∷◌, ◌++◌, length, length-append, replicate, append_assoc, Bool, true, false, ◌&&◌, ◌||◌, Option, Some, None}
use Rattle.std.specs.Prelude.{nat_lt, slice_get, if◌then◌else◌}
use Rattle.std.proofs.lemmas.List.{length-replicate}
use Rattle.hk_base.specs.Fit.{greatest_tag}
use Rattle.hk_base.specs.TailoringParts.{TailoringParts}
use Rattle.hk_base.specs.declared.types.Key.{Key}
use Rattle.st01_reports.specs.declared.verification.Verification.{Verification}
use Rattle.pus_messages.specs.Messages.{protocol}
use Rattle.pus_messages.specs.Protocol.{readable, unread}
use Rattle.pus_messages.specs.declared.message.Report.{Report}
use Rattle.pus_messages.specs.declared.message.ReportBody.{ReportBody}
use Rattle.pus_messages.specs.declared.message.ReportBody.TheVariants.{Verify}
use Rattle.pus_messages.proofs.Lawful.{nothing}
use Rattle.hk_world.specs.Timelines.{Session}
use Rattle.hk_world.specs.Honest.{Carries, VerifiesIf, IsReport}
use Rattle.hk_world.specs.declared.moment.Moment.{Moment}
use Rattle.hk_world.specs.declared.moment.Act.{Act}
use Rattle.board_steps.specs.Cores.{Core, session, next_tag, header_of, HasNextHeader}
use Rattle.board_core.specs.Logs.{LogParts, IsPacket, IsAdded, with_moments}
use Rattle.board_core.specs.Logs as logs
use Rattle.board_steps.specs.Plans.{Plan, does, handled_as, with_request, prepared, handling, planned}
use Rattle.board_steps.specs.Steps.{IsNext, AreNext, IsStep, Answers, is_closing}
use Rattle.board_steps.specs.Steps as steps
use Rattle.board_core.specs.Boards.{core_of}
use Rattle.board_state.specs.Waiting.{RequestsHeld}
use Rattle.board_state.specs.declared.running.Running.{Running}
use Rattle.board_state.specs.declared.structures.Held.{Held}
use Rattle.board_steps.specs.declared.event.Event.TheVariants.{Uplink}
use Rattle.board_steps.proofs.RunLemmas.{with_packet, packet_plans}

-- a report that is due or not is the packet of its moment
pub verifies : (s : Session) (earlier : List Moment) (m : Moment) (due : Bool) (v : Verification) → IsPacket s.protocol earlier m.tag (if due then Some (Verify v) else None) m.packet
    → VerifiesIf due s m v
verifies s earlier m true v h = (header_of s.protocol earlier m.tag (Verify v), h, refl)
verifies s earlier m false v h = h

-- a report is the packet of its moment
pub verified : (s : Session) (earlier : List Moment) (m : Moment) (body : ReportBody) → IsPacket s.protocol earlier m.tag (Some body) m.packet → IsReport s m body
verified s earlier m body h = (header_of s.protocol earlier m.tag body, h, refl)

same-report : (r q : Report) → readable r ≡ readable q → r ≡ q
same-report r q e = cc

unread-readable : (r : Report) → unread ≡ readable r → ⊥
unread-readable r e = cc

-- the header of a packet is the next one
pub next-header : (t : TailoringParts) (earlier : List Moment) (m : Moment) (body : Option ReportBody) → IsPacket (protocol t) earlier m.tag body m.packet → HasNextHeader (protocol t) earlier m
next-header t earlier m None h r e = absurd (unread-readable r (sym (ap (protocol t).reception h ∙ nothing t) ∙ e))
next-header t earlier m (Some body) h r e =
    let same : r ≡ record { header = header_of (protocol t) earlier m.tag body; body = body } = same-report r (record { header = header_of (protocol t) earlier m.tag body; body = body }) (sym e ∙ h) in
    ap (λ (x : Report). x.header) same ∙ ap (λ b. header_of (protocol t) earlier m.tag b) (sym (ap (λ (x : Report). x.body) same))

at-end : {X : Type 0} (zs : List X) (x : X) (k : ℕ) → length zs ≡ k → slice_get (zs ++ x ∷ []) k ≡ Some x
at-end [] x zero e = refl
at-end [] x (suc k) e = absurd (omega (arith, e))
at-end (z ∷ zs) x zero e = absurd (omega (arith, e))
at-end (z ∷ zs) x (suc k) e = at-end zs x k (omega (arith, e))

-- the packet with a number is there
pub packet-at : (requests : List (List ℕ)) (k : ℕ) (packet : List ℕ) → length requests ≤ k → slice_get (with_request requests k packet) k ≡ Some packet
packet-at requests k packet le =
    let none : List (List ℕ) = replicate (k - length requests) [] in
    ap (λ xs. slice_get xs k) (sym (append_assoc requests none (packet ∷ [])))
    ∙ at-end (requests ++ none) packet k (omega (arith, le, length-append requests none, length-replicate (k - length requests) silence))
  where
    silence : List ℕ
    silence = []

pub or-false : (b : Bool) → (b || false) ≡ b
or-false true = refl
or-false false = refl

-- the session once a packet is handled
abbrev pub handled_session : LogParts → RequestsHeld → ℕ → List ℕ → Session
handled_session l rq k packet = session (record { tailoring = l.tailoring; clock = 0; slot_now = 0; one_shots = []; requests = with_request rq.packets k packet; moments = [] })

module _ (clock slot : ℕ) (rq : RequestsHeld) (held : List (Key × Held)) (l : LogParts) (packet : List ℕ) (k : ℕ) (e : handled_as (core_of clock slot rq held l) packet ≡ Some k) where
  pub plans-are : planned (core_of clock slot rq held l) (Uplink packet) ≡ does (handling (handled_session l rq k packet) k) ∷ []
  plans-are = ap (packet_plans (core_of clock slot rq held l) packet) e

  core-is : prepared (core_of clock slot rq held l) (Uplink packet) ≡ record (core_of clock slot rq held l) { requests = with_request rq.packets k packet }
  core-is = ap (with_packet (core_of clock slot rq held l) packet) e

  pub full-is : steps.is_full (core_of clock slot rq held l) (Uplink packet) ≡ logs.is_full l 1
  full-is = ap (λ (xs : List Plan). nat_lt 1048576 (length l.moments + length xs)) plans-are

  pub late-is : steps.is_late (core_of clock slot rq held l) (Uplink packet) ≡ logs.is_late l clock 1
  late-is =
      ap₂ (λ (xs : List Plan) (c : Core). (nat_lt 0 (length xs) && nat_lt (greatest_tag l.tailoring + 1) (next_tag c.clock l.moments + length xs)) || (false && nat_lt (greatest_tag l.tailoring) c.clock)) plans-are core-is
      ∙ or-false (nat_lt 0 1 && nat_lt (greatest_tag l.tailoring + 1) (next_tag clock l.moments + 1))

  -- the step of a packet that is handled
  pub handled-step : (ws : List Running) (act : Act) (body : Option ReportBody) (m : Moment) → IsAdded l.tailoring clock l.moments act body m → act ≡ handling (handled_session l rq k packet) k
      → Carries (handled_session l rq k packet) l.moments m act
      → IsStep (core_of clock slot rq held l) (Uplink packet) (core_of clock slot (record { packets = with_request rq.packets k packet; waiting = ws }) held (with_moments l (m ∷ l.moments)))
  handled-step ws act body m added is carries =
      record {
        tailoring = refl;
        clock = ap (λ (c : Core). c.clock) (sym core-is);
        requests = ap (λ (c : Core). c.requests) (sym core-is);
        slot_now = refl;
        one_shots = λ key. refl;
        moments = subst (λ (c : Core). AreNext (session c) c.clock slot l.moments (planned (core_of clock slot rq held l) (Uplink packet)) (m ∷ l.moments)) (sym core-is)
            (subst (λ xs. AreNext (handled_session l rq k packet) clock slot l.moments xs (m ∷ l.moments)) (sym plans-are) (
              m,
              record {
                tag = added.tag;
                follows = (added.act_is ∙ is, subst (Carries (handled_session l rq k packet) l.moments m) is carries);
                header = next-header l.tailoring l.moments m body added.packet;
                octets = added.octets;
              },
              refl,
            ));
      }
