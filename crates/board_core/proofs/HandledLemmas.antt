-- What is answered where a packet is handled.
use Rattle.std.proofs.Common.{arith, ◌≡◌, ℕ, zero, suc, ◌+◌, ◌-◌, ◌/◌, ◌%◌, ◌^◌, ◌<◌, ◌≤◌, refl, sym, ◌∙◌, ap, ap₂, subst, List, [], ◌∷◌, ◌++◌, length, length-append, reverse, replicate, take, true, false, ◌==◌, ◌&&◌, ◌||◌, Option, Some, None, Result, Ok, Err, inr}
use Rattle.std.specs.Prelude.{is_some, nat_lt, option_map, filter_map, unwrap_or, option_and_then, if◌then◌else◌}
use Rattle.std.specs.List.{cons_option}
use Rattle.std.specs.Option.{option_map_or}
use Rattle.std.specs.Result.{result_ok}
use Rattle.std.proofs.lemmas.Option.{none-some}
use Rattle.std.proofs.lemmas.Bool.{ne_eqb}
use Rattle.std.proofs.lemmas.Bool.Decides.{nat_tests}
use Rattle.hk_base.specs.Fit.{IsFit, greatest_tag}
use Rattle.hk_base.specs.declared.types.Key.{Key}
use Rattle.body_fields.specs.Spelling.{AreOctets}
use Rattle.st01_reports.specs.declared.verification.Cause.{Cause}
use Rattle.st01_reports.specs.declared.verification.Verification.TheVariants as verify
use Rattle.body_fields.specs.declared.fault.BodyFault.{BodyFault}
use Rattle.pus_packet.specs.Packets.{split_command}
use Rattle.pus_packet.specs.declared.header.TcHeader.{TcHeader}
use Rattle.pus_packet.specs.declared.header.PacketFault.{PacketFault}
use Rattle.pus_messages.specs.Messages.{protocol, message, request_body, request_in, request_of}
use Rattle.pus_messages.specs.declared.message.RequestBody.{RequestBody}
use Rattle.pus_messages.specs.declared.message.MessageFault.TheVariants.{Packet}
use Rattle.pus_messages.specs.declared.message.Request.{Request}
use Rattle.pus_messages.specs.declared.message.ReportBody.{ReportBody}
use Rattle.pus_messages.specs.declared.message.ReportBody.TheVariants.{Verify}
use Rattle.hk_world.specs.Timelines.{Session, request_at}
use Rattle.hk_world.specs.Legal.{refused_number, refused_numbers}
use Rattle.hk_world.specs.Honest.{Carries, VerifiesIf, IsReport, id_of_packet, request_id}
use Rattle.hk_world.specs.declared.moment.Moment.{Moment}
use Rattle.hk_world.specs.declared.moment.Act.{Act}
use Rattle.hk_world.specs.declared.moment.Act.TheVariants.{Accepted, TurnedAway, Started, NotStarted, Executed, Completed, Emitted, Filed}
use Rattle.board_steps.specs.Cores.{Core, session, next_tag}
use Rattle.board_core.specs.Logs.{LogParts, IsPacket, AnswersOne, with_moments}
use Rattle.board_steps.specs.Plans.{Plan, is_handled, handled_as, with_request, prepared, handling, planned}
use Rattle.board_steps.specs.Steps.{AreNext, Answers}
use Rattle.board_steps.specs.Steps as steps
use Rattle.board_core.specs.Boards.{core_of, IsBoard}
use Rattle.board_steps.specs.Timeline.{IsBelow, AreBelow}
use Rattle.board_state.specs.Waiting.{RequestsHeld, asks}
use Rattle.board_steps.specs.declared.event.BoardFault.{BoardFault}
use Rattle.board_steps.specs.declared.event.BoardFault.TheVariants.{JournalFull, TimeExhausted, Memory}
use Rattle.board_steps.specs.declared.event.Event.TheVariants.{Uplink}
use Rattle.board_state.specs.declared.running.Running.{Running}
use Rattle.board_state.specs.declared.running.Asked.TheVariants.{Acceptance}
use Rattle.board_state.specs.declared.structures.Held.{Held}
use Rattle.board_steps.proofs.GrammarLemmas.{RequestsOnly}
use Rattle.board_steps.proofs.RunLemmas.{with_packet, packet_plans, number-new, packet-length, step-stands}
use Rattle.board_core.proofs.UplinkLemmas.{verifies, verified, packet-at, handled_session, plans-are, full-is, late-is, handled-step}
use Rattle.board_state.proofs.WaitingLemmas.{waiting-accepted, waiting-turned}

not-refused : (n k : ℕ) (act : Act) → n ≤ k → IsBelow n act → refused_number k act ≡ None
not-refused n k (Executed j number false) le h = ap (λ b. if b then Some number else None) (ne_eqb j k (λ e. let lt : j < n = h in absurd (omega (arith, e, lt, le))))
not-refused n k (Executed j number true) le h = refl
not-refused n k (Accepted j) le h = refl
not-refused n k (TurnedAway j) le h = refl
not-refused n k (Started j) le h = refl
not-refused n k (NotStarted j) le h = refl
not-refused n k (Completed j refused) le h = refl
not-refused n k Emitted le h = refl
not-refused n k (Filed id x v) le h = refl

none-of-filter : (n k : ℕ) (moments : List Moment) → n ≤ k → AreBelow n moments → filter_map (λ m. refused_number k m.act) moments ≡ []
none-of-filter n k [] le h = refl
none-of-filter n k (m ∷ moments) le h = ap (λ o. cons_option o (filter_map (λ x. refused_number k x.act) moments)) (not-refused n k m.act le h.0) ∙ none-of-filter n k moments le h.1

module _ (clock slot : ℕ) (rq : RequestsHeld) (held : List (Key × Held)) (l : LogParts) (packet : List ℕ) (k : ℕ) (e : handled_as (core_of clock slot rq held l) packet ≡ Some k)
    (fit : IsFit l.tailoring) (only : RequestsOnly l.tailoring) (octets : AreOctets packet) (b : IsBoard (core_of clock slot rq held l) rq.waiting) where
  -- the core with the packet and one moment more
  abbrev pub after_with : List Running → Moment → Core
  after_with ws m = core_of clock slot (record { packets = with_request rq.packets k packet; waiting = ws }) held (with_moments l (m ∷ l.moments))

  next : length rq.packets ≤ k
  next = number-new (core_of clock slot rq held l) packet k e

  known : k < length (handled_session l rq k packet).requests
  known = omega (arith, packet-length (core_of clock slot rq held l) packet k next)

  -- an accepted request
  pub accepted : (r : Request) → (protocol l.tailoring).request packet ≡ Ok r → (w : Running) → w.number ≡ k → w.started ≡ false → w.executed ≡ 0 → w.refused ≡ []
      → w.request ≡ r → w.id ≡ id_of_packet packet → (body : Option ReportBody) → body ≡ (if asks r Acceptance then Some (Verify (verify.Accepted w.id)) else None)
      → (after : LogParts) (count : ℕ) → AnswersOne l clock (Accepted k) body after (Ok count)
      → Answers (core_of clock slot rq held l) (Uplink packet) (core_of clock slot (record { packets = with_request rq.packets k packet; waiting = rq.waiting ++ w ∷ [] }) held after) (Ok count)
      × IsBoard (core_of clock slot (record { packets = with_request rq.packets k packet; waiting = rq.waiting ++ w ∷ [] }) held after) (rq.waiting ++ w ∷ [])
  accepted r read w number started executed refused request id body is after count h =
      let s : Session = handled_session l rq k packet in
      let m : Moment = h.3.0 in
      let there = packet-at rq.packets k packet next in
      let at : request_at s k ≡ Some r = ap (λ o. option_and_then (λ p. result_ok (s.protocol.request p)) o) there ∙ ap result_ok read in
      let names : request_id s k ≡ id_of_packet packet = ap (λ o. id_of_packet (unwrap_or o [])) there in
      let act : Accepted k ≡ handling s k = ap (λ o. if is_some o then Accepted k else TurnedAway k) (sym at) in
      let due = ap (λ o. option_map_or (λ x. x.header.flags / 2 ^ 0 % 2 == 1) o false) at in
      let told = subst (λ x. IsPacket s.protocol l.moments m.tag x m.packet) is h.3.1.packet in
      let carries : Carries s l.moments m (Accepted k) =
      subst (λ d. VerifiesIf d s m (verify.Accepted (request_id s k))) (sym due)
      (subst (λ i. VerifiesIf (asks r Acceptance) s m (verify.Accepted i)) (id ∙ sym names) (verifies s l.moments m (asks r Acceptance) (verify.Accepted w.id) told)) in
      let step = handled-step clock slot rq held l packet k e (rq.waiting ++ w ∷ []) (Accepted k) body m h.3.1 act carries in
      let full = full-is clock slot rq held l packet k e ∙ h.0 in
      let late = late-is clock slot rq held l packet k e ∙ h.1 in
      let core : Core = after_with (rq.waiting ++ w ∷ []) m in
      let stands = step-stands (core_of clock slot rq held l) (Uplink packet) core fit only b.stands (record { comes = octets; room = full; time = late; step = step }) in
      let no_refusals : refused_numbers k l.moments ≡ [] = ap reverse (none-of-filter (length rq.packets) k l.moments next b.stands.good.below) in
      let waits = waiting-accepted (session (core_of clock slot rq held l)) (replicate (k - length rq.packets) [] ++ packet ∷ []) l.moments m k next known h.3.1.act_is rq.waiting w number started executed
      (refused ∙ sym no_refusals) refused (at ∙ ap Some (sym request)) (id ∙ sym names) b.waits in
      let P : LogParts → Type 0 = λ x.
      Answers (core_of clock slot rq held l) (Uplink packet) (core_of clock slot (record { packets = with_request rq.packets k packet; waiting = rq.waiting ++ w ∷ [] }) held x) (Ok count)
      × IsBoard (core_of clock slot (record { packets = with_request rq.packets k packet; waiting = rq.waiting ++ w ∷ [] }) held x) (rq.waiting ++ w ∷ []) in
      subst P (sym h.3.2) ((full, late, h.2 ∙ planned-one, step), record { stands = stands; waits = waits; room = let some = h.0 in grind (arith, nat_tests) })
    where
      planned-one : 1 ≡ length (planned (core_of clock slot rq held l) (Uplink packet))
      planned-one = sym (ap length (plans-are clock slot rq held l packet k e))

  -- a packet that was turned away
  pub turned-away : (c : Cause) → (protocol l.tailoring).request packet ≡ Err c → (after : LogParts) (count : ℕ)
      → AnswersOne l clock (TurnedAway k) (Some (Verify (verify.Refused (id_of_packet packet) c))) after (Ok count)
      → Answers (core_of clock slot rq held l) (Uplink packet) (core_of clock slot (record { packets = with_request rq.packets k packet; waiting = rq.waiting }) held after) (Ok count)
      × IsBoard (core_of clock slot (record { packets = with_request rq.packets k packet; waiting = rq.waiting }) held after) rq.waiting
  turned-away c read after count h =
      let s : Session = handled_session l rq k packet in
      let m : Moment = h.3.0 in
      let there = packet-at rq.packets k packet next in
      let at : request_at s k ≡ None = ap (λ o. option_and_then (λ p. result_ok (s.protocol.request p)) o) there ∙ ap result_ok read in
      let names : request_id s k ≡ id_of_packet packet = ap (λ o. id_of_packet (unwrap_or o [])) there in
      let act : TurnedAway k ≡ handling s k = ap (λ o. if is_some o then Accepted k else TurnedAway k) (sym at) in
      let carries : Carries s l.moments m (TurnedAway k) =
      (packet, c, there, read, subst (λ i. IsReport s m (Verify (verify.Refused i c))) (sym names) (verified s l.moments m (Verify (verify.Refused (id_of_packet packet) c)) h.3.1.packet)) in
      let step = handled-step clock slot rq held l packet k e rq.waiting (TurnedAway k) (Some (Verify (verify.Refused (id_of_packet packet) c))) m h.3.1 act carries in
      let full = full-is clock slot rq held l packet k e ∙ h.0 in
      let late = late-is clock slot rq held l packet k e ∙ h.1 in
      let core : Core = after_with rq.waiting m in
      let stands = step-stands (core_of clock slot rq held l) (Uplink packet) core fit only b.stands (record { comes = octets; room = full; time = late; step = step }) in
      let waits = waiting-turned (session (core_of clock slot rq held l)) (replicate (k - length rq.packets) [] ++ packet ∷ []) l.moments m k next (inr h.3.1.act_is) rq.waiting h.3.1.act_is b.waits in
      let P : LogParts → Type 0 = λ x.
      Answers (core_of clock slot rq held l) (Uplink packet) (core_of clock slot (record { packets = with_request rq.packets k packet; waiting = rq.waiting }) held x) (Ok count)
      × IsBoard (core_of clock slot (record { packets = with_request rq.packets k packet; waiting = rq.waiting }) held x) rq.waiting in
      subst P (sym h.3.2) ((full, late, h.2 ∙ planned-one, step), record { stands = stands; waits = waits; room = let some = h.0 in grind (arith, nat_tests) })
    where
      planned-one : 1 ≡ length (planned (core_of clock slot rq held l) (Uplink packet))
      planned-one = sym (ap length (plans-are clock slot rq held l packet k e))

  -- a packet that isn't handled now, since there is no room or no time
  pub not-now : (act : Act) (body : Option ReportBody) (fault : BoardFault) (after : LogParts) → AnswersOne l clock act body after (Err fault)
      → Answers (core_of clock slot rq held l) (Uplink packet) (core_of clock slot rq held after) (Err fault) × (after ≡ l)
  not-now act body JournalFull after h = ((full-is clock slot rq held l packet k e ∙ h.0, ap (core_of clock slot rq held) h.1), h.1)
  not-now act body TimeExhausted after h =
      ((full-is clock slot rq held l packet k e ∙ h.0, late-is clock slot rq held l packet k e ∙ h.1, ap (core_of clock slot rq held) h.2), h.2)
  not-now act body Memory after h = (ap (core_of clock slot rq held) h, h)

-- a packet that isn't handled
pub none-handled : (c : Core) (packet : List ℕ) → handled_as c packet ≡ None → length c.moments ≤ 1048576 → Answers c (Uplink packet) c (Ok 0)
none-handled c packet e room =
    let core-is : prepared c (Uplink packet) ≡ c = ap (with_packet c packet) e in
    let plans : planned c (Uplink packet) ≡ [] = ap (packet_plans c packet) e in
    let full : steps.is_full c (Uplink packet) ≡ false = ap (λ (xs : List Plan). nat_lt 1048576 (length c.moments + length xs)) plans ∙ not-full (length c.moments) room in
    let late : steps.is_late c (Uplink packet) ≡ false =
    ap₂ (λ (xs : List Plan) (x : Core). (nat_lt 0 (length xs) && nat_lt (greatest_tag c.tailoring + 1) (next_tag x.clock c.moments + length xs)) || (false && nat_lt (greatest_tag c.tailoring) x.clock)) plans core-is in (
      full,
      late,
      sym (ap length plans),
      record {
        tailoring = refl;
        clock = ap (λ (x : Core). x.clock) (sym core-is);
        requests = ap (λ (x : Core). x.requests) (sym core-is);
        slot_now = refl;
        one_shots = λ key. refl;
        moments = subst (λ (x : Core). AreNext (session x) x.clock c.slot_now c.moments (planned c (Uplink packet)) c.moments) (sym core-is)
            (subst (λ xs. AreNext (session c) c.clock c.slot_now c.moments xs c.moments) (sym plans) refl);
      },
    )
  where
    not-full : (n : ℕ) → n ≤ 1048576 → nat_lt 1048576 (n + 0) ≡ false
    not-full n le = grind (arith, nat_tests)

-- a packet that is handled has no packet fault
pub no-packet-fault : (c : Core) (packet : List ℕ) (k : ℕ) (fault : PacketFault) → handled_as c packet ≡ Some k → request_of c.tailoring packet ≡ Err (Packet fault) → ⊥
no-packet-fault c packet k fault e f = go (split_command c.tailoring packet) refl
  where
    by_body : (h : TcHeader) (service subtype : ℕ) (b : Option (Result RequestBody BodyFault))
        → message {M = Request} (λ (x : TcHeader) (y : RequestBody). record { header = x; body = y }) h service subtype b ≡ Err (Packet fault) → ⊥
    by_body h service subtype None q = cc
    by_body h service subtype (Some (Ok b)) q = cc
    by_body h service subtype (Some (Err x)) q = cc

    go : (o : Result (TcHeader × List ℕ) PacketFault) → split_command c.tailoring packet ≡ o → ⊥
    go (Ok parts) q =
        by_body parts.0 parts.0.service parts.0.subtype (request_body c.tailoring parts.0.service parts.0.subtype parts.1) (sym (ap (request_in c.tailoring) q) ∙ f)
    go (Err x) q =
        none-some k (sym (ap (λ o. option_and_then (λ h. if is_handled c h then Some h.count else None) (option_map (λ (p : TcHeader × List ℕ). p.0) (result_ok o))) q) ∙ e)

take-front : {X : Type 0} (xs ys : List X) (n : ℕ) → n ≡ length xs → take n (xs ++ ys) ≡ xs
take-front [] ys zero e = refl
take-front [] ys (suc n) e = absurd (omega (arith, e))
take-front (x ∷ xs) ys zero e = absurd (omega (arith, e))
take-front (x ∷ xs) ys (suc n) e = ap (λ zs. x ∷ zs) (take-front xs ys n (omega (arith, e)))

-- a request that was withdrawn leaves what was held before
pub withdrawn : (rq : RequestsHeld) (k : ℕ) (packet : List ℕ) (w : Running) (n : ℕ) → n ≡ length rq.packets
    → ◌≡◌ {A = RequestsHeld} (record { packets = take n (with_request rq.packets k packet); waiting = take (length (rq.waiting ++ w ∷ []) - 1) (rq.waiting ++ w ∷ []) }) rq
withdrawn rq k packet w n e =
    ap₂ (λ (ps : List (List ℕ)) (ws : List Running). record { packets = ps; waiting = ws })
    (take-front rq.packets (replicate (k - length rq.packets) [] ++ packet ∷ []) n e)
    (take-front rq.waiting (w ∷ []) (length (rq.waiting ++ w ∷ []) - 1) (omega (arith, length-append rq.waiting (w ∷ []))))

-- so does a packet that was
pub withdrawn-packet : (rq : RequestsHeld) (k : ℕ) (packet : List ℕ) (n : ℕ) → n ≡ length rq.packets
    → ◌≡◌ {A = RequestsHeld} (record { packets = take n (with_request rq.packets k packet); waiting = rq.waiting }) rq
withdrawn-packet rq k packet n e =
    ap (λ (ps : List (List ℕ)). record { packets = ps; waiting = rq.waiting }) (take-front rq.packets (replicate (k - length rq.packets) [] ++ packet ∷ []) n e)
