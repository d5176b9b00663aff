-- What is answered where a request ends.
use Rattle.std.proofs.Common.{arith, ◌*◌, flat_map, ◌≡◌, ℕ, zero, suc, ◌+◌, ◌/◌, ◌%◌, ◌^◌, ◌<◌, ◌≤◌, refl, sym, ◌∙◌, ap, subst, List, [], ◌∷◌, ◌++◌, length, length-append, Bool, true, false, ◌==◌, Some, None, Ok, Err}
use Rattle.std.specs.Prelude.{slice_get, if◌then◌else◌}
use Rattle.std.specs.Option.{option_map_or}
use Rattle.std.proofs.lemmas.Option.{same_Some, none-some}
use Rattle.std.proofs.lemmas.Bool.{eq-eqb}
use Rattle.std.proofs.lemmas.Bool.Decides.{nat_tests}
use Rattle.hk_base.specs.Fit.{IsFit}
use Rattle.hk_base.specs.declared.types.Key.{Key}
use Rattle.st01_reports.specs.declared.verification.Verification.TheVariants as verify
use Rattle.pus_messages.specs.declared.message.ReportBody.TheVariants.{Verify}
use Rattle.hk_world.specs.Timelines.{Session, instructions_at, request_number, is_act_of, last_act}
use Rattle.hk_world.specs.Legal.{refused_number, refused_numbers}
use Rattle.hk_world.specs.Honest.{Carries, VerifiesIf, IsReport, request_id}
use Rattle.hk_world.specs.declared.moment.Moment.{Moment}
use Rattle.hk_world.specs.declared.moment.Act.{Act}
use Rattle.hk_world.specs.declared.moment.Act.TheVariants.{Executed, Completed}
use Rattle.board_steps.specs.Cores.{Core, session}
use Rattle.board_core.specs.Logs.{LogParts, IsPacket, IsWritable, AnswersOne, with_moments}
use Rattle.board_steps.specs.Plans.{does, worked_request, next_acts, execution, planned}
use Rattle.board_steps.specs.Steps.{Answers}
use Rattle.board_core.specs.Boards.{core_of, IsBoard}
use Rattle.board_core.specs.Worked.{IsToComplete, completion}
use Rattle.board_state.specs.Waiting.{RequestsHeld, AreWithin, AreWaiting, asks}
use Rattle.board_steps.specs.declared.event.BoardFault.{BoardFault}
use Rattle.board_steps.specs.declared.event.BoardFault.TheVariants.{JournalFull, TimeExhausted, Memory}
use Rattle.board_steps.specs.declared.event.Event.TheVariants.{Work}
use Rattle.board_state.specs.declared.running.Running.{Running}
use Rattle.board_state.specs.declared.running.Asked.TheVariants.{Completion}
use Rattle.board_state.specs.declared.structures.Held.{Held}
use Rattle.board_steps.proofs.GrammarLemmas.{RequestsOnly}
use Rattle.board_steps.proofs.RunLemmas.{step-stands}
use Rattle.board_core.proofs.UplinkLemmas.{verified, verifies}
use Rattle.board_core.proofs.WorkedLemmas.{worked-first, worked-none, waiting-ended, work-planned, work-full, work-late, work-step}
use Rattle.hk_world.specs.Legal.{is_pending}
use Rattle.std.proofs.Math.Nat.{pow-le-pow_right}
use Rattle.hk_base.specs.TailoringParts.{TailoringParts}
use Rattle.hk_base.specs.Fields.{octets_of}
use Rattle.hk_base.proofs.FieldLemmas.{length-digits}
use Rattle.st01_reports.specs.Spelling.{AreRising, step_octets, id_octets}
use Rattle.pus_messages.specs.Instructions.{instructions}
use Rattle.std.specs.Prelude.{IfSome, unwrap_or, take}
use Rattle.std.specs.List.{AllByRecursion}
use Rattle.body_fields.specs.Spelling.{AreOctets}
use Rattle.body_fields.proofs.TakingLemmas.{number-below}
use Rattle.hk_base.specs.declared.types.RequestId.{RequestId}
use Rattle.hk_world.specs.Honest.{id_of_packet}

-- where a request is to end, one waits
pub ending-waits : (c : Core) (ws : List Running) → AreWaiting (session c) c.moments ws → IsToComplete c → ws ≡ [] → ⊥
ending-waits c ws h t e =
    let none : AreWaiting (session c) c.moments [] = subst (AreWaiting (session c) c.moments) e h in
    none-some t.number (sym (worked-none c none) ∙ t.first)

-- the ID of a request has room in its field
front-octets : (n : ℕ) (xs : List ℕ) → AreOctets xs → AreOctets (take n xs) × (length (take n xs) ≤ n)
front-octets zero xs h = (tt, omega arith)
front-octets (suc n) [] h = (tt, omega arith)
front-octets (suc n) (x ∷ xs) h = let more = front-octets n xs h.1 in ((h.0, more.0), let few = more.1 in omega (arith, few))

packet-octets : (requests : List (List ℕ)) (k : ℕ) → AllByRecursion AreOctets requests → AreOctets (unwrap_or (slice_get requests k) [])
packet-octets [] k h = tt
packet-octets (packet ∷ requests) zero h = h.0
packet-octets (packet ∷ requests) (suc k) h = packet-octets requests k h.1

pub id-small : (requests : List (List ℕ)) (k : ℕ) → AllByRecursion AreOctets requests → (id_of_packet (unwrap_or (slice_get requests k) [])).word < 256 ^ 4
id-small requests k h =
    let packet : List ℕ = unwrap_or (slice_get requests k) [] in
    let front = front-octets 4 packet (packet-octets requests k h) in
    let below = number-below (take 4 packet) front.0 in
    let most : 256 ^ length (take 4 packet) ≤ 256 ^ 4 = let some : 0 < 256 = omega arith in pow-le-pow_right some front.1 in
    omega (arith, below, most)

-- numbers within bounds: the bounds, and how many there are
within-most : (below most : ℕ) (ns : List ℕ) → AreWithin below most ns → below + length ns ≤ most
within-most below most [] h = omega (arith, h)
within-most below most (n ∷ ns) h = let more = within-most n most ns h.1 in let low = h.0 in omega (arith, low, more)

rising : (t : TailoringParts) (below most : ℕ) (ns : List ℕ) → most ≤ 255 → 256 ≤ 256 ^ t.widths.step_octets → AreWithin below most ns → AreRising t below ns
rising t below most [] few room h = tt
rising t below most (n ∷ ns) few room h =
    (h.0, (let more = within-most n most ns h.1 in omega (arith, more, few, room)), rising t n most ns few room h.1)

steps-short : (t : TailoringParts) (ns : List ℕ) → t.widths.step_octets ≤ 2 → length (flat_map (step_octets t) ns) ≤ 2 * length ns
steps-short t [] h = omega arith
steps-short t (n ∷ ns) h =
    let more = steps-short t ns h in
    omega (arith, more, h, length-append (step_octets t n) (flat_map (step_octets t) ns), length-digits 256 t.widths.step_octets n)

-- the report of a request that has ended can be written
pub completion-writable : (t : TailoringParts) (w : Running) (ns : List ℕ) → IsFit t → w.id.word < 256 ^ 4 → w.executed ≤ 255 → AreWithin 0 w.executed ns → IfSome (completion w ns) (IsWritable t)
completion-writable t w [] fit id few h = go (asks w.request Completion)
  where
    go : (b : Bool) → IfSome (if b then Some (Verify (verify.Completed w.id)) else None) (IsWritable t)
    go true = record { grammar = id; room = tt; short = omega (arith, length-digits 256 4 w.id.word) }
    go false = tt
completion-writable t w (n ∷ ns) fit id few h =
    let all : List ℕ = n ∷ ns in
    let most = within-most 0 w.executed (n ∷ ns) h in
    let room : 256 ^ 1 ≤ 256 ^ t.widths.step_octets = let some : 0 < 256 = omega arith in pow-le-pow_right some fit.widths.step_octets.0 in
    let steps : List ℕ = flat_map (step_octets t) (n ∷ ns) in
    let count : List ℕ = octets_of t.widths.count_octets (length all) in
    let code : List ℕ = octets_of 2 200 in
    record {
      grammar = (id, omega arith, omega arith, omega (arith, most, few), rising t 0 w.executed (n ∷ ns) few (omega (arith, room)) h);
      room = tt;
      short =
          let a = length-append (id_octets w.id) (code ++ (count ++ steps)) in
          let b = length-append code (count ++ steps) in
          let c = length-append count steps in
          let d = length-digits 256 4 w.id.word in
          let e = length-digits 256 2 200 in
          let f = length-digits 256 t.widths.count_octets (length all) in
          let g = steps-short t (n ∷ ns) fit.widths.step_octets.1 in
          let wide = fit.widths.count_octets.1 in
          omega (arith, a, b, c, d, e, f, g, wide, most, few);
    }

module _ (clock slot : ℕ) (rq : RequestsHeld) (held : List (Key × Held)) (l : LogParts) (w : Running) (ws : List Running) (waits : rq.waiting ≡ w ∷ ws)
    (fit : IsFit l.tailoring) (only : RequestsOnly l.tailoring) (b : IsBoard (core_of clock slot rq held l) rq.waiting) (t : IsToComplete (core_of clock slot rq held l)) where
  each : AreWaiting (session (core_of clock slot rq held l)) l.moments (w ∷ ws)
  each = subst (AreWaiting (session (core_of clock slot rq held l)) l.moments) waits b.waits

  first : worked_request (core_of clock slot rq held l) ≡ Some w.number
  first = worked-first (core_of clock slot rq held l) w ws each

  same-number : t.number ≡ w.number
  same-number = same_Some t.number w.number (sym t.first ∙ first)

  executed : last_act w.number l.moments ≡ Some (Executed w.number (length (instructions_at (session (core_of clock slot rq held l)) w.number)) t.flag)
  executed = subst (λ n. last_act n l.moments ≡ Some (Executed n (length (instructions_at (session (core_of clock slot rq held l)) n)) t.flag)) same-number t.executed

  acts : next_acts (session (core_of clock slot rq held l)) l.moments w.number (last_act w.number l.moments) ≡ Completed w.number w.refused ∷ []
  acts =
      let s : Session = session (core_of clock slot rq held l) in
      let n : ℕ = length (instructions_at s w.number) in
      ap (next_acts s l.moments w.number) executed
      ∙ ap (λ b. (if b then Completed w.number (refused_numbers w.number l.moments) else execution s l.moments w.number (n + 1)) ∷ []) (eq-eqb n n refl)
      ∙ ap (λ ns. Completed w.number ns ∷ []) (sym each.each.0.refused)

  -- what can be written
  pub written : length (instructions w.request) ≤ 255 → IfSome (completion w w.refused) (IsWritable l.tailoring)
  written few = completion-writable l.tailoring w w.refused fit (subst (λ (i : RequestId). i.word < 256 ^ 4) (sym each.each.0.id) (id-small rq.packets w.number b.stands.octets)) (let most = each.each.0.within in omega (arith, most, few)) each.each.0.rises

  carried : (m : Moment) (ns : List ℕ) → IsPacket (session (core_of clock slot rq held l)).protocol l.moments m.tag (completion w ns) m.packet
      → Carries (session (core_of clock slot rq held l)) l.moments m (Completed w.number ns)
  carried m [] h =
      let s : Session = session (core_of clock slot rq held l) in
      let one = each.each.0 in
      let due = ap (λ o. option_map_or (λ x. x.header.flags / 2 ^ 3 % 2 == 1) o false) one.request in
      subst (λ d. VerifiesIf d s m (verify.Completed (request_id s w.number))) (sym due)
      (subst (λ i. VerifiesIf (asks w.request Completion) s m (verify.Completed i)) one.id (verifies s l.moments m (asks w.request Completion) (verify.Completed w.id) h))
  carried m (n ∷ ns) h =
      let s : Session = session (core_of clock slot rq held l) in
      subst (λ i. IsReport s m (Verify (verify.Incomplete i 200 (n ∷ ns)))) each.each.0.id (verified s l.moments m (Verify (verify.Incomplete w.id 200 (n ∷ ns))) h)

  -- what is planned
  pub completion-planned : planned (core_of clock slot rq held l) Work ≡ does (Completed w.number w.refused) ∷ []
  completion-planned = work-planned clock slot rq held l w.number (Completed w.number w.refused) first acts (λ tag. refl)

  -- a request that has ended
  pub completed : (after : LogParts) (count : ℕ) → AnswersOne l clock (Completed w.number w.refused) (completion w w.refused) after (Ok count)
      → Answers (core_of clock slot rq held l) Work (core_of clock slot (record { packets = rq.packets; waiting = ws }) held after) (Ok count)
      × IsBoard (core_of clock slot (record { packets = rq.packets; waiting = ws }) held after) ws
  completed after count h =
      let s : Session = session (core_of clock slot rq held l) in
      let k : ℕ = w.number in
      let act : Act = Completed w.number w.refused in
      let m : Moment = h.3.0 in
      let carries = carried m w.refused h.3.1.packet in
      let step = work-step clock slot rq held l k act first acts (λ tag. refl) ws (completion w w.refused) m h.3.1 carries in
      let full = work-full clock slot rq held l k act first acts (λ tag. refl) ∙ h.0 in
      let late = work-late clock slot rq held l k act first acts (λ tag. refl) ∙ h.1 in
      let core : Core = core_of clock slot (record { packets = rq.packets; waiting = ws }) held (with_moments l (m ∷ l.moments)) in
      let stands = step-stands (core_of clock slot rq held l) Work core fit only b.stands (record { comes = tt; room = full; time = late; step = step }) in
      let own : is_act_of k m.act ≡ true = ap (is_act_of k) h.3.1.act_is ∙ eq-eqb k k refl in
      let number : request_number m.act ≡ Some k = ap request_number h.3.1.act_is in
      let waiting = waiting-ended s l.moments m k own number (λ j. ap (refused_number j) h.3.1.act_is) w ws refl (ap (λ a. is_pending (Some a)) h.3.1.act_is) each in
      let P : LogParts → Type 0 = λ x.
      Answers (core_of clock slot rq held l) Work (core_of clock slot (record { packets = rq.packets; waiting = ws }) held x) (Ok count)
      × IsBoard (core_of clock slot (record { packets = rq.packets; waiting = ws }) held x) ws in
      subst P (sym h.3.2) (
        (full, late, h.2 ∙ sym (ap length (work-planned clock slot rq held l k act first acts (λ tag. refl))), step),
        record { stands = stands; waits = waiting; room = let some = h.0 in grind (arith, nat_tests) },
      )

  -- a request that can't end now, since there is no room or no time
  pub not-completed : (fault : BoardFault) (after : LogParts) → AnswersOne l clock (Completed w.number w.refused) (completion w w.refused) after (Err fault)
      → Answers (core_of clock slot rq held l) Work (core_of clock slot rq held after) (Err fault) × (after ≡ l)
  not-completed JournalFull after h = ((work-full clock slot rq held l w.number (Completed w.number w.refused) first acts (λ tag. refl) ∙ h.0, ap (core_of clock slot rq held) h.1), h.1)
  not-completed TimeExhausted after h = (
    (
      work-full clock slot rq held l w.number (Completed w.number w.refused) first acts (λ tag. refl) ∙ h.0,
      work-late clock slot rq held l w.number (Completed w.number w.refused) first acts (λ tag. refl) ∙ h.1,
      ap (core_of clock slot rq held) h.2,
    ),
    h.2,
  )
  not-completed Memory after h = (ap (core_of clock slot rq held) h, h)
