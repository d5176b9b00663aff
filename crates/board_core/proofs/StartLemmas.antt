-- What is answered where a request is started.
use Rattle.std.proofs.Common.{arith, ◌≡◌, ℕ, zero, suc, ◌/◌, ◌%◌, ◌^◌, refl, sym, ◌∙◌, ap, subst, List, [], ◌∷◌, length, reverse, drop, Bool, true, false, ◌==◌, Option, Some, None, Ok, Err}
use Rattle.std.specs.List.{cons_option}
use Rattle.std.specs.Prelude.{filter_map, slice_get, if◌then◌else◌}
use Rattle.std.specs.Option.{option_map_or}
use Rattle.std.proofs.lemmas.Option.{same_Some, none-some}
use Rattle.std.proofs.lemmas.Bool.{eq-eqb}
use Rattle.std.proofs.lemmas.Bool.Decides.{nat_tests}
use Rattle.hk_base.specs.Fit.{IsFit}
use Rattle.hk_base.specs.declared.types.Key.{Key}
use Rattle.st01_reports.specs.declared.verification.Verification.TheVariants as verify
use Rattle.pus_messages.specs.declared.message.ReportBody.{ReportBody}
use Rattle.pus_messages.specs.declared.message.ReportBody.TheVariants.{Verify}
use Rattle.hk_world.specs.Timelines.{Session, instructions_at, request_number, is_act_of, last_act}
use Rattle.hk_world.specs.Legal.{refused_number}
use Rattle.hk_world.specs.Honest.{Carries, VerifiesIf, request_id}
use Rattle.hk_world.specs.declared.moment.Moment.{Moment}
use Rattle.hk_world.specs.declared.moment.Act.{Act}
use Rattle.hk_world.specs.declared.moment.Act.TheVariants.{Accepted, Started, NotStarted, Executed}
use Rattle.hk_world.proofs.RequestLemmas.{last_act-own}
use Rattle.board_steps.specs.Cores.{Core, session}
use Rattle.board_core.specs.Logs.{LogParts, IsPacket, AnswersOne, with_moments}
use Rattle.board_steps.specs.Plans.{does, worked_request, is_barred, next_acts, planned}
use Rattle.board_steps.specs.Steps.{Answers}
use Rattle.board_core.specs.Boards.{core_of, IsBoard}
use Rattle.board_core.specs.Worked.{IsToStart}
use Rattle.board_state.specs.Waiting.{RequestsHeld, IsRunning, IsStage, AreWaiting, asks}
use Rattle.board_steps.specs.declared.event.BoardFault.{BoardFault}
use Rattle.board_steps.specs.declared.event.BoardFault.TheVariants.{JournalFull, TimeExhausted, Memory}
use Rattle.board_steps.specs.declared.event.Event.TheVariants.{Work}
use Rattle.board_state.specs.declared.running.Running.{Running}
use Rattle.board_state.specs.declared.running.Asked.TheVariants.{Start}
use Rattle.board_state.specs.declared.structures.Held.{Held}
use Rattle.board_steps.proofs.GrammarLemmas.{RequestsOnly}
use Rattle.board_steps.proofs.RunLemmas.{step-stands}
use Rattle.board_core.proofs.UplinkLemmas.{verifies}
use Rattle.board_core.proofs.WorkedLemmas.{worked-first, worked-none, waiting-on, work-planned, work-full, work-late, work-step}

-- a request whose last act is its acceptance had none of its instructions executed
none-executed : (k j : ℕ) (started : Bool) (executed : ℕ) (o : Option Act) → o ≡ Some (Accepted j) → IsStage k started executed o → executed ≡ 0
none-executed k j false executed o e h = h.0
none-executed k j true zero o e h = refl
none-executed k j true (suc n) o e h = absurd (let same : Some (Accepted j) ≡ Some (Executed k (suc n) h.0) = sym e ∙ h.1 in cc)

-- where a request is to be started, one waits
pub one-waits : (c : Core) (ws : List Running) → AreWaiting (session c) c.moments ws → IsToStart c → ws ≡ [] → ⊥
one-waits c ws h t e =
    let none : AreWaiting (session c) c.moments [] = subst (AreWaiting (session c) c.moments) e h in
    none-some t.number (sym (worked-none c none) ∙ t.first)

module _ (clock slot : ℕ) (rq : RequestsHeld) (held : List (Key × Held)) (l : LogParts) (w : Running) (ws : List Running) (waits : rq.waiting ≡ w ∷ ws)
    (fit : IsFit l.tailoring) (only : RequestsOnly l.tailoring) (b : IsBoard (core_of clock slot rq held l) rq.waiting) (t : IsToStart (core_of clock slot rq held l)) where
  each : AreWaiting (session (core_of clock slot rq held l)) l.moments (w ∷ ws)
  each = subst (AreWaiting (session (core_of clock slot rq held l)) l.moments) waits b.waits

  same-number : t.number ≡ w.number
  same-number = same_Some t.number w.number (sym t.first ∙ worked-first (core_of clock slot rq held l) w ws each)

  accepted : last_act w.number l.moments ≡ Some (Accepted w.number)
  accepted = subst (λ n. last_act n l.moments ≡ Some (Accepted n)) same-number t.accepted

  acts : next_acts (session (core_of clock slot rq held l)) l.moments w.number (last_act w.number l.moments) ≡ Started w.number ∷ []
  acts =
      ap (next_acts (session (core_of clock slot rq held l)) l.moments w.number) accepted
      ∙ ap (λ b. (if b then NotStarted w.number else Started w.number) ∷ [])
      (subst (λ n. is_barred (session (core_of clock slot rq held l)) l.moments (instructions_at (session (core_of clock slot rq held l)) n) ≡ false) same-number t.stands)

  first : worked_request (core_of clock slot rq held l) ≡ Some w.number
  first = worked-first (core_of clock slot rq held l) w ws each

  -- what is planned
  pub start-planned : planned (core_of clock slot rq held l) Work ≡ does (Started w.number) ∷ []
  start-planned = work-planned clock slot rq held l w.number (Started w.number) first acts (λ tag. refl)

  -- a request that is started
  pub started : (body : Option ReportBody) → body ≡ (if asks w.request Start then Some (Verify (verify.Started w.id)) else None) → (after : LogParts) (count : ℕ)
      → AnswersOne l clock (Started w.number) body after (Ok count)
      → Answers (core_of clock slot rq held l) Work (core_of clock slot (record { packets = rq.packets; waiting = record w { started = true } ∷ ws }) held after) (Ok count)
      × IsBoard (core_of clock slot (record { packets = rq.packets; waiting = record w { started = true } ∷ ws }) held after) (record w { started = true } ∷ ws)
  started body is after count h =
      let s : Session = session (core_of clock slot rq held l) in
      let k : ℕ = w.number in
      let m : Moment = h.3.0 in
      let v : Running = record w { started = true } in
      let one = each.each.0 in
      let due = ap (λ o. option_map_or (λ x. x.header.flags / 2 ^ 1 % 2 == 1) o false) one.request in
      let told = subst (λ x. IsPacket s.protocol l.moments m.tag x m.packet) is h.3.1.packet in
      let carries : Carries s l.moments m (Started k) =
      subst (λ d. VerifiesIf d s m (verify.Started (request_id s k))) (sym due)
      (subst (λ i. VerifiesIf (asks w.request Start) s m (verify.Started i)) one.id (verifies s l.moments m (asks w.request Start) (verify.Started w.id) told)) in
      let step = work-step clock slot rq held l k (Started k) first acts (λ tag. refl) (v ∷ ws) body m h.3.1 carries in
      let full = work-full clock slot rq held l k (Started k) first acts (λ tag. refl) ∙ h.0 in
      let late = work-late clock slot rq held l k (Started k) first acts (λ tag. refl) ∙ h.1 in
      let core : Core = core_of clock slot (record { packets = rq.packets; waiting = v ∷ ws }) held (with_moments l (m ∷ l.moments)) in
      let stands = step-stands (core_of clock slot rq held l) Work core fit only b.stands (record { comes = tt; room = full; time = late; step = step }) in
      let own : is_act_of k m.act ≡ true = ap (is_act_of k) h.3.1.act_is ∙ eq-eqb k k refl in
      let number : request_number m.act ≡ Some k = ap request_number h.3.1.act_is in
      let none : w.executed ≡ 0 = none-executed k k w.started w.executed (last_act k l.moments) accepted one.stage in
      let new : IsRunning s (m ∷ l.moments) v =
      record {
        known = one.known;
        request = one.request;
        id = one.id;
        stage = subst (λ n. IsStage k true n (last_act k (m ∷ l.moments))) (sym none) (last_act-own k m l.moments own ∙ ap Some h.3.1.act_is);
        within = one.within;
        refused = one.refused ∙ ap (λ o. reverse (cons_option o (filter_map (λ x. refused_number k x.act) l.moments))) (sym (ap (refused_number k) h.3.1.act_is));
        rises = one.rises;
      } in
      let waiting = waiting-on s l.moments m k own number (λ j. ap (refused_number j) h.3.1.act_is) w v ws refl refl new each in
      let P : LogParts → Type 0 = λ x.
      Answers (core_of clock slot rq held l) Work (core_of clock slot (record { packets = rq.packets; waiting = v ∷ ws }) held x) (Ok count)
      × IsBoard (core_of clock slot (record { packets = rq.packets; waiting = v ∷ ws }) held x) (v ∷ ws) in
      subst P (sym h.3.2) (
        (full, late, h.2 ∙ sym (ap length (work-planned clock slot rq held l k (Started k) first acts (λ tag. refl))), step),
        record { stands = stands; waits = waiting; room = let some = h.0 in grind (arith, nat_tests) },
      )

  -- a request that isn't started now, since there is no room or no time
  pub not-started : (body : Option ReportBody) (fault : BoardFault) (after : LogParts) → AnswersOne l clock (Started w.number) body after (Err fault)
      → Answers (core_of clock slot rq held l) Work (core_of clock slot rq held after) (Err fault) × (after ≡ l)
  not-started body JournalFull after h = ((work-full clock slot rq held l w.number (Started w.number) first acts (λ tag. refl) ∙ h.0, ap (core_of clock slot rq held) h.1), h.1)
  not-started body TimeExhausted after h =
      ((work-full clock slot rq held l w.number (Started w.number) first acts (λ tag. refl) ∙ h.0, work-late clock slot rq held l w.number (Started w.number) first acts (λ tag. refl) ∙ h.1, ap (core_of clock slot rq held) h.2), h.2)
  not-started body Memory after h = (ap (core_of clock slot rq held) h, h)

-- a list with a first member
pub head-is : {X : Type 0} (xs : List X) (x : X) → slice_get xs 0 ≡ Some x → xs ≡ x ∷ drop 1 xs
head-is [] x e = absurd (none-some x e)
head-is (y ∷ xs) x e = ap (λ z. z ∷ xs) (same_Some y x e)

pub no-head : {X : Type 0} (xs : List X) → slice_get xs 0 ≡ None → xs ≡ []
no-head [] e = refl
no-head (y ∷ xs) e = absurd (none-some y (sym e))
