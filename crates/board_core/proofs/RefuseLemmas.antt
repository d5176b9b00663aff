-- What is answered where the one instruction of a request is refused.
use Rattle.std.proofs.Common.{arith, ◌≡◌, ℕ, refl, sym, ◌∙◌, ap, subst, List, [], ◌∷◌, length, true, Some, Ok}
use Rattle.std.specs.Prelude.{if◌then◌else◌}
use Rattle.std.proofs.lemmas.Option.{same_Some, none-some}
use Rattle.std.proofs.lemmas.Bool.{eq-eqb}
use Rattle.std.proofs.lemmas.Bool.Decides.{nat_tests}
use Rattle.hk_base.specs.Fit.{IsFit}
use Rattle.hk_base.specs.declared.types.Key.{Key}
use Rattle.st01_reports.specs.declared.verification.Verification.TheVariants as verify
use Rattle.pus_messages.specs.declared.message.ReportBody.{ReportBody}
use Rattle.pus_messages.specs.declared.message.ReportBody.TheVariants.{Verify}
use Rattle.hk_world.specs.Timelines.{Session, instructions_at, request_number, is_act_of, last_act}
use Rattle.hk_world.specs.Legal.{refused_number}
use Rattle.hk_world.specs.Honest.{Carries, IsReport, cause_of}
use Rattle.hk_world.specs.declared.moment.Moment.{Moment}
use Rattle.hk_world.specs.declared.moment.Act.TheVariants.{Accepted, Started, NotStarted}
use Rattle.board_steps.specs.Cores.{Core, session}
use Rattle.board_core.specs.Logs.{LogParts, AnswersOne, with_moments}
use Rattle.board_steps.specs.Plans.{does, worked_request, is_barred, next_acts, planned}
use Rattle.board_steps.specs.Steps.{Answers}
use Rattle.board_core.specs.Boards.{core_of, IsBoard}
use Rattle.board_core.specs.Worked.{IsToRefuse}
use Rattle.board_state.specs.Waiting.{RequestsHeld, AreWaiting}
use Rattle.board_steps.specs.declared.event.Event.TheVariants.{Work}
use Rattle.board_state.specs.declared.running.Running.{Running}
use Rattle.board_state.specs.declared.structures.Held.{Held}
use Rattle.board_steps.proofs.GrammarLemmas.{RequestsOnly}
use Rattle.board_steps.proofs.RunLemmas.{step-stands}
use Rattle.board_core.proofs.UplinkLemmas.{verified}
use Rattle.board_core.proofs.WorkedLemmas.{worked-first, worked-none, waiting-ended, work-planned, work-full, work-late, work-step}
use Rattle.std.specs.Prelude.{is_some}
use Rattle.report_structures.specs.declared.refusal.Refusal.{Refusal}
use Rattle.hk_world.specs.Legal.{is_pending}

-- where a request is to be refused, one waits
pub refused-waits : (c : Core) (r : Refusal) (ws : List Running) → AreWaiting (session c) c.moments ws → IsToRefuse c r → ws ≡ [] → ⊥
refused-waits c r ws h t e =
    let none : AreWaiting (session c) c.moments [] = subst (AreWaiting (session c) c.moments) e h in
    none-some t.number (sym (worked-none c none) ∙ t.first)

module _ (clock slot : ℕ) (rq : RequestsHeld) (held : List (Key × Held)) (l : LogParts) (w : Running) (ws : List Running) (waits : rq.waiting ≡ w ∷ ws) (r : Refusal)
    (fit : IsFit l.tailoring) (only : RequestsOnly l.tailoring) (b : IsBoard (core_of clock slot rq held l) rq.waiting) (t : IsToRefuse (core_of clock slot rq held l) r) where
  each : AreWaiting (session (core_of clock slot rq held l)) l.moments (w ∷ ws)
  each = subst (AreWaiting (session (core_of clock slot rq held l)) l.moments) waits b.waits

  same-number : t.number ≡ w.number
  same-number = same_Some t.number w.number (sym t.first ∙ worked-first (core_of clock slot rq held l) w ws each)

  accepted : last_act w.number l.moments ≡ Some (Accepted w.number)
  accepted = subst (λ n. last_act n l.moments ≡ Some (Accepted n)) same-number t.accepted

  alone : instructions_at (session (core_of clock slot rq held l)) w.number ≡ t.instruction ∷ []
  alone = subst (λ n. instructions_at (session (core_of clock slot rq held l)) n ≡ t.instruction ∷ []) same-number t.alone

  acts : next_acts (session (core_of clock slot rq held l)) l.moments w.number (last_act w.number l.moments) ≡ NotStarted w.number ∷ []
  acts =
      ap (next_acts (session (core_of clock slot rq held l)) l.moments w.number) accepted
      ∙ ap (λ b. (if b then NotStarted w.number else Started w.number) ∷ []) (ap (is_barred (session (core_of clock slot rq held l)) l.moments) alone ∙ ap is_some t.refused)

  first : worked_request (core_of clock slot rq held l) ≡ Some w.number
  first = worked-first (core_of clock slot rq held l) w ws each

  -- what is planned
  pub refusal-planned : planned (core_of clock slot rq held l) Work ≡ does (NotStarted w.number) ∷ []
  refusal-planned = work-planned clock slot rq held l w.number (NotStarted w.number) first acts (λ tag. refl)

  -- a request that isn't begun
  pub refused : (after : LogParts) (count : ℕ) → AnswersOne l clock (NotStarted w.number) (Some (Verify (verify.NotStarted w.id (cause_of r)))) after (Ok count)
      → Answers (core_of clock slot rq held l) Work (core_of clock slot (record { packets = rq.packets; waiting = ws }) held after) (Ok count)
      × IsBoard (core_of clock slot (record { packets = rq.packets; waiting = ws }) held after) ws
  refused after count h =
      let s : Session = session (core_of clock slot rq held l) in
      let k : ℕ = w.number in
      let m : Moment = h.3.0 in
      let one = each.each.0 in
      let body : ReportBody = Verify (verify.NotStarted w.id (cause_of r)) in
      let carries : Carries s l.moments m (NotStarted k) =
      (t.instruction, cause_of r, alone, (r, t.refused, refl), subst (λ i. IsReport s m (Verify (verify.NotStarted i (cause_of r)))) one.id (verified s l.moments m body h.3.1.packet)) in
      let step = work-step clock slot rq held l k (NotStarted k) first acts (λ tag. refl) ws (Some body) m h.3.1 carries in
      let full = work-full clock slot rq held l k (NotStarted k) first acts (λ tag. refl) ∙ h.0 in
      let late = work-late clock slot rq held l k (NotStarted k) first acts (λ tag. refl) ∙ h.1 in
      let core : Core = core_of clock slot (record { packets = rq.packets; waiting = ws }) held (with_moments l (m ∷ l.moments)) in
      let stands = step-stands (core_of clock slot rq held l) Work core fit only b.stands (record { comes = tt; room = full; time = late; step = step }) in
      let own : is_act_of k m.act ≡ true = ap (is_act_of k) h.3.1.act_is ∙ eq-eqb k k refl in
      let number : request_number m.act ≡ Some k = ap request_number h.3.1.act_is in
      let waiting = waiting-ended s l.moments m k own number (λ j. ap (refused_number j) h.3.1.act_is) w ws refl (ap (λ a. is_pending (Some a)) h.3.1.act_is) each in
      let P : LogParts → Type 0 = λ x.
      Answers (core_of clock slot rq held l) Work (core_of clock slot (record { packets = rq.packets; waiting = ws }) held x) (Ok count)
      × IsBoard (core_of clock slot (record { packets = rq.packets; waiting = ws }) held x) ws in
      subst P (sym h.3.2) (
        (full, late, h.2 ∙ sym (ap length (work-planned clock slot rq held l k (NotStarted k) first acts (λ tag. refl))), step),
        record { stands = stands; waits = waiting; room = let some = h.0 in grind (arith, nat_tests) },
      )
