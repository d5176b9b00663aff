-- What is answered where a change of the statistics is carried out, and what is held then.
use Rattle.std.proofs.Common.{◌≡◌, ℕ, ◌+◌, refl, sym, ◌∙◌, ap, subst, List, ◌∷◌, map, true, Some, None, Ok}
use Rattle.hk_base.specs.Fit.{IsFit, slot_of}
use Rattle.hk_base.specs.declared.types.Key.{Key}
use Rattle.pus_messages.specs.Instructions.{on_statistics}
use Rattle.hk_world.specs.States.{refusal}
use Rattle.hk_world.specs.Timelines.{done_by, done_at, done_instructions}
use Rattle.hk_world.specs.declared.moment.Act.TheVariants.{Executed}
use Rattle.board_steps.specs.Cores.{session, state_of, next_tag}
use Rattle.board_steps.specs.Plans.{does, tells}
use Rattle.board_steps.specs.Steps.{AreNext, Answers}
use Rattle.board_steps.specs.declared.event.Event.TheVariants.{Work}
use Rattle.board_steps.proofs.GrammarLemmas.{RequestsOnly}
use Rattle.board_state.specs.OneByOne.{statistics_change_of}
use Rattle.board_state.specs.Statistics.{StatisticsHeld, AreStatistics, IsSettled, Changes}
use Rattle.board_state.specs.Waiting.{RequestsHeld}
use Rattle.board_state.specs.declared.channels.Channel.{Channel}
use Rattle.board_state.specs.declared.instruction.StatisticsChange.{StatisticsChange}
use Rattle.board_state.specs.declared.structures.Held.{Held}
use Rattle.board_state.proofs.ChannelLemmas.{SetsNone}
use Rattle.board_state.proofs.HoldingLemmas.{IsOther, other-done}
use Rattle.board_state.proofs.StatisticsLemmas.{did}
use Rattle.board_core.specs.Boards.{core_of, IsWhole}
use Rattle.board_core.specs.Effects.{IsToCarry, statistics_topics}
use Rattle.board_core.specs.Logs.{LogParts, drafted}
use Rattle.board_core.specs.declared.effect.Effect.TheVariants.{ChangeStatistics}
use Rattle.board_core.specs.declared.log.Draft.{Draft}
use Rattle.board_core.specs.declared.effect.Effect.{Effect}
use Rattle.board_core.specs.Reporting.{refusal_held}
use Rattle.board_core.proofs.ExecutedLemmas.{plan-is, done-by}
use Rattle.board_core.proofs.CarriedLemmas.{did_now, values-kept, finished, IsCountedFirst, counted-done, shots-other}
use Rattle.board_core.proofs.FinishedLemmas.{IsAddedTo}
use Rattle.board_core.proofs.StatisticsWorkLemmas.{refusal-alike, carried-holds}

module _ (clock slot : ℕ) (rq : RequestsHeld) (held : List (Key × Held)) (l : LogParts) (channels : List (ℕ × Channel)) (members : StatisticsHeld) (d : Draft)
    (fit : IsFit l.tailoring) (only : RequestsOnly l.tailoring) (b : IsWhole (core_of clock slot rq held l) rq.waiting held channels members)
    (made : StatisticsChange) (t : IsToCarry (core_of clock slot rq held l) (ChangeStatistics made) d) where
  -- the moments of the change
  next : AreNext (session (core_of clock slot rq held l)) clock slot l.moments (does (Executed t.number (t.executed + 1) true) ∷ map tells (statistics_topics made)) (drafted l d.moments.items)
  next =
      subst (λ xs. AreNext (session (core_of clock slot rq held l)) clock slot l.moments xs (drafted l d.moments.items))
      (plan-is (core_of clock slot rq held l) t.number t.executed t.instruction (ChangeStatistics made) t.first t.stage t.there t.is_effect) t.plan.moments

  -- the change is what is done at the first
  done-first : done_at (session (core_of clock slot rq held l)) next.0 ≡ Some (did next.0 t.number (on_statistics (statistics_change_of made)))
  done-first =
      ap (done_by (session (core_of clock slot rq held l)) next.0.tag) next.1.follows.0
      ∙ done-by (core_of clock slot rq held l) t.number t.executed t.instruction (ChangeStatistics made) t.first t.stage t.there t.is_effect next.0.tag true
      ∙ ap (λ x. Some (did next.0 t.number x)) t.is_effect.0

  allowed : refusal_held members.members (statistics_change_of made) ≡ None
  allowed =
      sym (refusal-alike (session (core_of clock slot rq held l)) l.moments members (statistics_change_of made) b.statistics)
      ∙ ap (refusal l.tailoring (state_of (core_of clock slot rq held l))) (sym t.is_effect.0) ∙ t.is_effect.1

  -- what is held of the statistics then
  pub changed-holds : (new : StatisticsHeld) → Changes (statistics_change_of made) d.last_tag (slot_of l.tailoring (next_tag clock l.moments) + 1) members new
      → AreStatistics (session (core_of clock slot rq held l)) (drafted l d.moments.items) new × IsSettled (session (core_of clock slot rq held l)) (drafted l d.moments.items)
  changed-holds new changes =
      carried-holds made (session (core_of clock slot rq held l)) clock slot t.number (t.executed + 1) l.moments (drafted l d.moments.items) d.last_tag members new
      (record {
        next = next;
        done = done-first;
        last_is = t.plan.draft.last_is;
        fit = t.plan.draft.fit;
        timeline = b.board.stands.good.timeline;
        empty = (refl, refl);
        settled = b.settled;
        grammar = t.is_effect.2;
        wide = fit.widths.count_octets.0;
        allowed = allowed;
        changes = changes;
        before = b.statistics;
      })

  -- what is answered
  pub statistics-finished : (new : StatisticsHeld) → Changes (statistics_change_of made) d.last_tag (slot_of l.tailoring (next_tag clock l.moments) + 1) members new
      → (rq2 : RequestsHeld) (l2 : LogParts) (count : ℕ) → IsAddedTo clock slot rq held l channels members d fit only b rq2 l2 count
      → Answers (core_of clock slot rq held l) Work (core_of clock slot rq2 held l2) (Ok count) × IsWhole (core_of clock slot rq2 held l2) rq2.waiting held channels new
  statistics-finished new changes rq2 l2 count added =
      let e : Effect = ChangeStatistics made in
      let other : IsOther t.instruction = subst IsOther (sym t.is_effect.0) tt in
      finished clock slot rq held l e d t channels members fit only b rq2 held channels new l2 count (ap (λ (r : RequestsHeld). r.packets) added.requests)
      (subst (λ (r : RequestsHeld). IsCountedFirst true rq.waiting r.waiting) (sym added.requests) (counted-done rq.waiting)) added.log added.count_is
      (λ key. shots-other (core_of clock slot rq held l) (did_now clock slot rq held l e d t) key other)
      (other-done l.tailoring (done_instructions (session (core_of clock slot rq held l)) l.moments) (did_now clock slot rq held l e d t) held other b.structures)
      (values-kept clock slot rq held l e d t channels (subst SetsNone (sym t.is_effect.0) tt) b.values)
      (changed-holds new changes)
