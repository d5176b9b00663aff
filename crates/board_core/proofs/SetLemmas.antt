-- What is answered where values are set, and what is held then.
use Rattle.std.proofs.Common.{ℕ, refl, sym, ap, subst, List, true, Ok}
use Rattle.hk_base.specs.Fit.{IsFit}
use Rattle.hk_base.specs.declared.types.Key.{Key}
use Rattle.st20_grammar.specs.declared.bodies.Setting.{Setting}
use Rattle.hk_world.specs.Timelines.{done_instructions, is_resetting_report}
use Rattle.board_steps.specs.Cores.{Core, session}
use Rattle.board_steps.specs.Steps.{Answers}
use Rattle.board_steps.specs.declared.event.Event.TheVariants.{Work}
use Rattle.board_steps.proofs.GrammarLemmas.{RequestsOnly}
use Rattle.board_state.specs.Statistics.{StatisticsHeld}
use Rattle.board_state.specs.Values.{with_settings}
use Rattle.board_state.specs.Waiting.{RequestsHeld}
use Rattle.board_state.specs.declared.channels.Channel.{Channel}
use Rattle.board_state.specs.declared.structures.Held.{Held}
use Rattle.board_state.proofs.FilingLemmas.{set-done, settings-set}
use Rattle.board_state.proofs.HoldingLemmas.{IsOther, other-done}
use Rattle.board_state.proofs.StatisticsLemmas.{did, LeavesStatistics}
use Rattle.board_core.specs.Boards.{core_of, IsWhole}
use Rattle.board_core.specs.Effects.{IsToCarry}
use Rattle.board_core.specs.Logs.{LogParts}
use Rattle.board_core.specs.declared.effect.Effect.{Effect}
use Rattle.board_core.specs.declared.effect.Effect.TheVariants.{SetValues}
use Rattle.board_core.specs.declared.log.Draft.{Draft}
use Rattle.board_core.proofs.CarriedLemmas.{did_now, values-done, statistics-kept, finished, IsCountedFirst, counted-done, shots-other}
use Rattle.board_core.proofs.FinishedLemmas.{IsAddedTo}

module _ (clock slot : ℕ) (rq : RequestsHeld) (held : List (Key × Held)) (l : LogParts) (channels : List (ℕ × Channel)) (members : StatisticsHeld) (d : Draft)
    (fit : IsFit l.tailoring) (only : RequestsOnly l.tailoring) (b : IsWhole (core_of clock slot rq held l) rq.waiting held channels members)
    (settings : List Setting) (t : IsToCarry (core_of clock slot rq held l) (SetValues settings) d) where
  -- what is answered
  pub set-finished : (rq2 : RequestsHeld) (l2 : LogParts) (count : ℕ) → IsAddedTo clock slot rq held l channels members d fit only b rq2 l2 count
      → Answers (core_of clock slot rq held l) Work (core_of clock slot rq2 held l2) (Ok count)
      × IsWhole (core_of clock slot rq2 held l2) rq2.waiting held (with_settings settings channels) members
  set-finished rq2 l2 count added =
      let e : Effect = SetValues settings in
      let c : Core = core_of clock slot rq held l in
      let is = t.is_effect.0 in
      let other : IsOther t.instruction = subst IsOther (sym is) tt in
      finished clock slot rq held l e d t channels members fit only b rq2 held (with_settings settings channels) members l2 count (ap (λ (r : RequestsHeld). r.packets) added.requests)
      (subst (λ (r : RequestsHeld). IsCountedFirst true rq.waiting r.waiting) (sym added.requests) (counted-done rq.waiting)) added.log added.count_is
      (λ key. shots-other c (did_now clock slot rq held l e d t) key other)
      (other-done l.tailoring (done_instructions (session c) l.moments) (did_now clock slot rq held l e d t) held other b.structures)
      (values-done clock slot rq held l e d t refl (with_settings settings channels)
      (λ m done none. set-done (session c) m l.moments (did m t.number t.instruction) settings channels done is none (settings-set l.tailoring settings t.is_effect.1) b.values))
      (statistics-kept clock slot rq held l e d t members (subst LeavesStatistics (sym is) tt) (ap is_resetting_report is) b.settled b.statistics)
