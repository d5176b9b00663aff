-- The moments of an instruction that is executed, one after the other.
use Rattle.std.specs.Prelude.{◌≡◌, ℕ, ◌+◌, ⊤, List, [], ◌∷◌, true, false, Option, Some, None, Result, Ok, Err}
use Rattle.pus_messages.specs.declared.message.ReportBody.{ReportBody}
use Rattle.hk_world.specs.declared.moment.Moment.{Moment}
use Rattle.hk_world.specs.declared.moment.Act.TheVariants.{Executed}
use Rattle.board_steps.specs.Cores.{Core, session}
use Rattle.board_steps.specs.Plans.{Topic}
use Rattle.board_steps.specs.Steps.{IsAbout, is_full, is_late}
use Rattle.board_steps.specs.declared.event.BoardFault.{BoardFault}
use Rattle.board_steps.specs.declared.event.BoardFault.TheVariants.{JournalFull, TimeExhausted, Memory}
use Rattle.board_steps.specs.declared.event.Event.TheVariants.{Work}
use Rattle.board_state.specs.declared.running.Running.{Running}
use Rattle.board_core.specs.Effects.{is_done, progress_of}
use Rattle.board_core.specs.Logs.{IsAdded, IsDraft, IsWritable}
use Rattle.board_core.specs.Planned.{log_of}
use Rattle.board_core.specs.declared.effect.Effect.{Effect}
use Rattle.board_core.specs.declared.log.Draft.{Draft}

-- the first moment of the next instruction of a request, with the report on it if one is due
abbrev pub IsExecutedBy : Core → Running → Effect → Moment → Type 0
IsExecutedBy c w e m = IsAdded c.tailoring c.clock c.moments (Executed w.number (w.executed + 1) (is_done e)) (progress_of w (w.executed + 1) e) m

-- the first moment is drafted, and there is room and time for all
pub record IsFirstDrafted (c : Core) (w : Running) (e : Effect) (d : Draft) : Type 0 where
  pub room : is_full c Work ≡ false
  pub time : is_late c Work ≡ false
  pub moment : Moment
  pub executed : IsExecutedBy c w e moment
  pub moments : d.moments.items ≡ moment ∷ []
  pub draft : IsDraft (log_of c) d
  pub clock_is : d.clock ≡ c.clock

-- what is answered where the first moment is drafted
abbrev pub AnswersFirst : Core → Running → Effect → Result Draft BoardFault → Type 0
AnswersFirst c w e (Ok d) = IsFirstDrafted c w e d
AnswersFirst c w e (Err JournalFull) = is_full c Work ≡ true
AnswersFirst c w e (Err TimeExhausted) = (is_full c Work ≡ false) × (is_late c Work ≡ true)
AnswersFirst c w e (Err Memory) = ⊤

-- the report that is ordered, told behind the first moment at a tag
abbrev pub IsToldAfter : Core → Moment → ℕ → List Topic → Option ReportBody → Type 0
IsToldAfter c m tag [] None = ⊤
IsToldAfter c m tag (topic ∷ topics) (Some body) = IsWritable c.tailoring body × IsAbout (session c) c.slot_now (m ∷ c.moments) tag topic body
IsToldAfter c m tag _ _ = ⊥
