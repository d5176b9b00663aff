-- The moments of a step, drafted as they were planned.
use Rattle.std.specs.Prelude.{◌≡◌, ⊤, length, true, false, Result, Ok, Err}
use Rattle.board_steps.specs.Cores.{Core, session}
use Rattle.board_steps.specs.Plans.{prepared, planned}
use Rattle.board_steps.specs.Steps.{AreNext, is_full, is_late}
use Rattle.board_steps.specs.declared.event.Event.{Event}
use Rattle.board_steps.specs.declared.event.BoardFault.{BoardFault}
use Rattle.board_steps.specs.declared.event.BoardFault.TheVariants.{JournalFull, TimeExhausted, Memory}
use Rattle.board_core.specs.Logs.{LogParts, IsDraft, drafted}
use Rattle.board_core.specs.declared.log.Draft.{Draft}

-- the log of a core
abbrev pub log_of : Core → LogParts
log_of c = record { tailoring = c.tailoring; moments = c.moments }

-- a draft has the moments that are planned, for which there is room and time
pub record IsPlanned (c : Core) (event : Event) (d : Draft) : Type 0 where
  pub room : is_full c event ≡ false
  pub time : is_late c event ≡ false
  pub draft : IsDraft (log_of c) d
  pub count : length d.moments.items ≡ length (planned c event)
  pub moments : AreNext (session (prepared c event)) (prepared c event).clock c.slot_now c.moments (planned c event) (drafted (log_of c) d.moments.items)

-- what is answered where the moments of a step are drafted
abbrev pub AnswersPlan : Core → Event → Result Draft BoardFault → Type 0
AnswersPlan c event (Ok d) = IsPlanned c event d
AnswersPlan c event (Err JournalFull) = is_full c event ≡ true
AnswersPlan c event (Err TimeExhausted) = (is_full c event ≡ false) × (is_late c event ≡ true)
AnswersPlan c event (Err Memory) = ⊤
