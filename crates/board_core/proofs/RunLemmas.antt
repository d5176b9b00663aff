-- What answers make of runs.
use Rattle.std.proofs.Common.{◌≡◌, ℕ, List, Ok, Err, sym, subst}
use Rattle.hk_base.specs.TailoringParts.{TailoringParts}
use Rattle.board_steps.specs.Cores.{Core}
use Rattle.board_steps.specs.Runs.{IsMade, IsRun}
use Rattle.board_steps.specs.Steps.{Answers, IsEvent}
use Rattle.board_steps.specs.declared.event.BoardFault.{BoardFault}
use Rattle.board_steps.specs.declared.event.BoardFault.TheVariants.{JournalFull, TimeExhausted, Memory}
use Rattle.board_steps.specs.declared.event.Event.{Event}

-- a step that gives a number was made
pub answers-made : (before : Core) (event : Event) (after : Core) (count : ℕ) → IsEvent before event → Answers before event after (Ok count) → IsMade before event after
answers-made before event after count comes h = record { comes = comes; room = h.0; time = h.1; step = h.3 }

-- a step that answers a fault leaves the core as it was
pub refused-same : (before : Core) (event : Event) (after : Core) (fault : BoardFault) → Answers before event after (Err fault) → after ≡ before
refused-same before event after JournalFull h = h.1
refused-same before event after TimeExhausted h = h.2
refused-same before event after Memory h = h

-- so it has the run that it had
pub refused-run : (t : TailoringParts) (earlier : List Event) (before : Core) (event : Event) (after : Core) (fault : BoardFault) → IsRun t earlier before
    → Answers before event after (Err fault) → IsRun t earlier after
refused-run t earlier before event after fault run h = subst (IsRun t earlier) (sym (refused-same before event after fault h)) run
