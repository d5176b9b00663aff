-- What a board has done after any events.
use Rattle.std.specs.Prelude.{◌≡◌, List, [], ◌∷◌, false}
use Rattle.hk_base.specs.TailoringParts.{TailoringParts}
use Rattle.board_steps.specs.Cores.{Core, new_core}
use Rattle.board_steps.specs.Steps.{IsStep, IsEvent, is_full, is_late}
use Rattle.board_steps.specs.declared.event.Event.{Event}

-- a step that was made: the event may come, the journal has room, and the tags are ones that packets can carry
pub record IsMade (before : Core) (event : Event) (after : Core) : Type 0 where
  pub comes : IsEvent before event
  pub room : is_full before event ≡ false
  pub time : is_late before event ≡ false
  pub step : IsStep before event after

-- a core after these events, the newest first, from a new one of a tailoring; an event that is refused changes nothing, and isn't among them
abbrev pub IsRun : TailoringParts → List Event → Core → Type 0
IsRun t [] c = c ≡ new_core t
IsRun t (event ∷ earlier) c = (before : Core) × IsRun t earlier before × IsMade before event c
