-- What a run wrote.
use Rattle.std.specs.Prelude.{◌≡◌, ◌≤◌, ⊤, ◌⊎◌, ℕ, List, ◌∷◌, length, Option, Some}
use Rattle.hk_base.specs.TailoringParts.{TailoringParts}
use Rattle.hk_base.specs.declared.outside.Sensor.{Ghosts}
use Rattle.hk_world.specs.declared.moment.Moment.{Moment}
use Rattle.session_record.specs.Written.{IsWritten, IsPrefixWritten}
use Rattle.board_steps.specs.Cores.{Core}
use Rattle.board_steps.specs.SlotRuns.{Ahead, IsStopped}
use Rattle.board_steps.specs.declared.event.BoardFault.{BoardFault}
use Rattle.board_scripts.specs.declared.script.Script.{Script}
use Rattle.board_runs.specs.Runs.{IsRecordOfRun, IsRecordOfCut, record_of}
use Rattle.board_runs.specs.Samplers.{AreCounted}
use Rattle.hk_board.specs.Inputs.{Outcome, stopped, runs}
use Rattle.hk_board.specs.Progress.{IsSampledRun, IsSampledCut, IsRecordUpTo}
use Rattle.hk_board.specs.declared.status.BoardStatus.{BoardStatus}
use Rattle.hk_board.specs.declared.status.BoardStatus.TheVariants.{Done, Usage, Tailoring, ReadFault, WriteFault, NoMemory, Script as BadScript, Board}

-- A run that ended before it wrote anything, by its outcome. A failing shelf and want of memory end any run.
abbrev pub EndsWith : BoardStatus → Outcome → Type 0
EndsWith ReadFault outcome = ⊤
EndsWith NoMemory outcome = ⊤
EndsWith status (stopped known) = status ≡ known
EndsWith status (runs t s) = ⊥

module _ {S : Type 0} (g : Ghosts S) (was : List S) where
  -- All of a run was written, and as many orders as are without a filing, the sensors' counts of faults rose by.
  abbrev pub HasRunAll : TailoringParts → Script → List S → Option (List ℕ) → Option (List ℕ) → Type 0
  HasRunAll t s is before after =
      (slots : List (List Moment)) × (c : Core) × IsSampledRun g t s was slots c × AreCounted g t was is slots × IsWritten before (record_of t s slots) after

  -- all of a run up to a step was written, whose next step is refused with this fault
  abbrev pub HasRunUpTo : TailoringParts → Script → BoardFault → Option (List ℕ) → Option (List ℕ) → Type 0
  HasRunUpTo t s fault before after =
      (slots : List (List Moment)) × (moments : List Moment) × (ahead : Ahead) × (c : Core) × IsSampledCut g t s was slots moments ahead c × IsStopped ahead c fault
      × IsWritten before (record_of t s (moments ∷ slots)) after

  -- a first part of a run, or of a run up to a step, was written, or nothing
  abbrev pub HasRunInPart : TailoringParts → Script → Option (List ℕ) → Option (List ℕ) → Type 0
  HasRunInPart t s before after = (after ≡ before) ⊎ ((text : List ℕ) × IsRecordUpTo g t s was text × IsPrefixWritten before text after)

  -- what was written, by how the run ended and what its inputs come to, with the sensors as they are then
  abbrev pub HasOutput : List S → BoardStatus → Outcome → Option (List ℕ) → Option (List ℕ) → Type 0
  HasOutput is Done (runs t s) before after = HasRunAll t s is before after
  HasOutput is (Board fault) (runs t s) before after = HasRunUpTo t s fault before after
  HasOutput is WriteFault (runs t s) before after = HasRunInPart t s before after
  HasOutput is NoMemory (runs t s) before after = HasRunInPart t s before after
  HasOutput is status outcome before after = EndsWith status outcome × (after ≡ before)

-- nothing was written with most statuses, whatever the shelf tells
abbrev pub WritesNothing : BoardStatus → Option (List ℕ) → Option (List ℕ) → Type 0
WritesNothing Done before after = ⊤
WritesNothing WriteFault before after = ⊤
WritesNothing NoMemory before after = ⊤
WritesNothing (Board fault) before after = ⊤
WritesNothing status before after = after ≡ before

-- a sink tells that it has room for each run of a script, whole or up to a step
abbrev pub HasRoomFor : Option ℕ → Outcome → Type 0
HasRoomFor room (stopped known) = ⊤
HasRoomFor room (runs t s) = (n : ℕ) × (room ≡ Some n) × ((text : List ℕ) → IsRecordOfRun t s text ⊎ IsRecordOfCut t s text → length text ≤ n)
