-- What a run comes to, by what its inputs tell, and by what its shelf and its sink tell before and after.
use Rattle.std.specs.Prelude.{◌≡◌, ℕ, List, Option, Result, Ok, Err}
use Rattle.hk_base.specs.Outside.{HasRisen}
use Rattle.hk_base.specs.TailoringParts.{TailoringParts}
use Rattle.hk_base.specs.declared.outside.Sensor.{Ghosts}
use Rattle.board_steps.specs.declared.event.BoardFault.{BoardFault}
use Rattle.board_scripts.specs.declared.script.Script.{Script}
use Rattle.board_runs.specs.Bounds.{HasRoom}
use Rattle.hk_board.specs.Faults.{IsPlain}
use Rattle.hk_board.specs.Inputs.{Outcome, runs}
use Rattle.hk_board.specs.Outputs.{HasOutput, HasRoomFor, WritesNothing}
use Rattle.hk_board.specs.declared.status.BoardStatus.{BoardStatus}
use Rattle.hk_board.specs.declared.status.BoardStatus.TheVariants.{Done, Usage, ReadFault, WriteFault, Board}

-- how a run ends
abbrev pub status_of : Result Unit BoardStatus → BoardStatus
status_of (Ok done) = Done
status_of (Err status) = status

-- Each rule of a run on its own: of the shelf whether it is sound and its count of faults; of the sink what it took, its room and its count of faults.
pub record IsBoardRun {S : Type 0} (g : Ghosts S) (was is : List S) (Tells : Outcome → Type 0) (status : BoardStatus) (is_sound : Type 0) (faults faults_after : ℕ)
    (taken after : Option (List ℕ)) (room : Option ℕ) (unwritten unwritten_after : ℕ) : Type 0 where
  pub used : status ≡ Usage → ⊥
  pub read_fault : status ≡ ReadFault → HasRisen faults faults_after
  pub write_fault : status ≡ WriteFault → HasRisen unwritten unwritten_after
  pub plain : IsPlain status
  pub bounded : (t : TailoringParts) (s : Script) → Tells (runs t s) → HasRoom t s → (fault : BoardFault) → status ≡ Board fault → ⊥
  pub nothing : WritesNothing status taken after
  pub output : (outcome : Outcome) → Tells outcome → HasOutput g was is status outcome taken after
  pub sound : is_sound → (outcome : Outcome) → Tells outcome → faults_after ≡ faults
  pub enough : (outcome : Outcome) → Tells outcome → HasRoomFor room outcome → unwritten_after ≡ unwritten
