-- What a run of the program comes to, by its command and by what its shelf and its sink tell before and after.
use Rattle.std.specs.Prelude.{◌≡◌, ◌≤◌, ◌↔◌, ℕ, List, Option, None, IfSome, length}
use Rattle.hk_base.specs.Outside.{HasRisen}
use Rattle.hk_base.specs.TailoringParts.{TailoringParts}
use Rattle.hk_replay.specs.Words.{Command}
use Rattle.hk_replay.specs.Faults.{IsPlain}
use Rattle.hk_replay.specs.Outcomes.{Outcome, outcome_text}
use Rattle.hk_replay.specs.Replay.{HasOutput, WritesNothing}
use Rattle.hk_replay.specs.Inputs.{TellsOf, NamesRecord, HasGivenOf, HasReadAllOf, MovesShelfOf, LacksInputOf, EndsWithoutInputOf}
use Rattle.hk_replay.specs.declared.status.ReplayStatus.{ReplayStatus}
use Rattle.hk_replay.specs.declared.status.ReplayStatus.TheVariants.{Done, Usage, ReadFault, WriteFault}

-- Each rule of a run on its own: of the shelf its files, whether it is sound, its count of faults and what it has left; of the sink what it took, its room and its count of faults.
pub record IsProgramRun (command : Option Command) (status : ReplayStatus) (files : Option (List (List ℕ × List ℕ))) (is_sound : Type 0) (faults faults_after : ℕ)
    (rest left taken after : Option (List ℕ)) (room : Option ℕ) (unwritten unwritten_after : ℕ) : Type 0 where
  pub usage : (status ≡ Usage) ↔ (command ≡ None)
  pub read_fault : status ≡ ReadFault → HasRisen faults faults_after
  pub write_fault : status ≡ WriteFault → HasRisen unwritten unwritten_after
  pub plain : IsPlain status
  pub end : status ≡ Done → HasReadAllOf files command left
  pub bounds : MovesShelfOf files command rest left
  pub absent : LacksInputOf files command → EndsWithoutInputOf files command status × (after ≡ taken)
  pub nothing : WritesNothing command status taken after
  pub output : (outcome : Outcome) → TellsOf files command outcome → HasOutput status outcome taken after
  pub given : (t : TailoringParts) (octets : List ℕ) → NamesRecord files command t octets → status ≡ ReadFault → HasGivenOf files command t octets rest left taken after
  pub sound : is_sound → (outcome : Outcome) → TellsOf files command outcome → faults_after ≡ faults
  pub enough : (outcome : Outcome) → TellsOf files command outcome → IfSome room (λ most. length (outcome_text outcome) ≤ most → unwritten_after ≡ unwritten)
