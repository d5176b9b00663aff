-- What the files of a run hold, and what comes of it.
use Rattle.std.specs.Prelude.{◌≡◌, ◌⊎◌, ⊤, ℕ, List, Option, Some, None, Result, Ok, Err}
use Rattle.std.specs.Option.{option_map}
use Rattle.hk_base.specs.TailoringParts.{TailoringParts}
use Rattle.hk_tailoring.specs.declared.fault.TailoringFault.{TailoringFault}
use Rattle.program_edge.specs.Tailorings.{octets_of, HasReadFile, IsAbsent, IsAbsentFile, StandsFor}
use Rattle.board_scripts.specs.Scripts.{script_in}
use Rattle.board_scripts.specs.declared.script.Script.{Script}
use Rattle.hk_board.specs.Words.{Command}
use Rattle.hk_board.specs.declared.status.BoardStatus.{BoardStatus}
use Rattle.hk_board.specs.declared.status.BoardStatus.TheVariants as status

-- What a run comes to by its inputs: the status by which it ends before it begins, or a script that is run under a tailoring.
pub data Outcome : Type 0 where
  stopped : BoardStatus → Outcome
  runs : TailoringParts → Script → Outcome

-- the outcome of a script that was read
abbrev pub script_outcome : TailoringParts → Result Script ℕ → Outcome
script_outcome t (Ok s) = runs t s
script_outcome t (Err line) = stopped (status.Script line)

-- the outcome of a script under what is meant by the tailoring, whose fault comes before the script is looked for
abbrev pub outcome_under : Option (List ℕ) → Result TailoringParts TailoringFault → Option Outcome
outcome_under octets (Ok t) = option_map (λ o. script_outcome t (script_in t o)) octets
outcome_under octets (Err fault) = Some (stopped (status.Tailoring fault))

-- a script of these octets tells an outcome under a tailoring
abbrev pub TellsUnder : TailoringParts → Option (List ℕ) → Outcome → Type 0
TellsUnder t octets outcome = option_map (λ o. script_outcome t (script_in t o)) octets ≡ Some outcome

-- the files tell the outcome of a command
abbrev pub Tells : Option (List (List ℕ × List ℕ)) → Command → Outcome → Type 0
Tells files command outcome =
    (meant : Result TailoringParts TailoringFault) × StandsFor files command.tailoring meant × (outcome_under (octets_of files command.script) meant ≡ Some outcome)

-- the same of words, if they are a command
abbrev pub TellsOf : Option (List (List ℕ × List ℕ)) → Option Command → Outcome → Type 0
TellsOf files None outcome = ⊥
TellsOf files (Some command) outcome = Tells files command outcome

-- where the shelf tells its files: the script was read to its end
abbrev pub HasReadAllOf : Option (List (List ℕ × List ℕ)) → Option Command → Option (List ℕ) → Type 0
HasReadAllOf files None left = ⊥
HasReadAllOf files (Some command) left = HasReadFile files left

-- the shelf tells its files, and a named input isn't among them
abbrev pub LacksInputOf : Option (List (List ℕ × List ℕ)) → Option Command → Type 0
LacksInputOf files None = ⊥
LacksInputOf files (Some command) = IsAbsent files command.tailoring ⊎ IsAbsentFile files command.script

-- a run ends without an input: it couldn't be selected, or memory ran out, or the tailoring is there and has the fault that it is told to have
abbrev pub EndsWithoutInput : Option (List (List ℕ × List ℕ)) → Command → BoardStatus → Type 0
EndsWithoutInput files command status.ReadFault = ⊤
EndsWithoutInput files command status.NoMemory = ⊤
EndsWithoutInput files command (status.Tailoring fault) =
    (IsAbsent files command.tailoring → ⊥) × ((meant : Result TailoringParts TailoringFault) → StandsFor files command.tailoring meant → meant ≡ Err fault)
EndsWithoutInput files command status = ⊥

-- the same of words
abbrev pub EndsWithoutInputOf : Option (List (List ℕ × List ℕ)) → Option Command → BoardStatus → Type 0
EndsWithoutInputOf files None status = ⊥
EndsWithoutInputOf files (Some command) status = EndsWithoutInput files command status
