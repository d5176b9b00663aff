-- The number and the text of each status.
use Rattle.std.specs.Prelude.{⊤, ℕ, List, [], codes}
use Rattle.program_edge.specs.Faults.{IsOfTailoring}
use Rattle.program_edge.specs.Texts.{line_text, tailoring_text}
use Rattle.program_edge.specs.declared.fault.RunFault.{RunFault}
use Rattle.program_edge.specs.declared.fault.RunFault.TheVariants as run
use Rattle.session_record.specs.declared.entry.WriteFault.{WriteFault as Unwritten}
use Rattle.session_record.specs.declared.entry.WriteFault.TheVariants as write
use Rattle.board_steps.specs.declared.event.BoardFault.{BoardFault}
use Rattle.board_steps.specs.declared.event.BoardFault.TheVariants as fault
use Rattle.board_scripts.specs.declared.fault.ScriptFault.{ScriptFault}
use Rattle.board_scripts.specs.declared.fault.ScriptFault.TheVariants as script
use Rattle.hk_board.specs.declared.status.BoardStatus.{BoardStatus}
use Rattle.hk_board.specs.declared.status.BoardStatus.TheVariants.{Done, Usage, Tailoring, ReadFault, WriteFault, NoMemory, Script, Board}

-- the exit status of the program
abbrev pub status_number : BoardStatus → ℕ
status_number Done = 0
status_number Usage = 2
status_number (Tailoring f) = 3
status_number ReadFault = 5
status_number WriteFault = 6
status_number NoMemory = 7
status_number (Script line) = 8
status_number (Board f) = 9

-- how a run ends by a fault of reading its tailoring
abbrev pub status_of_run : RunFault → BoardStatus
status_of_run (run.Tailoring f) = Tailoring f
status_of_run run.ReadFault = ReadFault
status_of_run run.WriteFault = WriteFault
status_of_run f = NoMemory

-- how a run ends by a fault of its script: a failing shelf and want of memory have statuses of their own
abbrev pub status_of_script : ScriptFault → BoardStatus
status_of_script (script.Line line) = Script line
status_of_script script.ReadFault = ReadFault
status_of_script script.Memory = NoMemory

-- how a run ends by a fault of writing
abbrev pub status_of_writing : Unwritten → BoardStatus
status_of_writing write.Failed = WriteFault
status_of_writing write.Memory = NoMemory

-- how a run ends by a fault of the board: want of memory has a status of its own
abbrev pub status_of_board : BoardFault → BoardStatus
status_of_board fault.Memory = NoMemory
status_of_board fault.JournalFull = Board fault.JournalFull
status_of_board fault.TimeExhausted = Board fault.TimeExhausted

-- the text of a fault of the board
abbrev pub board_text : BoardFault → List ℕ
board_text fault.JournalFull = codes "board: journal full"
board_text fault.TimeExhausted = codes "board: time exhausted"
board_text fault.Memory = codes "no memory"

-- what is printed of a status
abbrev pub fault_text : BoardStatus → List ℕ
fault_text Done = []
fault_text Usage = codes "usage"
fault_text (Tailoring f) = tailoring_text f
fault_text ReadFault = codes "read fault"
fault_text WriteFault = codes "write fault"
fault_text NoMemory = codes "no memory"
fault_text (Script line) = line_text line
fault_text (Board f) = board_text f

-- a fault of the board that isn't want of memory
abbrev pub IsOfBoard : BoardFault → Type 0
IsOfBoard fault.Memory = ⊥
IsOfBoard f = ⊤

-- a failing shelf and want of memory never stand within another status
abbrev pub IsPlain : BoardStatus → Type 0
IsPlain (Tailoring f) = IsOfTailoring f
IsPlain (Board f) = IsOfBoard f
IsPlain status = ⊤
