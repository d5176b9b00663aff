-- The number and the text of each status.
use Rattle.std.specs.Prelude.{⊤, ℕ, List, [], ◌++◌, codes}
use Rattle.std.specs.Fmt.{decimal}
use Rattle.session_record.specs.declared.entry.RecordFault.{RecordFault}
use Rattle.session_record.specs.declared.entry.RecordFault.TheVariants as fault
use Rattle.program_edge.specs.Faults.{IsOfTailoring}
use Rattle.program_edge.specs.Texts.{format_text, line_text, tailoring_text}
use Rattle.program_edge.specs.declared.fault.RunFault.{RunFault}
use Rattle.program_edge.specs.declared.fault.RunFault.TheVariants as run
use Rattle.followed_records.specs.Faults.{IsOfProblem}
use Rattle.followed_records.specs.declared.fault.FollowingFault.{FollowingFault}
use Rattle.followed_records.specs.declared.fault.FollowingFault.TheVariants as following
use Rattle.ground_history.specs.declared.answer.SentFault.{SentFault}
use Rattle.ground_history.specs.declared.answer.SentFault.TheVariants as sent
use Rattle.session_texts.specs.declared.problem.RecordProblem.{RecordProblem}
use Rattle.session_texts.specs.declared.problem.RecordProblem.TheVariants.{Format, Entry}
use Rattle.hk_replay.specs.declared.status.ReplayStatus.{ReplayStatus}
use Rattle.hk_replay.specs.declared.status.ReplayStatus.TheVariants.{Done, Usage, Tailoring, Record, ReadFault, WriteFault, NoMemory, Text}

-- the exit status of the program
abbrev pub status_number : ReplayStatus → ℕ
status_number Done = 0
status_number Usage = 2
status_number (Tailoring fault) = 3
status_number (Record problem) = 4
status_number ReadFault = 5
status_number WriteFault = 6
status_number NoMemory = 7
status_number (Text line) = 8

-- how a run ends by a cause that programs share
abbrev pub status_of_run : RunFault → ReplayStatus
status_of_run (run.Tailoring f) = Tailoring f
status_of_run (run.Record f) = Record (Format f)
status_of_run (run.Line line) = Text line
status_of_run run.ReadFault = ReadFault
status_of_run run.WriteFault = WriteFault
status_of_run run.NoMemory = NoMemory

-- how a run ends by a fault of reading the record: a failing shelf and want of memory have statuses of their own
abbrev pub status_of_fault : RecordFault → ReplayStatus
status_of_fault fault.ReadFault = ReadFault
status_of_fault fault.Memory = NoMemory
status_of_fault fault.BadMagic = Record (Format fault.BadMagic)
status_of_fault (fault.BadKind octet offset) = Record (Format (fault.BadKind octet offset))
status_of_fault (fault.Cut offset) = Record (Format (fault.Cut offset))
status_of_fault (fault.TooLong offset) = Record (Format (fault.TooLong offset))
status_of_fault (fault.TooManyEntries offset) = Record (Format (fault.TooManyEntries offset))

-- how a run ends by a request that can't stand in the entry at an offset: want of memory has a status of its own
abbrev pub status_of_entry : SentFault → ℕ → ReplayStatus
status_of_entry sent.Memory offset = NoMemory
status_of_entry sent.BadRequest offset = Record (Entry sent.BadRequest offset)
status_of_entry (sent.WrongCount expected found) offset = Record (Entry (sent.WrongCount expected found) offset)
status_of_entry (sent.Reused count) offset = Record (Entry (sent.Reused count) offset)
status_of_entry sent.SessionFull offset = Record (Entry sent.SessionFull offset)
status_of_entry (sent.WindowFull number) offset = Record (Entry (sent.WindowFull number) offset)

-- how a run ends that followed the entries before a fault
abbrev pub status_of_following : FollowingFault → ReplayStatus
status_of_following (following.Record problem) = Record problem
status_of_following following.ReadFault = ReadFault
status_of_following following.WriteFault = WriteFault
status_of_following following.Memory = NoMemory

-- the text of a request that can't stand in the entry at an offset: of two counts, the one that was found comes first
abbrev pub entry_text : SentFault → ℕ → List ℕ
entry_text sent.BadRequest offset = codes "record: bad request at " ++ decimal offset
entry_text (sent.WrongCount expected found) offset =
    codes "record: wrong count " ++ (decimal found ++ (codes " for " ++ (decimal expected ++ (codes " at " ++ decimal offset))))
entry_text (sent.Reused count) offset = codes "record: reused count " ++ (decimal count ++ (codes " at " ++ decimal offset))
entry_text sent.SessionFull offset = codes "record: session full at " ++ decimal offset
entry_text (sent.WindowFull number) offset = codes "record: window full at " ++ decimal offset
entry_text sent.Memory offset = codes "no memory"

-- the text of what is wrong with a record
abbrev pub problem_text : RecordProblem → List ℕ
problem_text (Format f) = format_text f
problem_text (Entry f offset) = entry_text f offset

-- what is printed of a status
abbrev pub fault_text : ReplayStatus → List ℕ
fault_text Done = []
fault_text Usage = codes "usage"
fault_text (Tailoring f) = tailoring_text f
fault_text (Record problem) = problem_text problem
fault_text ReadFault = codes "read fault"
fault_text WriteFault = codes "write fault"
fault_text NoMemory = codes "no memory"
fault_text (Text line) = line_text line

-- a failing shelf and want of memory never stand within another status
abbrev pub IsPlain : ReplayStatus → Type 0
IsPlain (Tailoring f) = IsOfTailoring f
IsPlain (Record problem) = IsOfProblem problem
IsPlain status = ⊤
