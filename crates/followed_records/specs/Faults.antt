-- How one fault becomes another.
use Rattle.std.specs.Prelude.{ℕ, ⊤, Result, IfErr}
use Rattle.program_edge.specs.Faults.{IsOfRecord}
use Rattle.ground_history.specs.declared.answer.SentFault.{SentFault}
use Rattle.ground_history.specs.declared.answer.SentFault.TheVariants as sent
use Rattle.session_record.specs.declared.entry.RecordFault.{RecordFault}
use Rattle.session_record.specs.declared.entry.RecordFault.TheVariants as fault
use Rattle.session_record.specs.declared.entry.WriteFault.{WriteFault}
use Rattle.session_record.specs.declared.entry.WriteFault.TheVariants as write
use Rattle.decommutator.specs.declared.fault.FollowFault.{FollowFault}
use Rattle.decommutator.specs.declared.fault.FollowFault.TheVariants.{Sent, Write}
use Rattle.session_texts.specs.declared.problem.RecordProblem.{RecordProblem}
use Rattle.session_texts.specs.declared.problem.RecordProblem.TheVariants.{Format, Entry}
use Rattle.followed_records.specs.declared.fault.FollowingFault.{FollowingFault}
use Rattle.followed_records.specs.declared.fault.FollowingFault.TheVariants.{Record, ReadFault, WriteFault as Unwritten, Memory}

-- a fault of reading the record: a failing shelf and want of memory stand alone
abbrev pub fault_of_reading : RecordFault → FollowingFault
fault_of_reading fault.ReadFault = ReadFault
fault_of_reading fault.Memory = Memory
fault_of_reading fault.BadMagic = Record (Format fault.BadMagic)
fault_of_reading (fault.BadKind octet offset) = Record (Format (fault.BadKind octet offset))
fault_of_reading (fault.Cut offset) = Record (Format (fault.Cut offset))
fault_of_reading (fault.TooLong offset) = Record (Format (fault.TooLong offset))
fault_of_reading (fault.TooManyEntries offset) = Record (Format (fault.TooManyEntries offset))

-- a request that can't stand in the entry at an offset: want of memory stands alone
abbrev pub fault_of_entry : SentFault → ℕ → FollowingFault
fault_of_entry sent.Memory offset = Memory
fault_of_entry sent.BadRequest offset = Record (Entry sent.BadRequest offset)
fault_of_entry (sent.WrongCount expected found) offset = Record (Entry (sent.WrongCount expected found) offset)
fault_of_entry (sent.Reused count) offset = Record (Entry (sent.Reused count) offset)
fault_of_entry sent.SessionFull offset = Record (Entry sent.SessionFull offset)
fault_of_entry (sent.WindowFull number) offset = Record (Entry (sent.WindowFull number) offset)

-- a fault of writing
abbrev pub fault_of_writing : WriteFault → FollowingFault
fault_of_writing write.Failed = Unwritten
fault_of_writing write.Memory = Memory

-- an entry at an offset that wasn't followed
abbrev pub fault_of_following : FollowFault → ℕ → FollowingFault
fault_of_following (Sent f) offset = fault_of_entry f offset
fault_of_following (Write f) offset = fault_of_writing f

-- what is wrong with a record itself: no failing shelf and no want of memory
abbrev pub IsOfProblem : RecordProblem → Type 0
IsOfProblem (Format fault) = IsOfRecord fault
IsOfProblem (Entry sent.Memory offset) = ⊥
IsOfProblem (Entry fault offset) = ⊤

-- what is wrong with the record, or a cause that stands alone
abbrev pub ByFollowing : FollowingFault → Type 0
ByFollowing (Record problem) = IsOfProblem problem
ByFollowing fault = ⊤

-- a record isn't followed to its end for what is wrong with it, or for a cause that stands alone
abbrev pub IsOfFollowing : {X : Type 0} → Result X FollowingFault → Type 0
IsOfFollowing result = IfErr result ByFollowing
