-- How one fault becomes another, and which can stand in an answer.
use Rattle.std.specs.Prelude.{⊤, Result, IfErr}
use Rattle.hk_tailoring.specs.declared.fault.TailoringFault.{TailoringFault}
use Rattle.hk_tailoring.specs.declared.fault.TailoringFault.TheVariants.{Memory}
use Rattle.session_record.specs.declared.entry.RecordFault.{RecordFault}
use Rattle.session_record.specs.declared.entry.RecordFault.TheVariants as record_fault
use Rattle.session_record.specs.declared.entry.WriteFault.{WriteFault as Unwritten}
use Rattle.session_record.specs.declared.entry.WriteFault.TheVariants as write
use Rattle.program_edge.specs.declared.fault.RunFault.{RunFault}
use Rattle.program_edge.specs.declared.fault.RunFault.TheVariants.{Tailoring, Record, Line, ReadFault, WriteFault, NoMemory}

-- a fault of a tailoring: want of memory is a fault of its own
abbrev pub fault_of_tailoring : TailoringFault → RunFault
fault_of_tailoring Memory = NoMemory
fault_of_tailoring fault = Tailoring fault

-- a fault of reading a record: a failing shelf and want of memory are faults of their own
abbrev pub fault_of_record : RecordFault → RunFault
fault_of_record record_fault.ReadFault = ReadFault
fault_of_record record_fault.Memory = NoMemory
fault_of_record record_fault.BadMagic = Record record_fault.BadMagic
fault_of_record (record_fault.BadKind octet offset) = Record (record_fault.BadKind octet offset)
fault_of_record (record_fault.Cut offset) = Record (record_fault.Cut offset)
fault_of_record (record_fault.TooLong offset) = Record (record_fault.TooLong offset)
fault_of_record (record_fault.TooManyEntries offset) = Record (record_fault.TooManyEntries offset)

-- a fault of writing
abbrev pub fault_of_writing : Unwritten → RunFault
fault_of_writing write.Failed = WriteFault
fault_of_writing write.Memory = NoMemory

-- a fault of a tailoring that isn't want of memory
abbrev pub IsOfTailoring : TailoringFault → Type 0
IsOfTailoring Memory = ⊥
IsOfTailoring fault = ⊤

-- a fault of a record's octets
abbrev pub IsOfRecord : RecordFault → Type 0
IsOfRecord record_fault.ReadFault = ⊥
IsOfRecord record_fault.Memory = ⊥
IsOfRecord fault = ⊤

-- a failing shelf, or want of memory
abbrev pub ByInput : RunFault → Type 0
ByInput ReadFault = ⊤
ByInput NoMemory = ⊤
ByInput fault = ⊥

-- these, or a fault of a tailoring
abbrev pub ByTailoring : RunFault → Type 0
ByTailoring (Tailoring fault) = IsOfTailoring fault
ByTailoring fault = ByInput fault

-- these, or a line that is refused
abbrev pub ByLines : RunFault → Type 0
ByLines (Line line) = ⊤
ByLines fault = ByInput fault

-- these, or a fault of a record's octets, or a failing sink
abbrev pub ByRecord : RunFault → Type 0
ByRecord (Record fault) = IsOfRecord fault
ByRecord WriteFault = ⊤
ByRecord fault = ByInput fault

-- reading an input whole ends early by a failing shelf or for want of memory alone
abbrev pub IsOfInput : {X : Type 0} → Result X RunFault → Type 0
IsOfInput result = IfErr result ByInput

-- reading a tailoring ends early by a fault of it too
abbrev pub IsOfTailoringRead : {X : Type 0} → Result X RunFault → Type 0
IsOfTailoringRead result = IfErr result ByTailoring

-- reading lines ends early by a line that is refused too
abbrev pub IsOfLines : {X : Type 0} → Result X RunFault → Type 0
IsOfLines result = IfErr result ByLines

-- reading a record and writing of it ends early by a fault of its octets, by the outside or for want of memory
abbrev pub IsOfRecordRun : {X : Type 0} → Result X RunFault → Type 0
IsOfRecordRun result = IfErr result ByRecord
