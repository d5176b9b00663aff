-- Which fault a fault comes of. Crates above use it too.
use Rattle.std.proofs.Common.{◌≡◌, Result, Err, refl, ap}
use Rattle.session_record.specs.declared.entry.RecordFault.{RecordFault}
use Rattle.session_record.specs.declared.entry.RecordFault.TheVariants as record_fault
use Rattle.hk_tailoring.specs.declared.fault.TailoringFault.{TailoringFault}
use Rattle.hk_tailoring.specs.declared.fault.TailoringFault.TheVariants as tailoring
use Rattle.program_edge.specs.Faults.{fault_of_record, fault_of_tailoring, ByRecord, ByTailoring}
use Rattle.program_edge.specs.declared.fault.RunFault.{RunFault}
use Rattle.program_edge.specs.declared.fault.RunFault.TheVariants.{ReadFault, WriteFault}

-- a failing shelf is told by a failing shelf alone
pub read_alone : (f : RecordFault) → fault_of_record f ≡ ReadFault → f ≡ record_fault.ReadFault
read_alone record_fault.ReadFault is = refl
read_alone record_fault.Memory is = absurd (cc is)
read_alone record_fault.BadMagic is = absurd (cc is)
read_alone (record_fault.BadKind octet offset) is = absurd (cc is)
read_alone (record_fault.Cut offset) is = absurd (cc is)
read_alone (record_fault.TooLong offset) is = absurd (cc is)
read_alone (record_fault.TooManyEntries offset) is = absurd (cc is)

-- reading tells nothing of a sink
pub unwritten : (f : RecordFault) → fault_of_record f ≡ WriteFault → ⊥
unwritten record_fault.ReadFault is = cc
unwritten record_fault.Memory is = cc
unwritten record_fault.BadMagic is = cc
unwritten (record_fault.BadKind octet offset) is = cc
unwritten (record_fault.Cut offset) is = cc
unwritten (record_fault.TooLong offset) is = cc
unwritten (record_fault.TooManyEntries offset) is = cc

-- a fault of a record is one of its octets, or stands alone
pub of_record_run : (f : RecordFault) → ByRecord (fault_of_record f)
of_record_run record_fault.ReadFault = tt
of_record_run record_fault.Memory = tt
of_record_run record_fault.BadMagic = tt
of_record_run (record_fault.BadKind octet offset) = tt
of_record_run (record_fault.Cut offset) = tt
of_record_run (record_fault.TooLong offset) = tt
of_record_run (record_fault.TooManyEntries offset) = tt

-- a fault of a tailoring is one of it, or want of memory, which stands alone
pub of_tailoring : (f : TailoringFault) → ByTailoring (fault_of_tailoring f)
of_tailoring tailoring.Memory = tt
of_tailoring tailoring.NotToml = tt
of_tailoring (tailoring.MissingKey p) = tt
of_tailoring (tailoring.WrongKind p) = tt
of_tailoring (tailoring.OutOfRange p v) = tt
of_tailoring (tailoring.RepeatedParam n) = tt
of_tailoring (tailoring.UnknownParam n) = tt
of_tailoring (tailoring.RepeatedStructure k) = tt
of_tailoring (tailoring.BadRepetition r n) = tt
of_tailoring (tailoring.TooWide n) = tt
of_tailoring (tailoring.Doubled n) = tt
of_tailoring (tailoring.UnknownKey p) = tt
of_tailoring tailoring.TooLong = tt

-- a tailoring tells nothing of a shelf
pub tailoring_unread : (f : TailoringFault) → fault_of_tailoring f ≡ ReadFault → ⊥
tailoring_unread tailoring.Memory is = cc
tailoring_unread tailoring.NotToml is = cc
tailoring_unread (tailoring.MissingKey p) is = cc
tailoring_unread (tailoring.WrongKind p) is = cc
tailoring_unread (tailoring.OutOfRange p v) is = cc
tailoring_unread (tailoring.RepeatedParam n) is = cc
tailoring_unread (tailoring.UnknownParam n) is = cc
tailoring_unread (tailoring.RepeatedStructure k) is = cc
tailoring_unread (tailoring.BadRepetition r n) is = cc
tailoring_unread (tailoring.TooWide n) is = cc
tailoring_unread (tailoring.Doubled n) is = cc
tailoring_unread (tailoring.UnknownKey p) is = cc
tailoring_unread tailoring.TooLong is = cc

-- two errors that are the same are of the same fault
pub same_err : {T E : Type 0} (a b : E) → ◌≡◌ {A = Result T E} (Err a) (Err b) → a ≡ b
same_err a b e = cc

-- a failing shelf is told of by a failing shelf alone
pub read_err : {T U : Type 0} (f : RecordFault) → ◌≡◌ {A = Result T RunFault} (Err (fault_of_record f)) (Err ReadFault) → ◌≡◌ {A = Result U RecordFault} (Err f) (Err record_fault.ReadFault)
read_err f is = ap Err (read_alone f (same_err (fault_of_record f) ReadFault is))
