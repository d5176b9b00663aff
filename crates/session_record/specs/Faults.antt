-- Faults of a record's octets, and of reading them.
use Rattle.std.specs.Prelude.{Bool, true, false, Option, Some, None}
use Rattle.session_record.specs.declared.entry.RecordFault.{RecordFault}
use Rattle.session_record.specs.declared.entry.RecordFault.TheVariants.{BadMagic, Cut, ReadFault, Memory}

-- an entry isn't all there
abbrev pub is_cut : RecordFault → Bool
is_cut (Cut offset) = true
is_cut fault = false

-- a fault of the octets, which is answered from then on
abbrev pub lasting : RecordFault → Option RecordFault
lasting ReadFault = None
lasting Memory = None
lasting fault = Some fault

-- a fault that isn't one of the octets
abbrev pub IsReadError : RecordFault → Type 0
IsReadError ReadFault = Unit {0}
IsReadError Memory = Unit {0}
IsReadError fault = ⊥

-- a fault of an entry
abbrev pub IsEntryFault : RecordFault → Type 0
IsEntryFault BadMagic = ⊥
IsEntryFault ReadFault = ⊥
IsEntryFault Memory = ⊥
IsEntryFault fault = Unit {0}
