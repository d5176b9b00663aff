-- The texts of the answers that the programs share.
use Rattle.std.specs.Prelude.{ℕ, List, ◌++◌, codes}
use Rattle.std.specs.Fmt.{decimal}
use Rattle.hk_tailoring.specs.Texts.{fault_text as text_of_tailoring}
use Rattle.hk_tailoring.specs.declared.fault.TailoringFault.{TailoringFault}
use Rattle.session_record.specs.declared.entry.RecordFault.{RecordFault}
use Rattle.session_record.specs.declared.entry.RecordFault.TheVariants as fault

-- the text of a fault of the tailoring
abbrev pub tailoring_text : TailoringFault → List ℕ
tailoring_text f = codes "tailoring: " ++ text_of_tailoring f

-- the text of a line that is refused
abbrev pub line_text : ℕ → List ℕ
line_text line = codes "line " ++ decimal line

-- the text of a fault of the format of a record
abbrev pub format_text : RecordFault → List ℕ
format_text fault.BadMagic = codes "record: bad magic"
format_text (fault.BadKind octet offset) = codes "record: bad kind " ++ (decimal octet ++ (codes " at " ++ decimal offset))
format_text (fault.Cut offset) = codes "record: cut at " ++ decimal offset
format_text (fault.TooLong offset) = codes "record: too long at " ++ decimal offset
format_text (fault.TooManyEntries offset) = codes "record: too many entries at " ++ decimal offset
format_text fault.ReadFault = codes "read fault"
format_text fault.Memory = codes "no memory"
