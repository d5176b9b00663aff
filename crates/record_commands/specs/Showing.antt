-- A line for each entry of a record, written before the next entry is read.
use Rattle.std.specs.Prelude.{◌≡◌, ⊤, ℕ, ◌≤◌, List, [], ◌++◌, length, flat_map, Option, Some, None, Result, Ok, Err, IfSome, IsSome}
use Rattle.hk_base.specs.TailoringParts.{TailoringParts}
use Rattle.session_record.specs.Records.{Entries, fault_in, read_record, record_fault}
use Rattle.session_record.specs.Reading.{Reading, to_come}
use Rattle.session_record.specs.declared.header.Header.{Header}
use Rattle.session_record.specs.declared.entry.Entry.{Entry}
use Rattle.session_record.specs.declared.entry.RecordFault.{RecordFault}
use Rattle.session_record.specs.declared.entry.RecordFault.TheVariants.{ReadFault, Memory}
use Rattle.program_edge.specs.declared.fault.RunFault.{RunFault}
use Rattle.program_edge.specs.declared.fault.RunFault.TheVariants as run
use Rattle.record_commands.specs.Lines.{entry_line}
use Rattle.session_record.specs.Written.{IsWritten, IsPrefixWritten}

-- the lines of entries
abbrev pub lines_of : TailoringParts → List (ℕ × Entry) → List ℕ
lines_of t entries = flat_map (λ x. entry_line t x.1) entries

-- the lines of the entries before the first fault of what is still to come
abbrev pub lines_to_come : TailoringParts → Result (Header × Entries) RecordFault → List ℕ
lines_to_come t (Err fault) = []
lines_to_come t (Ok x) = lines_of t x.1.list

-- the lines of the entries of octets that are to be a record, up to its first fault
unfoldable pub show_text : TailoringParts → List ℕ → List ℕ
show_text t octets = lines_to_come t (read_record octets)

-- what holds where the shelf tells the octets that it has left, and the sink's room is told and enough for all their lines
abbrev pub WithRoom : TailoringParts → Option (List ℕ) → Option ℕ → Type 0 → Type 0
WithRoom t left before Claim = IfSome left (λ octets. IfSome before (λ room. length (show_text t octets) ≤ room → Claim))

-- the lines were written of every entry whose octets the shelf gave in full before it failed
abbrev pub IsShownAsGiven : TailoringParts → List ℕ → Option (List ℕ) → Option (List ℕ) → Option (List ℕ) → Type 0
IsShownAsGiven t octets left before after = IfSome left (λ rest. (given : List ℕ) × (octets ≡ given ++ rest) × IsWritten before (show_text t given) after) × IsSome left

-- What was written of octets, by how showing them ended: the lines of all entries; of all before the record's first fault; of those that the shelf gave in full; or a first part of them.
abbrev pub Shows : Result Unit RunFault → TailoringParts → List ℕ → Option (List ℕ) → Option (List ℕ) → Option (List ℕ) → Type 0
Shows (Ok done) t octets left before after = (record_fault octets ≡ None) × IsWritten before (show_text t octets) after
Shows (Err run.WriteFault) t octets left before after = IsPrefixWritten before (show_text t octets) after
Shows (Err run.ReadFault) t octets left before after = IsShownAsGiven t octets left before after × IsPrefixWritten before (show_text t octets) after
Shows (Err run.NoMemory) t octets left before after = IsPrefixWritten before (show_text t octets) after
Shows (Err (run.Record fault)) t octets left before after = (record_fault octets ≡ Some fault) × IsWritten before (show_text t octets) after
Shows (Err fault) t octets left before after = ⊥

-- What an answer says of what was to come, where the shelf had `was` left and has `now`: its first line, whatever follows; that no line comes any more, at the end or at a fault; or, where the shelf failed, that what it gave has no line.
abbrev pub IsFirstLine : Result (Option (List ℕ)) RecordFault → TailoringParts → Reading → List ℕ → Reading → List ℕ → Type 0
IsFirstLine (Ok (Some line)) t before was after now =
    (given : List ℕ) × (was ≡ given ++ now) × ((more : List ℕ) → lines_to_come t (to_come before (given ++ more)) ≡ line ++ lines_to_come t (to_come after more))
    × (fault_in (to_come after now) ≡ fault_in (to_come before was))
IsFirstLine (Ok None) t before was after now = (lines_to_come t (to_come before was) ≡ []) × (fault_in (to_come before was) ≡ None)
IsFirstLine (Err ReadFault) t before was after now = (given : List ℕ) × (was ≡ given ++ now) × (lines_to_come t (to_come before given) ≡ [])
IsFirstLine (Err Memory) t before was after now = ⊤
IsFirstLine (Err fault) t before was after now = (lines_to_come t (to_come before was) ≡ []) × (fault_in (to_come before was) ≡ Some fault)

-- where the shelf told what it had left: it still does, and the answer is the first line of what was to come
abbrev pub TakesLine : Result (Option (List ℕ)) RecordFault → TailoringParts → Reading → Option (List ℕ) → Reading → Option (List ℕ) → Type 0
TakesLine result t before rest after left = IfSome rest (λ was. IfSome left (λ now. IsFirstLine result t before was after now) × IsSome left)
