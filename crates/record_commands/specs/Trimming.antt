-- A record, entry by entry up to its end or a cut.
use Rattle.std.specs.Prelude.{◌≡◌, ◌⊎◌, ⊤, ℕ, List, [], ◌++◌, flat_map, Option, Some, None, Result, Ok, Err, IfSome, IsSome, MatchResult}
use Rattle.session_record.specs.Records.{Entries, entry_before, entry_octets, fault_in, header_octets, read_record, record_fault}
use Rattle.session_record.specs.Reading.{Reading, to_come}
use Rattle.session_record.specs.declared.header.Header.{Header}
use Rattle.session_record.specs.declared.entry.Entry.{Entry}
use Rattle.session_record.specs.declared.entry.RecordFault.{RecordFault}
use Rattle.session_record.specs.declared.entry.RecordFault.TheVariants.{Cut, ReadFault, Memory}

-- the octets of a record's entries
abbrev pub entries_octets : List (ℕ × Entry) → List ℕ
entries_octets entries = flat_map (λ x. entry_octets x.1) entries

-- what is trimmed of entries up to a fault, if there is one: a cut is left out, and every other fault stands
abbrev pub trimmed_by : Option RecordFault → List ℕ → Result (List ℕ) RecordFault
trimmed_by None octets = Ok octets
trimmed_by (Some (Cut offset)) octets = Ok octets
trimmed_by (Some fault) octets = Err fault

-- what is trimmed of what is still to come, after these octets
abbrev pub trimmed_from : List ℕ → Result (Header × Entries) RecordFault → Result (List ℕ) RecordFault
trimmed_from before (Err fault) = Err fault
trimmed_from before (Ok x) = trimmed_by x.1.fault (before ++ entries_octets x.1.list)

-- the octets of the header that was read
abbrev pub header_read : Result (Header × Entries) RecordFault → List ℕ
header_read (Err fault) = []
header_read (Ok x) = header_octets x.0

-- what is trimmed of octets: the header and every whole entry up to the end or a cut, or the first other fault
unfoldable pub trimmed_octets : List ℕ → Result (List ℕ) RecordFault
trimmed_octets octets = trimmed_from (header_read (read_record octets)) (read_record octets)

-- An answer without octets, by what octets there were to give. A failing shelf and want of memory end any reading.
abbrev pub FailsWith : RecordFault → Result (List ℕ) RecordFault → Type 0
FailsWith ReadFault given = ⊤
FailsWith Memory given = ⊤
FailsWith fault given = given ≡ Err fault

-- what was read is what octets were to give
abbrev pub ReadsAs : {X : Type 0} → (X → List ℕ) → Result X RecordFault → Result (List ℕ) RecordFault → Type 0
ReadsAs octets (Ok x) given = given ≡ Ok (octets x)
ReadsAs octets (Err fault) given = FailsWith fault given

-- What an answer says of what was to come: its first entry, after which the rest is still to come; or that nothing whole comes any more, so that what was kept is what is trimmed; or how the reading fails.
abbrev pub IsFirstWhole : Result (Option Entry) RecordFault → Result (Header × Entries) RecordFault → Result (Header × Entries) RecordFault → Type 0
IsFirstWhole (Ok (Some e)) before after = MatchResult after (λ left. (offset : ℕ) × (before ≡ Ok (left.0, entry_before offset e left.1))) (λ f. ⊥)
IsFirstWhole (Ok None) before after = (after ≡ before) × ((kept : List ℕ) → trimmed_from kept before ≡ Ok kept)
IsFirstWhole (Err fault) before after = (kept : List ℕ) → FailsWith fault (trimmed_from kept before)

-- where the shelf told what it had left: it still does, and the answer is the first of what was to come
abbrev pub TakesWhole : Result (Option Entry) RecordFault → Reading → Option (List ℕ) → Reading → Option (List ℕ) → Type 0
TakesWhole result before rest after left = IfSome rest (λ was. IfSome left (λ now. IsFirstWhole result (to_come before was) (to_come after now)) × IsSome left)

-- what is trimmed of the octets that were kept, the next entry, and what is still to come
abbrev pub IsTrimmed : Result (List ℕ) RecordFault → List ℕ → Option Entry → Result (Header × Entries) RecordFault → Type 0
IsTrimmed given kept (Some e) rest = trimmed_from (kept ++ entry_octets e) rest ≡ given
IsTrimmed given kept None rest = Ok kept ≡ given

-- what was kept in the end is what is trimmed, or the reading fails so
abbrev pub IsKept : Result (List ℕ) RecordFault → Result Unit RecordFault → List ℕ → Type 0
IsKept given (Ok done) kept = Ok kept ≡ given
IsKept given (Err fault) kept = FailsWith fault given

-- a fault is a cut
abbrev pub IsCut : Option RecordFault → Type 0
IsCut (Some (Cut offset)) = ⊤
IsCut fault = ⊥

-- where the shelf told what it had left: nothing is left, or what it had is cut
abbrev pub IsReadTo : Option RecordFault → Option (List ℕ) → Type 0
IsReadTo fault left = (left ≡ Some []) ⊎ IsCut fault

-- where the shelf told what it had left of a record: nothing is left, or the record is cut
abbrev pub HasReadWhole : Option (List ℕ) → Option (List ℕ) → Type 0
HasReadWhole rest left = IfSome rest (λ octets. IsReadTo (record_fault octets) left)

-- What an answer says of the fault of what was to come: behind an entry it is the same one; where nothing whole comes any more, the input was read to its end, or is cut.
abbrev pub IsReadToCut : Result (Option Entry) RecordFault → Reading → Option (List ℕ) → Reading → Option (List ℕ) → Type 0
IsReadToCut (Ok None) before rest after left = IfSome rest (λ was. IsReadTo (fault_in (to_come before was)) left)
IsReadToCut (Ok (Some e)) before rest after left = IfSome rest (λ was. IfSome left (λ now. fault_in (to_come after now) ≡ fault_in (to_come before was)) × IsSome left)
IsReadToCut (Err fault) before rest after left = ⊤

-- where a first entry was kept with those behind it: the input was read to its end or a cut; where there was none, it had been
abbrev pub IsKeptTo : Option Entry → Reading → Option (List ℕ) → Option (List ℕ) → Type 0
IsKeptTo None before rest left = left ≡ rest
IsKeptTo (Some e) before rest left = IfSome rest (λ was. IsReadTo (fault_in (to_come before was)) left)
