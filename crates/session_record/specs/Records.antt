-- The octets of a record: a header and entries, each with its offset, up to the first fault.
use Rattle.std.specs.Prelude.{ℕ, zero, suc, ◌+◌, ◌≤◌, ⊤, List, [], ◌∷◌, ◌++◌, length, take, drop, flat_map, map, Bool, true, false, ◌==◌, nat_lt, Option, Some, None, Result, Ok, Err, codes, if◌then◌else◌}
use Rattle.std.specs.Str.{bytes_eq}
use Rattle.hk_base.specs.Fields.{octets_of, number_of}
pub use Rattle.session_record.specs.declared.header.Header.{Header}
use Rattle.session_record.specs.declared.entry.Entry.{Entry}
use Rattle.session_record.specs.declared.entry.Entry.TheVariants.{Sent, Got, Line}
use Rattle.session_record.specs.declared.entry.RecordFault.{RecordFault}
use Rattle.session_record.specs.declared.entry.RecordFault.TheVariants.{BadMagic, BadKind, Cut, TooLong, TooManyEntries}

-- the most entries of a record
abbrev pub most_entries : ℕ
most_entries = 1000000

-- the most octets of a record
abbrev pub most_octets : ℕ
most_octets = 268435456

-- a header
abbrev pub header_of : Bool → Bool → Header
header_of known long = record { known = known; long = long }

-- the octets of a header: a word for the kind of session, a letter for the start, and a line feed
abbrev pub header_octets : Header → List ℕ
header_octets h = (if h.long then codes "HKREC2" else codes "HKREC1") ++ ((if h.known then codes "K" else codes "U") ++ 10 ∷ [])

-- the header that octets spell
abbrev pub header_spelled : List ℕ → Option Header
header_spelled first =
    if bytes_eq first (header_octets (header_of true false)) then Some (header_of true false)
    else if bytes_eq first (header_octets (header_of false false)) then Some (header_of false false)
    else if bytes_eq first (header_octets (header_of true true)) then Some (header_of true true)
    else if bytes_eq first (header_octets (header_of false true)) then Some (header_of false true)
    else None

-- the header that octets begin with
abbrev pub header_in : List ℕ → Option Header
header_in octets = header_spelled (take 8 octets)

-- what an entry holds
abbrev pub held_octets : Entry → List ℕ
held_octets (Sent octets) = octets
held_octets (Got octets) = octets
held_octets (Line octets) = octets

-- the octet of an entry's kind: S, G or J
abbrev pub kind_octet : Entry → ℕ
kind_octet (Sent octets) = 0x53
kind_octet (Got octets) = 0x47
kind_octet (Line octets) = 0x4a

-- an entry: its kind, the length of what it holds, and this
abbrev pub entry_octets : Entry → List ℕ
entry_octets e = kind_octet e ∷ (octets_of 4 (length (held_octets e)) ++ held_octets e)

-- the octets that an entry takes
abbrev pub entry_size : Entry → ℕ
entry_size e = 5 + length (held_octets e)

-- the octets of a record
abbrev pub record_octets : Header → List Entry → List ℕ
record_octets h entries = header_octets h ++ flat_map entry_octets entries

-- an entry of the kind that an octet names
abbrev pub entry_of_kind : ℕ → Option (List ℕ → Entry)
entry_of_kind kind =
    if kind == 0x53 then Some Sent
    else if kind == 0x47 then Some Got
    else if kind == 0x4a then Some Line
    else None

-- an entry at an offset, of the octets after its kind
abbrev pub entry_after_kind : ℕ → ℕ → List ℕ → Option (List ℕ → Entry) → Result (Option Entry) RecordFault
entry_after_kind offset kind rest None = Err (BadKind kind offset)
entry_after_kind offset kind rest (Some make) =
    let size = number_of (take 4 rest) in
    if nat_lt (length rest) 4 then Err (Cut offset)
    else if nat_lt most_octets (offset + 5 + size) then Err (TooLong offset)
    else if nat_lt (length rest) (4 + size) then Err (Cut offset)
    else Ok (Some (make (take size (drop 4 rest))))

-- the next entry at an offset where so many more may come; none at the end of the octets
abbrev pub next_entry : ℕ → ℕ → List ℕ → Result (Option Entry) RecordFault
next_entry room offset [] = Ok None
next_entry zero offset (kind ∷ rest) = Err (TooManyEntries offset)
next_entry (suc room) offset (kind ∷ rest) = entry_after_kind offset kind rest (entry_of_kind kind)

-- entries in order, each with its offset, and the fault after them, if there is one
pub record Entries : Type 0 where
  pub list : List (ℕ × Entry)
  pub fault : Option RecordFault

-- entries, after one more before them
abbrev pub entry_before : ℕ → Entry → Entries → Entries
entry_before offset e rest = record { list = (offset, e) ∷ rest.list; fault = rest.fault }

-- the entries from an offset on, by what stands there
abbrev pub entries_by : ℕ → Result (Option Entry) RecordFault → (Entry → Entries) → Entries
entries_by offset (Err fault) rest = record { list = []; fault = Some fault }
entries_by offset (Ok None) rest = record { list = []; fault = None }
entries_by offset (Ok (Some e)) rest = entry_before offset e (rest e)

-- the entries from an offset on, where so many more may come
abbrev pub entries_from : ℕ → ℕ → List ℕ → Entries
entries_from zero offset octets = entries_by offset (next_entry zero offset octets) (λ e. record { list = []; fault = None })
entries_from (suc room) offset octets =
    entries_by offset (next_entry (suc room) offset octets) (λ e. entries_from room (offset + entry_size e) (drop (entry_size e) octets))

-- what octets are read as by their header: the entries after it, from an offset on, where so many may come
abbrev pub after_header : ℕ → ℕ → List ℕ → Option Header → Result (Header × Entries) RecordFault
after_header room offset octets None = Err BadMagic
after_header room offset octets (Some h) = Ok (h, entries_from room offset (drop 8 octets))

-- a header with the entries after it, up to the first fault
abbrev pub read_record : List ℕ → Result (Header × Entries) RecordFault
read_record octets = after_header most_entries 8 octets (header_in octets)

-- the first fault of octets, if they have one
abbrev pub fault_in : Result (Header × Entries) RecordFault → Option RecordFault
fault_in (Err fault) = Some fault
fault_in (Ok x) = x.1.fault

-- the first fault of a record
abbrev pub record_fault : List ℕ → Option RecordFault
record_fault octets = fault_in (read_record octets)

-- a header and every whole entry before the first fault: the longest front of the octets that is a record
abbrev pub whole_front : Result (Header × Entries) RecordFault → Option (List ℕ)
whole_front (Err fault) = None
whole_front (Ok x) = Some (record_octets x.0 (map (λ e. e.1) x.1.list))

-- the longest front of octets that is a record
abbrev pub trimmed : List ℕ → Option (List ℕ)
trimmed octets = whole_front (read_record octets)

-- entries with their offsets, from an offset on
abbrev pub located : ℕ → List Entry → List (ℕ × Entry)
located offset [] = []
located offset (e ∷ es) = (offset, e) ∷ located (offset + entry_size e) es

-- entries that a record can have from an offset on, where so many more may come
abbrev pub FitIn : ℕ → ℕ → List Entry → Type 0
FitIn room offset [] = ⊤
FitIn zero offset (e ∷ es) = ⊥
FitIn (suc room) offset (e ∷ es) = (offset + entry_size e ≤ most_octets) × FitIn room (offset + entry_size e) es
