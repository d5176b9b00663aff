-- A reader in the middle of a record: what it holds, and what is still to come.
use Rattle.std.specs.Prelude.{◌≡◌, ℕ, ◌+◌, ◌<◌, ◌≤◌, ⊤, List, [], ◌++◌, length, drop, Bool, true, false, not, nat_le, Option, Some, None, Result, Ok, Err, IsSome, IfSome, IfOk, MatchResult}
use Rattle.session_record.specs.Faults.{is_cut, lasting}
use Rattle.std.specs.Option.{option_map, ForSome}
use Rattle.hk_base.specs.Outside.{HasRisen}
use Rattle.session_record.specs.Records.{Header, Entries, most_entries, most_octets, header_in, next_entry, entry_size, entry_before, entries_from, after_header}
use Rattle.session_record.specs.declared.entry.Entry.{Entry}
use Rattle.session_record.specs.declared.entry.RecordFault.{RecordFault}
use Rattle.session_record.specs.declared.entry.RecordFault.TheVariants.{BadMagic, ReadFault, Memory}

-- Where a reader stands: the header, once it was read, the offset of the next entry, how many more entries may come,
-- the octets that were read and not given yet, the fault of the octets, once one was answered, and how many octets are asked of the shelf at a time.
pub record Reading : Type 0 where
  pub header : Option Header
  pub offset : ℕ
  pub room : ℕ
  pub held : List ℕ
  pub fault : Option RecordFault
  pub most : ℕ

-- a reader before the first octet, which takes so many octets at a time
abbrev pub reading_by : ℕ → Reading
reading_by most = record { header = None; offset = 8; room = most_entries; held = []; fault = None; most = most }

-- the same with pieces of 64 KiB
abbrev pub reading_at_start : Reading
reading_at_start = reading_by 65536

-- nothing more, up to a fault if there is one
abbrev pub no_entries : Option RecordFault → Entries
no_entries fault = record { list = []; fault = fault }

-- what octets are read as from a place in a record on
abbrev pub read_on : Option Header → Option RecordFault → ℕ → ℕ → List ℕ → Result (Header × Entries) RecordFault
read_on None None room offset octets = after_header room offset octets (header_in octets)
read_on None (Some fault) room offset octets = Err fault
read_on (Some h) None room offset octets = Ok (h, entries_from room offset octets)
read_on (Some h) (Some fault) room offset octets = Ok (h, no_entries (Some fault))

-- what is still to come where the shelf has these octets left: the header, the entries, and the fault after them
abbrev pub to_come : Reading → List ℕ → Result (Header × Entries) RecordFault
to_come r rest = read_on r.header r.fault r.room r.offset (r.held ++ rest)

-- What an answer says of what was to come: its first entry, its end, or its fault. Then the rest is still to come.
abbrev pub IsFirst : Result (Option (ℕ × Entry)) RecordFault → Result (Header × Entries) RecordFault → Result (Header × Entries) RecordFault → Type 0
IsFirst (Ok (Some x)) before after = MatchResult after (λ left. before ≡ Ok (left.0, entry_before x.0 x.1 left.1)) (λ f. ⊥)
IsFirst (Ok None) before after = (after ≡ before) × MatchResult before (λ b. b.1 ≡ no_entries None) (λ f. ⊥)
IsFirst (Err ReadFault) before after = after ≡ before
IsFirst (Err Memory) before after = after ≡ before
IsFirst (Err BadMagic) before after = (after ≡ before) × (before ≡ Err BadMagic)
IsFirst (Err fault) before after = (after ≡ before) × MatchResult before (λ b. b.1 ≡ no_entries (Some fault)) (λ f. ⊥)

-- where the shelf told what it had left: it still does, and the answer is the first of what was to come
abbrev pub Answers : Result (Option (ℕ × Entry)) RecordFault → Reading → Option (List ℕ) → Reading → Option (List ℕ) → Type 0
Answers result before rest after left = IfSome rest (λ was. IfSome left (λ now. IsFirst result (to_come before was) (to_come after now)) × IsSome left)

-- What an answer that isn't of the end says of what was to come: an entry was its first, and without an answer of the octets it is as it was.
abbrev pub IsFirstOnward : Result (Option (ℕ × Entry)) RecordFault → Result (Header × Entries) RecordFault → Result (Header × Entries) RecordFault → Type 0
IsFirstOnward (Ok (Some x)) before after = IsFirst (Ok (Some x)) before after
IsFirstOnward (Err ReadFault) before after = after ≡ before
IsFirstOnward (Err Memory) before after = after ≡ before
IsFirstOnward result before after = ⊤

-- where the shelf told what it had left: the octets that it gave in the call, and what the answer says of them whatever follows them
abbrev pub GoesOn : Result (Option (ℕ × Entry)) RecordFault → Reading → Option (List ℕ) → Reading → Option (List ℕ) → Type 0
GoesOn result before rest after left =
    IfSome rest (λ was. IfSome left (λ now. (given : List ℕ) × (was ≡ given ++ now) × ((more : List ℕ) → IsFirstOnward result (to_come before (given ++ more)) (to_come after more))) × IsSome left)

-- where the shelf told what it had left: the octets that it gave came to the end of those that are held
abbrev pub Gains : List ℕ → Option (List ℕ) → List ℕ → Option (List ℕ) → Type 0
Gains held rest grown left = IfSome rest (λ was. IfSome left (λ now. (given : List ℕ) × (was ≡ given ++ now) × (grown ≡ held ++ given)) × IsSome left)

-- an answer that more octets don't change
abbrev pub is_final : Result (Option Entry) RecordFault → Bool
is_final (Ok None) = false
is_final (Ok (Some e)) = true
is_final (Err fault) = not (is_cut fault)

-- octets have the header and the first entry after it in full, or a fault of these
abbrev pub is_settled_header : ℕ → ℕ → List ℕ → Option Header → Bool
is_settled_header room offset octets None = nat_le 8 (length octets)
is_settled_header room offset octets (Some h) = is_final (next_entry room offset (drop 8 octets))

-- octets have what comes next in full
abbrev pub is_settled_at : Option Header → Option RecordFault → ℕ → ℕ → List ℕ → Bool
is_settled_at header (Some fault) room offset octets = true
is_settled_at None None room offset octets = is_settled_header room offset octets (header_in octets)
is_settled_at (Some h) None room offset octets = is_final (next_entry room offset octets)

-- the octets that a reader holds have what comes next in full
abbrev pub is_settled : Reading → Bool
is_settled r = is_settled_at r.header r.fault r.room r.offset r.held

-- the fault that is answered from then on, if it is one
abbrev pub lasting_fault : Result (Option (ℕ × Entry)) RecordFault → Option RecordFault
lasting_fault (Ok x) = None
lasting_fault (Err fault) = lasting fault

-- an entry moves the reader behind it, and nothing else moves it
abbrev pub Moves : Result (Option (ℕ × Entry)) RecordFault → Reading → Reading → Type 0
Moves (Ok (Some x)) before after =
    (x.0 ≡ before.offset) × (after.offset ≡ x.0 + entry_size x.1) × (after.offset ≤ most_octets) × (before.room ≡ after.room + 1)
Moves result before after = (after.offset ≡ before.offset) × (after.room ≡ before.room)

-- the header was read wherever an entry, the end or a fault behind it is answered
abbrev pub HasHeader : Result (Option (ℕ × Entry)) RecordFault → Option Header → Type 0
HasHeader (Err BadMagic) header = header ≡ None
HasHeader (Err ReadFault) header = ⊤
HasHeader (Err Memory) header = ⊤
HasHeader result header = IsSome header

-- what a reader keeps is a fault of the octets, in place of a header or behind it
abbrev pub Lasts : Option Header → Option RecordFault → Type 0
Lasts header fault = ForSome fault (λ f. (lasting f ≡ Some f) × HasHeader (Err f) header)

-- the count of the shelf rises with ReadFault alone
abbrev pub FaultCounts : RecordFault → ℕ → ℕ → Type 0
FaultCounts ReadFault before now = (before ≤ now) × HasRisen before now
FaultCounts fault before now = now ≡ before

-- the count of the shelf rises with ReadFault alone
abbrev pub ReadCounts : {X : Type 0} → Result X RecordFault → ℕ → ℕ → Type 0
ReadCounts (Ok x) before now = now ≡ before
ReadCounts (Err fault) before now = FaultCounts fault before now

-- octets that are held, before those that the shelf has left, where it tells them
abbrev pub ahead : List ℕ → Option (List ℕ) → Option (List ℕ)
ahead held rest = option_map (λ left. held ++ left) rest

-- no octet was lost or came twice
abbrev pub KeepsAhead : Option (List ℕ) → Option (List ℕ) → Type 0
KeepsAhead before after = IfSome before (λ octets. after ≡ Some octets)

-- where a read gave nothing and the shelf told what it had left: it has nothing left
abbrev pub IsAtEnd : ℕ → Option (List ℕ) → Option (List ℕ) → Type 0
IsAtEnd count before after = count ≡ 0 → IfSome before (λ rest. after ≡ Some [])

-- at most so many octets came to the end of those that are held
abbrev pub Grows : ℕ → List ℕ → List ℕ → Type 0
Grows most held grown = (last : List ℕ) × (grown ≡ held ++ last) × (length last ≤ most)

-- how many octets of the record a reader took of the shelf, where its first entry begins at an offset: those before that entry, and those that are held
abbrev pub octets_taken_by : Option Header → ℕ → List ℕ → ℕ
octets_taken_by None offset held = length held
octets_taken_by (Some h) offset held = offset + length held

-- how many octets of the record a reader took of the shelf: those up to the next entry, and those that it holds
abbrev pub octets_taken : Reading → ℕ
octets_taken r = octets_taken_by r.header r.offset r.held

-- the most octets that a reader takes of the shelf: those of the longest record, the kind and length of one entry more, and one piece
abbrev pub most_taken : Reading → ℕ
most_taken r = most_octets + 5 + r.most

-- Not too much was taken in all, and less than a piece is held behind what comes next. Before the header was read the first entry is at 8.
pub record IsWithin (r : Reading) : Type 0 where
  pub start : r.header ≡ None → r.offset ≡ 8
  pub all : octets_taken r < most_taken r
  pub headed : r.header ≡ None → length r.held < 8 + r.most
  pub ahead : (e : Entry) → IsSome r.header → next_entry r.room r.offset r.held ≡ Ok (Some e) → length r.held < entry_size e + r.most

-- where the shelf told what it had left: what it gave is what the reader took
abbrev pub AreTaken : Reading → Option (List ℕ) → Reading → Option (List ℕ) → Type 0
AreTaken before rest after left = IfSome rest (λ was. IfSome left (λ now. length was + octets_taken before ≡ length now + octets_taken after) × IsSome left)

-- not too much was taken in all
abbrev pub TakesFew : Reading → Reading → Type 0
TakesFew before after = (octets_taken after < most_taken before) × (after.most ≡ before.most)

-- behind an entry that was given less than a piece is held
abbrev pub HoldsLess : Result (Option (ℕ × Entry)) RecordFault → Reading → Type 0
HoldsLess result after = IfOk result (λ next. IfSome next (λ x. length after.held < after.most))
