-- The steps of a reader.
use Rattle.std.specs.Prelude.{◌≡◌, ℕ, ◌+◌, ◌-◌, ◌<◌, ◌≤◌, List, [], length, drop, Bool, false, nat_le, Option, Some, None, Result, Ok, Err, IfSome}
use Rattle.session_record.specs.Records.{Header, header_in, next_entry, entry_size, most_octets}
use Rattle.session_record.specs.Faults.{IsEntryFault}
use Rattle.session_record.specs.Reading.{Reading, is_final}
use Rattle.session_record.specs.declared.entry.Entry.{Entry}
use Rattle.session_record.specs.declared.entry.RecordFault.{RecordFault}
use Rattle.session_record.specs.declared.entry.RecordFault.TheVariants.{BadMagic, Memory}

-- octets have the header in full, or behind it what comes next
abbrev pub is_ready_at : Option Header → ℕ → ℕ → List ℕ → Bool
is_ready_at None room offset held = nat_le 8 (length held)
is_ready_at (Some h) room offset held = is_final (next_entry room offset held)

-- the header, or else what comes next, is held in full
abbrev pub is_ready : Reading → Bool
is_ready r = is_ready_at r.header r.room r.offset r.held

-- nothing but what is held changed
abbrev pub HeldAlone : Reading → Reading → Type 0
HeldAlone before after = after ≡ record before { held = after.held }

-- what is looked for is held in full, or the shelf has nothing left where it told it
abbrev pub IsEnough : Reading → Option (List ℕ) → Option (List ℕ) → Type 0
IsEnough r before after = is_ready r ≡ false → IfSome before (λ rest. after ≡ Some [])

-- the header that was found is taken off
abbrev pub HeaderFound : Option Header → Result Unit RecordFault → Reading → Reading → Type 0
HeaderFound (Some h) result before after = (result ≡ Ok tt) × (after ≡ record before { header = Some h; held = drop 8 before.held })
HeaderFound None result before after = (result ≡ Err BadMagic) × (after ≡ before)

-- the header is taken off what is held, unless it was taken before
abbrev pub HeaderTakenAt : Option Header → Result Unit RecordFault → Reading → Reading → Type 0
HeaderTakenAt (Some h) result before after = (result ≡ Ok tt) × (after ≡ before)
HeaderTakenAt None result before after = HeaderFound (header_in before.held) result before after

-- the header is taken off what is held, unless it was taken before
abbrev pub HeaderTaken : Result Unit RecordFault → Reading → Reading → Type 0
HeaderTaken result before after = HeaderTakenAt before.header result before after

-- an entry is within what is held, and the record may have it
abbrev pub HasRoomFor : ℕ → ℕ → ℕ → ℕ → Type 0
HasRoomFor size room offset held = (size ≤ held) × (offset + size ≤ most_octets) × (0 < room)

-- the reader behind an entry
abbrev pub behind : Reading → ℕ → Reading
behind r size = record r { offset = r.offset + size; room = r.room - 1; held = drop size r.held }

-- the next entry is taken off what is held, unless memory ran out
abbrev pub EntryTaken : Result (Option (ℕ × Entry)) RecordFault → Result (Option Entry) RecordFault → Reading → Reading → Type 0
EntryTaken (Ok None) next before after = (next ≡ Ok None) × (after ≡ before)
EntryTaken (Ok (Some x)) next before after =
    (next ≡ Ok (Some x.1)) × (x.0 ≡ before.offset) × HasRoomFor (entry_size x.1) before.room before.offset (length before.held)
    × (after ≡ behind before (entry_size x.1))
EntryTaken (Err Memory) next before after = after ≡ before
EntryTaken (Err fault) next before after = IsEntryFault fault × (next ≡ Err fault) × (after ≡ before)
