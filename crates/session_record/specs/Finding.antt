-- An entry among octets that were read, and one of its own.
use Rattle.std.specs.Prelude.{◌≡◌, ℕ, ◌+◌, List, length, Option, Some, None, Result, Ok, Err, IfOk, IfSome}
use Rattle.session_record.specs.Faults.{IsEntryFault}
use Rattle.session_record.specs.Steps.{HasRoomFor}
use Rattle.hk_base.specs.declared.types.Memory.{Memory}
use Rattle.session_record.specs.declared.entry.Entry.{Entry}
use Rattle.session_record.specs.declared.entry.Entry.TheVariants as entry
use Rattle.session_record.specs.declared.entry.RecordFault.{RecordFault}
use Rattle.session_record.specs.declared.found.EntryKind.{EntryKind}
use Rattle.session_record.specs.declared.found.EntryKind.TheVariants as kind
use Rattle.session_record.specs.declared.found.Found.{Found}

-- an entry of a kind
abbrev pub entry_by : EntryKind → List ℕ → Entry
entry_by kind.Sent held = entry.Sent held
entry_by kind.Got held = entry.Got held
entry_by kind.Line held = entry.Line held

-- the entry that was found
abbrev pub found_entry : Found → Entry
found_entry found = entry_by found.kind found.held.now

-- what was found
abbrev pub Finds : Result (Option Found) RecordFault → Result (Option Entry) RecordFault → Type 0
Finds (Ok None) next = next ≡ Ok None
Finds (Ok (Some found)) next = next ≡ Ok (Some (found_entry found))
Finds (Err fault) next = IsEntryFault fault × (next ≡ Err fault)

-- an entry that was found is within the octets, and the record may have it
abbrev pub FindsWithin : Result (Option Found) RecordFault → ℕ → ℕ → List ℕ → Type 0
FindsWithin result room offset octets = IfOk result (λ found. IfSome found (λ f. HasRoomFor (5 + length f.held.now) room offset (length octets)))

-- an entry of that kind, which holds the same, unless memory ran out
abbrev pub IsEntry : EntryKind → List ℕ → Result Entry Memory → Type 0
IsEntry kind held result = IfOk result (λ e. e ≡ entry_by kind held)
