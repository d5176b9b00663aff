-- Entries that are followed one after the other, and what is written before the next one is read.
use Rattle.std.specs.Prelude.{◌≡◌, ◌≤◌, ◌-◌, ⊤, ℕ, List, [], ◌∷◌, ◌++◌, length, Option, Some, None, Result, Ok, Err, IfSome, IsSome}
use Rattle.hk_base.specs.TailoringParts.{TailoringParts}
use Rattle.hk_base.specs.Outside.{HasRisen}
use Rattle.ground_history.specs.declared.answer.SentFault.{SentFault}
use Rattle.session_record.specs.Records.{Entries}
use Rattle.session_record.specs.Reading.{Reading, to_come}
use Rattle.session_record.specs.Written.{IsWritten, IsPrefixWritten}
use Rattle.session_record.specs.declared.header.Header.{Header}
use Rattle.session_record.specs.declared.entry.Entry.{Entry}
use Rattle.session_record.specs.declared.entry.RecordFault.{RecordFault}
use Rattle.session_texts.specs.declared.problem.RecordProblem.TheVariants as problem
use Rattle.decommutator.specs.Standing.{Decommutation, new_standing, entry_answer}
use Rattle.decommutator.specs.Following.{followed_text, after_followed, closing_text}
use Rattle.followed_records.specs.Told.{Told, told_text, told_problem}
use Rattle.followed_records.specs.declared.fault.FollowingFault.{FollowingFault}
use Rattle.followed_records.specs.declared.fault.FollowingFault.TheVariants.{Record, ReadFault, WriteFault, Memory}

-- the same after blocks that were written before
abbrev pub told_after : List ℕ → Told → Told
told_after blocks x = record { blocks = blocks ++ x.blocks; ending = x.ending; problem = x.problem }

-- what comes of an entry that was so answered and of the rest
abbrev pub told_by : ℕ → Result Unit SentFault → List ℕ → Told → Told
told_by offset (Ok done) blocks rest = told_after blocks rest
told_by offset (Err fault) blocks rest = told_problem (problem.Entry fault offset)

-- what comes of the end of the entries, or of the fault behind them
abbrev pub told_end : Decommutation → Option RecordFault → Told
told_end d None = record { blocks = []; ending = closing_text d; problem = None }
told_end d (Some fault) = told_problem (problem.Format fault)

-- what comes of an entry and of the rest
abbrev pub told_entry : Decommutation → ℕ → Entry → Told → Told
told_entry d offset e rest = told_by offset (entry_answer d.standing e) (followed_text d e) rest

-- what comes of entries up to a fault, if there is one
abbrev pub told_entries : Decommutation → List (ℕ × Entry) → Option RecordFault → Told
told_entries d [] fault = told_end d fault
told_entries d ((offset, e) ∷ later) fault = told_entry d offset e (told_entries (after_followed d e) later fault)

-- what comes of what is still to come
abbrev pub told_rest : Decommutation → Result (Header × Entries) RecordFault → Told
told_rest d (Err fault) = told_problem (problem.Format fault)
told_rest d (Ok x) = told_entries d x.1.list x.1.fault

-- what comes of what is still to come where the shelf has these octets left
abbrev pub told_ahead : Decommutation → Reading → List ℕ → Told
told_ahead d r octets = told_rest d (to_come r octets)

-- what comes of an entry and of what is still to come after it
abbrev pub told_from : Decommutation → ℕ → Entry → Reading → List ℕ → Told
told_from d offset e r octets = told_entry d offset e (told_ahead (after_followed d e) r octets)

-- what stands for no entries
abbrev pub new_decommutation : TailoringParts → Header → Decommutation
new_decommutation t h = record { standing = new_standing t h.known h.long; waiting = Some [] }

-- what is written after every entry was, whose octets the shelf gave in full before it failed
abbrev pub IsFollowedAsGiven : (List ℕ → Told) → List ℕ → Option (List ℕ) → Option (List ℕ) → Option (List ℕ) → Type 0
IsFollowedAsGiven told octets left before after =
    IfSome left (λ rest. (given : List ℕ) × (octets ≡ given ++ rest) × IsWritten before (told given).blocks after) × IsSome left

-- What was written of octets that were followed up to a fault: all of what is written before the record's first problem; what is written after every entry that the shelf gave in full; or a first part.
abbrev pub FollowsUntil : FollowingFault → (List ℕ → Told) → List ℕ → Option (List ℕ) → Option (List ℕ) → Option (List ℕ) → Type 0
FollowsUntil (Record found) told octets left before after = ((told octets).problem ≡ Some found) × IsWritten before (told_text (told octets)) after
FollowsUntil ReadFault told octets left before after = IsFollowedAsGiven told octets left before after × IsPrefixWritten before (told_text (told octets)) after
FollowsUntil WriteFault told octets left before after = IsPrefixWritten before (told_text (told octets)) after
FollowsUntil Memory told octets left before after = IsPrefixWritten before (told_text (told octets)) after

-- what was written of octets, by how following them ended: all, where they have no problem, or what is written up to a fault
abbrev pub Follows : Result Unit FollowingFault → (List ℕ → Told) → List ℕ → Option (List ℕ) → Option (List ℕ) → Option (List ℕ) → Type 0
Follows (Ok done) told octets left before after = ((told octets).problem ≡ None) × IsWritten before (told_text (told octets)) after
Follows (Err fault) told octets left before after = FollowsUntil fault told octets left before after

-- the same where all that is left to write is what is written at the end
abbrev pub FollowsAll : Result Decommutation FollowingFault → (List ℕ → Told) → List ℕ → Option (List ℕ) → Option (List ℕ) → Option (List ℕ) → Type 0
FollowsAll (Ok later) told octets left before after =
    (blocks : List ℕ) × (told octets ≡ record { blocks = blocks; ending = closing_text later; problem = None }) × IsWritten before blocks after
FollowsAll (Err fault) told octets left before after = FollowsUntil fault told octets left before after

-- what was written of an entry that was followed, whatever comes after it
abbrev pub FollowsEntry : Result Decommutation FollowingFault → Decommutation → ℕ → Entry → Option (List ℕ) → Option (List ℕ) → Type 0
FollowsEntry (Ok later) d offset e before after =
    (entry_answer d.standing e ≡ Ok tt) × (later ≡ after_followed d e) × IsWritten before (followed_text d e) after
FollowsEntry (Err (Record found)) d offset e before after = ((rest : Told) → told_entry d offset e rest ≡ told_problem found) × (after ≡ before)
FollowsEntry (Err ReadFault) d offset e before after = ⊥
FollowsEntry (Err WriteFault) d offset e before after = (entry_answer d.standing e ≡ Ok tt) × IsPrefixWritten before (followed_text d e) after
FollowsEntry (Err Memory) d offset e before after = (rest : Told) → IsPrefixWritten before (told_text (told_entry d offset e rest)) after

-- what was written at the end
abbrev pub Closes : Result Unit FollowingFault → List ℕ → Option (List ℕ) → Option (List ℕ) → Type 0
Closes (Ok done) text before after = IsWritten before text after
Closes (Err (Record found)) text before after = ⊥
Closes (Err ReadFault) text before after = ⊥
Closes (Err WriteFault) text before after = IsPrefixWritten before text after
Closes (Err Memory) text before after = IsPrefixWritten before text after

-- the count of the sink rises with a failing sink alone
abbrev pub FaultCounts : FollowingFault → ℕ → ℕ → Type 0
FaultCounts WriteFault before now = (before ≤ now) × HasRisen before now
FaultCounts fault before now = now ≡ before

-- the same by how following ended
abbrev pub SinkCounts : {X : Type 0} → Result X FollowingFault → ℕ → ℕ → Type 0
SinkCounts (Ok x) before now = now ≡ before
SinkCounts (Err fault) before now = FaultCounts fault before now

-- with room for a text, what was written of an entry leaves the room that isn't taken
abbrev pub LeavesRoom : Result Decommutation FollowingFault → List ℕ → ℕ → Option ℕ → Type 0
LeavesRoom (Ok later) text room after = after ≡ Some (room - length text)
LeavesRoom (Err WriteFault) text room after = ⊥
LeavesRoom (Err fault) text room after = ⊤

-- where the room is told and enough for the text of an entry, it leaves the room that isn't taken
abbrev pub LeavesRoomOf : Result Decommutation FollowingFault → List ℕ → Option ℕ → Option ℕ → Type 0
LeavesRoomOf result text before after = IfSome before (λ room. length text ≤ room → LeavesRoom result text room after)

-- with room for all there is to write, the sink doesn't fail, and there is room for what is written at the end
abbrev pub HasRoomLeft : Result Decommutation FollowingFault → Option ℕ → Type 0
HasRoomLeft (Ok later) after = IfSome after (λ free. length (closing_text later) ≤ free) × IsSome after
HasRoomLeft (Err WriteFault) after = ⊥
HasRoomLeft (Err fault) after = ⊤

-- the sink didn't fail
abbrev pub IsUnfailed : Result Unit FollowingFault → Type 0
IsUnfailed (Ok done) = ⊤
IsUnfailed (Err WriteFault) = ⊥
IsUnfailed (Err fault) = ⊤

-- what holds where the shelf tells the octets that it has left, and the sink's room is told and enough for all that is written of them
abbrev pub WithRoom : (List ℕ → Told) → Option (List ℕ) → Option ℕ → Type 0 → Type 0
WithRoom told left before Claim = IfSome left (λ octets. IfSome before (λ room. length (told_text (told octets)) ≤ room → Claim))
