-- What the program promises of one run.
use Rattle.std.specs.Prelude.{◌≡◌, ⊤, ℕ, List, Option, Some, Result, Ok, Err, IfErr}
use Rattle.session_record.specs.Written.{IsWritten, IsPrefixWritten}
use Rattle.hk_replay.specs.Outcomes.{Outcome, written, stopped, listed}
use Rattle.hk_replay.specs.Words.{Command, RecordCommand, on_record, replay, follow, show}
use Rattle.hk_replay.specs.declared.status.ReplayStatus.{ReplayStatus}
use Rattle.hk_replay.specs.declared.status.ReplayStatus.TheVariants.{Done, Usage, Record, ReadFault, WriteFault, NoMemory}

-- A run that ended before it wrote anything, by what there was to write. A failing shelf and want of memory end any run.
abbrev pub EndsWith : ReplayStatus → Outcome → Type 0
EndsWith ReadFault outcome = ⊤
EndsWith NoMemory outcome = ⊤
EndsWith status (stopped known) = status ≡ known
EndsWith status (written text) = ⊥
EndsWith status (listed text known) = ⊥

-- what was read is the outcome of the record's octets
abbrev pub ReadsTo : {X : Type 0} → (X → List ℕ) → Result X ReplayStatus → Outcome → Type 0
ReadsTo text (Ok x) outcome = outcome ≡ written (text x)
ReadsTo text (Err status) outcome = EndsWith status outcome

-- a status with which nothing is written
abbrev pub IsEarlyStatus : ReplayStatus → Type 0
IsEarlyStatus Done = ⊥
IsEarlyStatus WriteFault = ⊥
IsEarlyStatus status = ⊤

-- a status by which reading ends
abbrev pub IsReadingStatus : ReplayStatus → Type 0
IsReadingStatus Usage = ⊥
IsReadingStatus status = IsEarlyStatus status

-- a failure comes of reading
abbrev pub IsOfReading : {X : Type 0} → Result X ReplayStatus → Type 0
IsOfReading result = IfErr result IsReadingStatus

-- nothing was written where a run ended before its text was whole
abbrev pub WritesNothingEarly : ReplayStatus → Option (List ℕ) → Option (List ℕ) → Type 0
WritesNothingEarly Done before after = ⊤
WritesNothingEarly WriteFault before after = ⊤
WritesNothingEarly NoMemory before after = ⊤
WritesNothingEarly status before after = after ≡ before

-- nothing was written where a run ended that writes while it reads, and neither its record nor the shelf was the cause
abbrev pub WritesNothingElse : ReplayStatus → Option (List ℕ) → Option (List ℕ) → Type 0
WritesNothingElse (Record problem) before after = ⊤
WritesNothingElse ReadFault before after = ⊤
WritesNothingElse status before after = WritesNothingEarly status before after

-- The same by what is done with a record: `follow` and `show` write while they read.
abbrev pub WritesNothingOf : RecordCommand → ReplayStatus → Option (List ℕ) → Option (List ℕ) → Type 0
WritesNothingOf replay status before after = WritesNothingEarly status before after
WritesNothingOf follow status before after = WritesNothingElse status before after
WritesNothingOf show status before after = WritesNothingElse status before after

-- nothing was written with most statuses
abbrev pub WritesNothing : Option Command → ReplayStatus → Option (List ℕ) → Option (List ℕ) → Type 0
WritesNothing (Some (on_record command tailoring name)) status before after = WritesNothingOf command status before after
WritesNothing command status before after = WritesNothingEarly status before after

-- what was written of lines, by the status and the status that was to come after the last of them: all of them, or a first part
abbrev pub HasListed : ReplayStatus → List ℕ → ReplayStatus → Option (List ℕ) → Option (List ℕ) → Type 0
HasListed ReadFault text known before after = IsPrefixWritten before text after
HasListed WriteFault text known before after = IsPrefixWritten before text after
HasListed NoMemory text known before after = IsPrefixWritten before text after
HasListed status text known before after = (status ≡ known) × IsWritten before text after

-- what was written, by the status and what there was to write: the whole text, a first part of it, or nothing
abbrev pub HasOutput : ReplayStatus → Outcome → Option (List ℕ) → Option (List ℕ) → Type 0
HasOutput status (listed text known) before after = HasListed status text known before after
HasOutput Done (written text) before after = IsWritten before text after
HasOutput WriteFault (written text) before after = IsPrefixWritten before text after
HasOutput NoMemory (written text) before after = IsPrefixWritten before text after
HasOutput status outcome before after = EndsWith status outcome × (after ≡ before)
