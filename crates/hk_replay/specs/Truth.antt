-- When what is written is true of what a board did.
use Rattle.std.specs.Prelude.{◌≡◌, ℕ, List, ◌++◌, map, Option, None, Ok}
use Rattle.hk_world.specs.Worlds.{World}
use Rattle.session_record.specs.Records.{read_record}
use Rattle.session_record.specs.Written.{IsWritten, IsPrefixWritten}
use Rattle.session_record.specs.declared.header.Header.{Header}
use Rattle.session_record.specs.declared.entry.Entry.{Entry}
use Rattle.session_texts.specs.Truth.{IsSeenIn, IsTrueText, IsTrueFollowing}
use Rattle.session_texts.specs.Lines.{HasTrueLines}
use Rattle.hk_replay.specs.declared.status.ReplayStatus.{ReplayStatus}
use Rattle.hk_replay.specs.declared.status.ReplayStatus.TheVariants.{Done, Usage, Tailoring, Record, ReadFault, WriteFault, NoMemory, Text}

-- Octets are the record of a world: they have no fault, their header says of its session whether the start is known and whether counts are used again, and their entries, lines of the journal left out, are what the ground saw.
pub record IsRecordOf (w : World) (octets : List ℕ) : Type 0 where
  pub header : Header
  pub entries : List (ℕ × Entry)
  pub record_is : read_record octets ≡ Ok (header, record { list = entries; fault = None })
  pub seen_in : IsSeenIn w header (map (λ e. e.1) entries)

-- What a run wrote that replayed a record, where a promise is kept by the text of the record: the whole of such a text, or a first part of it; or nothing, where reading failed or the tailoring has a fault. It ends in no other way.
abbrev pub IsRunOf : (List ℕ → Type 0) → ReplayStatus → Option (List ℕ) → Option (List ℕ) → Type 0
IsRunOf IsPromised Done before after = (text : List ℕ) × IsPromised text × IsWritten before text after
IsRunOf IsPromised WriteFault before after = (text : List ℕ) × IsPromised text × IsPrefixWritten before text after
IsRunOf IsPromised NoMemory before after = (text : List ℕ) × IsPromised text × IsPrefixWritten before text after
IsRunOf IsPromised ReadFault before after = after ≡ before
IsRunOf IsPromised (Tailoring fault) before after = after ≡ before
IsRunOf IsPromised Usage before after = ⊥
IsRunOf IsPromised (Record problem) before after = ⊥
IsRunOf IsPromised (Text line) before after = ⊥

-- what a run on the record of a world wrote is of a text that is true in it
abbrev pub IsTrueRun : World → ReplayStatus → Option (List ℕ) → Option (List ℕ) → Type 0
IsTrueRun w = IsRunOf (IsTrueText w)

-- All of a text was written that keeps a promise, and each of its lines is true.
abbrev pub IsWholeOf : (List ℕ → Type 0) → World → Option (List ℕ) → Option (List ℕ) → Type 0
IsWholeOf IsPromised w before after = (text : List ℕ) × IsPromised text × HasTrueLines w text × IsWritten before text after

-- A first part of such a text was written, and each line of it is true.
abbrev pub IsPartOf : (List ℕ → Type 0) → World → Option (List ℕ) → Option (List ℕ) → Type 0
IsPartOf IsPromised w before after = (text : List ℕ) × (more : List ℕ) × IsPromised (text ++ more) × HasTrueLines w text × IsWritten before text after

-- What a run wrote that followed the record of a world: all of such a text, or a first part of it where reading or writing failed; or nothing, where the tailoring has a fault. It ends in no other way.
abbrev pub IsFollowOf : (List ℕ → Type 0) → World → ReplayStatus → Option (List ℕ) → Option (List ℕ) → Type 0
IsFollowOf IsPromised w Done before after = IsWholeOf IsPromised w before after
IsFollowOf IsPromised w WriteFault before after = IsPartOf IsPromised w before after
IsFollowOf IsPromised w NoMemory before after = IsPartOf IsPromised w before after
IsFollowOf IsPromised w ReadFault before after = IsPartOf IsPromised w before after
IsFollowOf IsPromised w (Tailoring fault) before after = after ≡ before
IsFollowOf IsPromised w Usage before after = ⊥
IsFollowOf IsPromised w (Record problem) before after = ⊥
IsFollowOf IsPromised w (Text line) before after = ⊥

-- what a run wrote that followed the record of a world is of a text that is true in it
abbrev pub IsTrueFollow : World → ReplayStatus → Option (List ℕ) → Option (List ℕ) → Type 0
IsTrueFollow w = IsFollowOf (IsTrueFollowing w) w
