-- What is made of a record with a journal that was cut: what is trimmed is the record of the world of its lines up to a step, and what is replayed of that is true there.
use Rattle.std.specs.Prelude.{◌≡◌, ◌⊎◌, ℕ, List, ◌++◌, Option, Some}
use Rattle.hk_world.specs.Worlds.{World}
use Rattle.session_record.specs.Written.{IsWritten, IsPrefixWritten}
use Rattle.session_texts.specs.Truth.{IsTrueText}
use Rattle.journaled_records.specs.OwnWorlds.{IsFrontOf, IsOwnRecord}
use Rattle.journaled_records.specs.Replays.{HasTrueSamples}
use Rattle.hk_replay.specs.Truth.{IsRunOf}
use Rattle.hk_replay.specs.Words.{Command, trim}
use Rattle.program_edge.specs.Tailorings.{octets_of}
use Rattle.hk_replay.specs.declared.status.ReplayStatus.{ReplayStatus}
use Rattle.hk_replay.specs.declared.status.ReplayStatus.TheVariants.{Done, Usage, Tailoring, Record, ReadFault, WriteFault, NoMemory, Text}

-- octets are the record of the lines of a world up to a step
pub record IsCutRecord (w : World) (octets : List ℕ) : Type 0 where
  pub part : World
  pub is_front : IsFrontOf part w
  pub own : IsOwnRecord part octets

-- A text is true in a world up to a step, and each sample, row of statistics and current value of each first part of it in the whole of the world.
pub record IsTrueCutText (w : World) (text : List ℕ) : Type 0 where
  pub part : World
  pub is_front : IsFrontOf part w
  pub is_true : IsTrueText part text
  pub samples : (written rest : List ℕ) → text ≡ written ++ rest → HasTrueSamples w written

-- words say to trim these octets
abbrev pub Trims : Option (List (List ℕ × List ℕ)) → Option Command → List ℕ → Type 0
Trims files (Some (trim name)) octets = octets_of files name ≡ Some octets
Trims files command octets = ⊥

-- What was written where a first part of such a record was trimmed: the whole record of the world up to a step, or a first part of it, or nothing where reading failed. It ends in no other way, unless that part has another fault than a cut.
abbrev pub IsTrueTrim : World → ReplayStatus → Option (List ℕ) → Option (List ℕ) → Type 0
IsTrueTrim w Done before after = (octets : List ℕ) × IsCutRecord w octets × IsWritten before octets after
IsTrueTrim w WriteFault before after = (octets : List ℕ) × IsCutRecord w octets × IsPrefixWritten before octets after
IsTrueTrim w NoMemory before after = (after ≡ before) ⊎ ((octets : List ℕ) × IsCutRecord w octets × IsPrefixWritten before octets after)
IsTrueTrim w ReadFault before after = after ≡ before
IsTrueTrim w Usage before after = ⊥
IsTrueTrim w (Tailoring fault) before after = ⊥
IsTrueTrim w (Record problem) before after = after ≡ before
IsTrueTrim w (Text line) before after = ⊥

-- what a run wrote that replayed such a record is of a text that is true up to a step
abbrev pub IsTrueCutRun : World → ReplayStatus → Option (List ℕ) → Option (List ℕ) → Type 0
IsTrueCutRun w = IsRunOf (IsTrueCutText w)
