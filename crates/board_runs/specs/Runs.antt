-- Runs of a script. Slots stand with the newest first, each with what the board did in it.
use Rattle.std.specs.Prelude.{◌≡◌, ◌<◌, ℕ, false, List, [], ◌∷◌, ◌++◌, length, reverse}
use Rattle.hk_base.specs.TailoringParts.{TailoringParts}
use Rattle.hk_world.specs.declared.moment.Moment.{Moment}
use Rattle.session_record.specs.Records.{header_of, record_octets}
use Rattle.board_steps.specs.Cores.{Core, new_core}
use Rattle.board_steps.specs.SlotRuns.{Ahead, IsSlot, IsPart}
use Rattle.board_scripts.specs.declared.script.Script.{Script}
use Rattle.board_runs.specs.Slots.{uplinks, entries_of}

-- the core has done these moments more
abbrev pub HasDone : Core → List Moment → Core → Type 0
HasDone before moments after = after.moments ≡ reverse moments ++ before.moments

-- The board has run some slots of a script: each is all steps of a slot with the uplinks that the link brings.
abbrev pub HasRun : TailoringParts → Script → List (List Moment) → Core → Type 0
HasRun t s [] c = c ≡ new_core t
HasRun t s (moments ∷ earlier) c = (before : Core) × HasRun t s earlier before × IsSlot (uplinks t s earlier) before c × HasDone before moments c

-- the board has run some slots, and some first steps of the next one, in which it did these moments
abbrev pub HasBegun : TailoringParts → Script → List (List Moment) → List Moment → Ahead → Core → Type 0
HasBegun t s slots moments ahead c = (before : Core) × HasRun t s slots before × IsPart (uplinks t s slots) before ahead c × HasDone before moments c

-- a run: all slots of the script
pub record IsRun (t : TailoringParts) (s : Script) (slots : List (List Moment)) (c : Core) : Type 0 where
  pub count : length slots ≡ s.slots
  pub ran : HasRun t s slots c

-- A run up to a step: some slots, and some first steps of the next one, up to all of them.
pub record IsCut (t : TailoringParts) (s : Script) (slots : List (List Moment)) (moments : List Moment) (ahead : Ahead) (c : Core) : Type 0 where
  pub count : length slots < s.slots
  pub began : HasBegun t s slots moments ahead c

-- the record of some slots of a script
abbrev pub record_of : TailoringParts → Script → List (List Moment) → List ℕ
record_of t s slots = record_octets (header_of s.known false) (entries_of t s slots)

-- octets are the record of a run
abbrev pub IsRecordOfRun : TailoringParts → Script → List ℕ → Type 0
IsRecordOfRun t s octets = (slots : List (List Moment)) × (c : Core) × IsRun t s slots c × (octets ≡ record_of t s slots)

-- octets are the record of a run up to a step: what came and was sent in the slot that isn't whole is there
abbrev pub IsRecordOfCut : TailoringParts → Script → List ℕ → Type 0
IsRecordOfCut t s octets =
    (slots : List (List Moment)) × (moments : List Moment) × (ahead : Ahead) × (c : Core) × IsCut t s slots moments ahead c
    × (octets ≡ record_of t s (moments ∷ slots))
