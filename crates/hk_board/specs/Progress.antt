-- How far a run is, and how it ends.
use Rattle.std.specs.Prelude.{◌≡◌, ◌⊎◌, ℕ, List, ◌∷◌, ◌++◌, length, reverse, Result, Ok, Err}
use Rattle.hk_base.specs.TailoringParts.{TailoringParts}
use Rattle.hk_base.specs.declared.outside.Sensor.{Ghosts}
use Rattle.hk_world.specs.declared.moment.Moment.{Moment}
use Rattle.session_record.specs.declared.entry.WriteFault.{WriteFault as Unwritten}
use Rattle.session_record.specs.declared.entry.WriteFault.TheVariants as write
use Rattle.board_steps.specs.Cores.{Core}
use Rattle.board_steps.specs.SlotRuns.{Ahead, IsSlot, IsPart, IsStopped}
use Rattle.board_steps.specs.declared.event.BoardFault.{BoardFault}
use Rattle.simulated_link.specs.declared.link.Link.{Link}
use Rattle.board_scripts.specs.declared.script.Script.{Script}
use Rattle.run_records.specs.Putting.{Seen, HasPut, HasFailed, lines_of}
use Rattle.board_runs.specs.Slots.{uplinks}
use Rattle.board_runs.specs.Runs.{HasDone, HasRun, IsRun, IsCut, record_of}
use Rattle.board_runs.specs.Samplers.{AreCounted, AreSampled, HaveSampled}
use Rattle.run_slots.specs.Standing.{IsBeforeSlot, IsInSlot, opening_octets}
use Rattle.hk_board.specs.Faults.{IsOfBoard, status_of_board}
use Rattle.hk_board.specs.declared.status.BoardStatus.{BoardStatus}
use Rattle.hk_board.specs.declared.status.BoardStatus.TheVariants.{WriteFault, NoMemory, Board}

-- some first steps of a slot with these uplinks, what they did, and what is ahead then
abbrev pub DoesPart : List (List ℕ) → Core → List Moment → Ahead → Core → Type 0
DoesPart uplinks before moments ahead after = IsPart uplinks before ahead after × HasDone before moments after

-- A slot with these uplinks was run and its moments were written; or some first steps of it, and what they did was written, or a first part of that.
abbrev pub RunsTo : List (List ℕ) → Core → Core → Result Unit BoardStatus → Seen → Seen → Type 0
RunsTo uplinks before after (Ok done) was now =
    IsSlot uplinks before after × ((moments : List Moment) × HasDone before moments after × HasPut (lines_of moments) was now)
RunsTo uplinks before after (Err WriteFault) was now =
    (moments : List Moment) × (ahead : Ahead) × DoesPart uplinks before moments ahead after × HasFailed (lines_of moments) write.Failed was now
RunsTo uplinks before after (Err NoMemory) was now =
    (moments : List Moment) × (ahead : Ahead) × DoesPart uplinks before moments ahead after × HasFailed (lines_of moments) write.Memory was now
RunsTo uplinks before after (Err (Board fault)) was now =
    (moments : List Moment) × (ahead : Ahead) × DoesPart uplinks before moments ahead after × IsOfBoard fault × IsStopped ahead after fault × HasPut (lines_of moments) was now
RunsTo uplinks before after (Err status) was now = ⊥

-- how a slot was run, as a status
abbrev pub EndsAs : Result ℕ BoardFault → Result Unit BoardStatus → Type 0
EndsAs (Ok count) result = result ≡ Ok tt
EndsAs (Err fault) result = result ≡ Err (status_of_board fault)

module _ (t : TailoringParts) (s : Script) (start : Seen) where
  -- A run before the slot after some: its record so far was written, and all of its moments are in that.
  pub record IsAt (slots : List (List Moment)) (core : Core) (next shown : ℕ) (link : Link) (now : Seen) : Type 0 where
    pub ran : HasRun t s slots core
    pub before : IsBeforeSlot t s slots (reverse core.moments) (length slots) next link
    pub all_shown : shown ≡ length core.moments
    pub put : HasPut (record_of t s slots) start now

  -- The slot after some was opened: the packets that come and go in it were written behind the record so far.
  pub record IsOpened (slots : List (List Moment)) (core : Core) (found : List (List ℕ)) (next shown : ℕ) (link : Link) (now : Seen) : Type 0 where
    pub ran : HasRun t s slots core
    pub inside : IsInSlot t s slots (reverse core.moments) (length slots) next link
    pub is_uplinks : found ≡ uplinks t s slots
    pub all_shown : shown ≡ length core.moments
    pub before : Seen
    pub put : HasPut (record_of t s slots) start before
    pub opened : HasPut (opening_octets t s slots) before now

  -- It was run, and its moments were written, of which the link doesn't know yet.
  pub record HasRunSlot (slots : List (List Moment)) (moments : List Moment) (core : Core) (next shown : ℕ) (link : Link) (now : Seen) : Type 0 where
    pub ran : HasRun t s (moments ∷ slots) core
    pub earlier : List Moment
    pub journal : reverse core.moments ≡ earlier ++ moments
    pub inside : IsInSlot t s slots earlier (length slots) next link
    pub all_shown : shown ≡ length earlier
    pub put : HasPut (record_of t s (moments ∷ slots)) start now

module _ {S : Type 0} (g : Ghosts S) (t : TailoringParts) (s : Script) (was : List S) where
  -- a run, in each slot of which the samplers filed what they were ordered
  pub record IsSampledRun (slots : List (List Moment)) (c : Core) : Type 0 where
    pub run : IsRun t s slots c
    pub sampled : AreSampled g t was slots

  -- a run up to a step: so it was in each whole slot, and in the last one they filed some of what they were ordered
  pub record IsSampledCut (slots : List (List Moment)) (moments : List Moment) (ahead : Ahead) (c : Core) : Type 0 where
    pub cut : IsCut t s slots moments ahead c
    pub sampled : AreSampled g t was slots
    pub filed : HaveSampled g t was (length slots) moments

  -- the record of a run, or of a run up to a step
  abbrev pub IsRecordUpTo : List ℕ → Type 0
  IsRecordUpTo text =
      ((slots : List (List Moment)) × (c : Core) × IsSampledRun slots c × (text ≡ record_of t s slots))
      ⊎ ((slots : List (List Moment)) × (moments : List Moment) × (ahead : Ahead) × (c : Core) × IsSampledCut slots moments ahead c × (text ≡ record_of t s (moments ∷ slots)))

  -- a first part of such a record was written, and then writing failed, or there was no memory
  abbrev pub BreaksOff : Unwritten → Seen → Seen → Type 0
  BreaksOff fault start now = (text : List ℕ) × IsRecordUpTo text × HasFailed text fault start now

  -- all of a run up to a step was written, whose next step is refused
  abbrev pub StopsAt : BoardFault → Seen → Seen → Type 0
  StopsAt fault start now =
      (slots : List (List Moment)) × (moments : List Moment) × (ahead : Ahead) × (c : Core) × IsSampledCut slots moments ahead c × IsOfBoard fault × IsStopped ahead c fault
      × HasPut (record_of t s (moments ∷ slots)) start now

  -- what stands on the sink after a run that ended early
  abbrev pub EndsEarly : BoardStatus → Seen → Seen → Type 0
  EndsEarly WriteFault start now = BreaksOff write.Failed start now
  EndsEarly NoMemory start now = BreaksOff write.Memory start now
  EndsEarly (Board fault) start now = StopsAt fault start now
  EndsEarly status start now = ⊥

  -- What stands on the sink after a run, and how the sensors' counts of faults rose in it.
  abbrev pub Ends : List S → Result Unit BoardStatus → Seen → Seen → Type 0
  Ends is (Ok done) start now =
      (slots : List (List Moment)) × (c : Core) × IsSampledRun slots c × AreCounted g t was is slots × HasPut (record_of t s slots) start now
  Ends is (Err status) start now = EndsEarly status start now
