-- How a run ends, by what was written of its slots.
use Rattle.std.proofs.Common.{arith, zero, suc, false, ◌≡◌, ◌+◌, ◌<◌, ◌≤◌, ℕ, List, [], ◌∷◌, ◌++◌, length, take, Option, Some, None, Result, Ok, Err, ◌⊎◌, inl, inr, refl, sym, ap, subst, ◌∙◌, append-nil}
use Rattle.std.specs.Prelude.{IfSome, slice_get}
use Rattle.std.proofs.lemmas.List.{take_all}
use Rattle.hk_base.specs.TailoringParts.{TailoringParts}
use Rattle.hk_base.specs.declared.outside.Sensor.{Ghosts}
use Rattle.hk_world.specs.declared.moment.Moment.{Moment}
use Rattle.session_record.specs.Records.{header_octets, header_of}
use Rattle.session_record.specs.Writing.{Writes}
use Rattle.session_record.specs.declared.entry.WriteFault.{WriteFault as Unwritten}
use Rattle.session_record.specs.declared.entry.WriteFault.TheVariants as write
use Rattle.session_record.proofs.WritingLemmas.{writes-front}
use Rattle.board_steps.specs.Cores.{Core, new_core}
use Rattle.board_steps.specs.SlotRuns.{Ahead, IsSlot, IsPart, IsStopped, at_start, at_end}
use Rattle.board_steps.specs.declared.event.BoardFault.{BoardFault}
use Rattle.board_steps.specs.declared.event.BoardFault.TheVariants as fault
use Rattle.board_scripts.specs.declared.script.Script.{Script}
use Rattle.run_records.specs.Putting.{Seen, HasPut, HasFailed, Puts, lines_of}
use Rattle.run_records.proofs.PuttingLemmas.{puts-then, puts-front}
use Rattle.board_runs.specs.Slots.{uplinks}
use Rattle.board_runs.specs.Runs.{HasDone, HasRun, record_of}
use Rattle.board_runs.specs.Samplers.{AreSampled, HaveSampled, HasSampled, ordered_of}
use Rattle.run_slots.specs.Standing.{opening_octets}
use Rattle.hk_board.specs.Faults.{status_of_board, status_of_writing}
use Rattle.hk_board.specs.Progress.{DoesPart, RunsTo, IsSampledCut, IsRecordUpTo, EndsEarly}
use Rattle.hk_board.specs.declared.status.BoardStatus.{BoardStatus}
use Rattle.hk_board.specs.declared.status.BoardStatus.TheVariants.{Done, Usage, Tailoring, ReadFault, WriteFault, NoMemory, Script as BadScript, Board}
use Rattle.hk_board.proofs.StepLemmas.{does_none}

all_written : (a : List ℕ) (before after : Option (List ℕ)) → IfSome before (λ was. after ≡ Some (was ++ a)) → Writes a (Err write.Memory) before after
all_written a None after h = (length a, omega arith, tt)
all_written a (Some was) after h = (length a, omega arith, h ∙ ap (λ xs. Some (was ++ xs)) (sym (take_all (length a) a (omega arith))))

-- a text was put, and then there was no memory
pub put_whole : (a : List ℕ) (before now : Seen) → HasPut a before now → HasFailed a write.Memory before now
put_whole a before now put = record {
  written = all_written a before.taken now.taken put.took;
  count = put.count;
  room = tt;
}

-- what a run wrote of the slot after some: the packets that come and go, and then some moments
abbrev pub Extends : TailoringParts → Script → Type 0
Extends t s = (slots : List (List Moment)) (moments : List Moment) → record_of t s (moments ∷ slots) ≡ record_of t s slots ++ (opening_octets t s slots ++ lines_of moments)

-- no moment files nothing
none_filed : {S : Type 0} (g : Ghosts S) (t : TailoringParts) (was : List S) (slot : ℕ) → HaveSampled g t was slot []
none_filed g t was slot i = by (slice_get was i)
  where
    by : (o : Option _) → IfSome o (λ sensor. HasSampled g sensor (ordered_of t (length was) i) slot [])
    by None = tt
    by (Some sensor) = record { order = tt; given = tt }

module _ (t : TailoringParts) (s : Script) (law : Extends t s) (start : Seen) (slots : List (List Moment)) where
  -- the slot was opened: what is written of its moments comes behind that
  behind : (first mid : Seen) → HasPut (record_of t s slots) start first → HasPut (opening_octets t s slots) first mid → (moments : List Moment) (result : Result Unit Unwritten) (now : Seen)
      → Puts (lines_of moments) result mid now → Puts (record_of t s slots ++ (opening_octets t s slots ++ lines_of moments)) result start now
  behind first mid put opened moments result now puts =
      puts-then (record_of t s slots) (opening_octets t s slots ++ lines_of moments) result start first now put
      (puts-then (opening_octets t s slots) (lines_of moments) result first mid now opened puts)

  -- the slot was run and written
  pub slot_put : (first mid now : Seen) → HasPut (record_of t s slots) start first → HasPut (opening_octets t s slots) first mid → (moments : List Moment) → HasPut (lines_of moments) mid now
      → HasPut (record_of t s (moments ∷ slots)) start now
  slot_put first mid now put opened moments written =
      subst (λ text. HasPut text start now) (sym (law slots moments)) (behind first mid put opened moments (Ok tt) now written)

module _ {S : Type 0} (g : Ghosts S) (t : TailoringParts) (s : Script) (was : List S) (law : Extends t s) (start : Seen) (slots : List (List Moment)) (core : Core) (ran : HasRun t s slots core) (within : length slots < s.slots) (sampled : AreSampled g t was slots) where
  cut : (moments : List Moment) (ahead : Ahead) (after : Core) → DoesPart (uplinks t s slots) core moments ahead after → HaveSampled g t was (length slots) moments → IsSampledCut g t s was slots moments ahead after
  cut moments ahead after done filed = record { cut = record { count = within; began = (core, ran, done.0, done.1) }; sampled = sampled; filed = filed }

  breaks : (fault : Unwritten) (now : Seen) (moments : List Moment) (ahead : Ahead) (after : Core) → DoesPart (uplinks t s slots) core moments ahead after → HaveSampled g t was (length slots) moments
      → HasFailed (record_of t s slots ++ (opening_octets t s slots ++ lines_of moments)) fault start now
      → EndsEarly g t s was (status_of_writing fault) start now
  breaks write.Failed now moments ahead after done filed failed = (
    record_of t s (moments ∷ slots),
    inr (slots, moments, ahead, after, cut moments ahead after done filed, refl),
    subst (λ text. HasFailed text write.Failed start now) (sym (law slots moments)) failed,
  )
  breaks write.Memory now moments ahead after done filed failed = (
    record_of t s (moments ∷ slots),
    inr (slots, moments, ahead, after, cut moments ahead after done filed, refl),
    subst (λ text. HasFailed text write.Memory start now) (sym (law slots moments)) failed,
  )

  -- there was no memory before the slot was opened
  pub unordered : (now : Seen) → HasPut (record_of t s slots) start now → EndsEarly g t s was NoMemory start now
  unordered now put =
      breaks write.Memory now [] (at_start (uplinks t s slots)) core (does_none (uplinks t s slots) core) (none_filed g t was (length slots))
      (puts-front (record_of t s slots) (opening_octets t s slots ++ lines_of []) write.Memory start now (put_whole (record_of t s slots) start now put))

  -- writing ended while the slot was opened
  pub unopened : (fault : Unwritten) (mid now : Seen) → HasPut (record_of t s slots) start mid → HasFailed (opening_octets t s slots) fault mid now → EndsEarly g t s was (status_of_writing fault) start now
  unopened fault mid now put failed =
      breaks fault now [] (at_start (uplinks t s slots)) core (does_none (uplinks t s slots) core) (none_filed g t was (length slots))
      (puts-then (record_of t s slots) (opening_octets t s slots ++ []) (Err fault) start mid now put (puts-front (opening_octets t s slots) [] fault mid now failed))

  -- the slot ended early
  pub unended : (status : BoardStatus) (after : Core) (first mid now : Seen) → HasPut (record_of t s slots) start first → HasPut (opening_octets t s slots) first mid
      → ((moments : List Moment) → HasDone core moments after → HaveSampled g t was (length slots) moments) → RunsTo (uplinks t s slots) core after (Err status) mid now → EndsEarly g t s was status start now
  unended WriteFault after first mid now put opened filed (moments, ahead, done, failed) =
      breaks write.Failed now moments ahead after done (filed moments done.1) (behind t s law start slots first mid put opened moments (Err write.Failed) now failed)
  unended NoMemory after first mid now put opened filed (moments, ahead, done, failed) =
      breaks write.Memory now moments ahead after done (filed moments done.1) (behind t s law start slots first mid put opened moments (Err write.Memory) now failed)
  unended (Board fault) after first mid now put opened filed (moments, ahead, done, of_board, stopped, written) = (
    slots,
    moments,
    ahead,
    after,
    cut moments ahead after done (filed moments done.1),
    of_board,
    stopped,
    subst (λ text. HasPut text start now) (sym (law slots moments)) (behind t s law start slots first mid put opened moments (Ok tt) now written),
  )
  unended Done after first mid now put opened filed runs = runs
  unended Usage after first mid now put opened filed runs = runs
  unended (Tailoring fault) after first mid now put opened filed runs = runs
  unended ReadFault after first mid now put opened filed runs = runs
  unended (BadScript line) after first mid now put opened filed runs = runs

  -- it was, and then there was no memory
  pub unreported : (after : Core) (now : Seen) (moments : List Moment) → IsSlot (uplinks t s slots) core after → HasDone core moments after → HaveSampled g t was (length slots) moments
      → HasPut (record_of t s (moments ∷ slots)) start now → EndsEarly g t s was NoMemory start now
  unreported after now moments whole done filed put = (
    record_of t s (moments ∷ slots),
    inr (slots, moments, at_end, after, cut moments at_end after (whole, done) filed, refl),
    put_whole (record_of t s (moments ∷ slots)) start now put,
  )

-- Before the first slot: a first part of the header was written, or nothing.
pub unheaded : {S : Type 0} (g : Ghosts S) (t : TailoringParts) (s : Script) (was : List S) (law : Extends t s) (fault : Unwritten) (start now : Seen) → HasFailed (record_of t s []) fault start now
    → EndsEarly g t s was (status_of_writing fault) start now
unheaded {S} g t s was law fault start now failed = by s.slots refl fault failed
  where
    whole : s.slots ≡ 0 → IsRecordUpTo g t s was (record_of t s [])
    whole none = inl ([], new_core t, record { run = record { count = sym none; ran = refl }; sampled = tt }, refl)

    some : (f : Unwritten) → 0 < s.slots → HasFailed (record_of t s []) f start now → EndsEarly g t s was (status_of_writing f) start now
    some f more failed =
        breaks g t s was law start [] (new_core t) refl more tt f now [] (at_start (uplinks t s [])) (new_core t) (does_none (uplinks t s []) (new_core t)) (none_filed g t was 0)
        (puts-front (record_of t s []) (opening_octets t s [] ++ lines_of []) f start now failed)

    by : (n : ℕ) → s.slots ≡ n → (f : Unwritten) → HasFailed (record_of t s []) f start now → EndsEarly g t s was (status_of_writing f) start now
    by zero none write.Failed failed = (record_of t s [], whole none, failed)
    by zero none write.Memory failed = (record_of t s [], whole none, failed)
    by (suc n) more f failed = some f (omega (arith, more)) failed

-- a slot whose moments were written, by how it was run
pub slot_ran : (uplinks : List (List ℕ)) (before after : Core) (fault : BoardFault) (moments : List Moment) (ahead : Ahead) (was now : Seen) → DoesPart uplinks before moments ahead after
    → IsStopped ahead after fault → HasPut (lines_of moments) was now → RunsTo uplinks before after (Err (status_of_board fault)) was now
slot_ran uplinks before after fault.JournalFull moments ahead was now done stopped put = (moments, ahead, done, tt, stopped, put)
slot_ran uplinks before after fault.TimeExhausted moments ahead was now done stopped put = (moments, ahead, done, tt, stopped, put)
slot_ran uplinks before after fault.Memory moments ahead was now done stopped put = (moments, ahead, done, put_whole (lines_of moments) was now put)

-- a slot whose moments were written in part
pub slot_broken : (uplinks : List (List ℕ)) (before after : Core) (fault : Unwritten) (moments : List Moment) (ahead : Ahead) (was now : Seen) → DoesPart uplinks before moments ahead after
    → HasFailed (lines_of moments) fault was now → RunsTo uplinks before after (Err (status_of_writing fault)) was now
slot_broken uplinks before after write.Failed moments ahead was now done failed = (moments, ahead, done, failed)
slot_broken uplinks before after write.Memory moments ahead was now done failed = (moments, ahead, done, failed)

-- the record before the first slot is its header
header_only : (t : TailoringParts) (s : Script) → record_of t s [] ≡ header_octets (header_of s.known false)
header_only t s = append-nil (header_octets (header_of s.known false))

pub header_put : (t : TailoringParts) (s : Script) (start now : Seen) → HasPut (header_octets (header_of s.known false)) start now → HasPut (record_of t s []) start now
header_put t s start now put = subst (λ text. HasPut text start now) (sym (header_only t s)) put

pub header_failed : (t : TailoringParts) (s : Script) (fault : Unwritten) (start now : Seen) → HasFailed (header_octets (header_of s.known false)) fault start now → HasFailed (record_of t s []) fault start now
header_failed t s fault start now failed = subst (λ text. HasFailed text fault start now) (sym (header_only t s)) failed
