-- What a run comes to, by how it ended.
use Rattle.std.proofs.Common.{◌≡◌, ◌<◌, ◌≤◌, ℕ, List, [], length, true, false, Option, Some, None, Result, Ok, Err, ◌⊎◌, inl, inr, refl, sym, ap, subst, ◌∙◌}
use Rattle.std.specs.Prelude.{⊤, IfSome, IfErr, IsSome, OnOk}
use Rattle.std.specs.Option.{option_map}
use Rattle.std.proofs.lemmas.Option.{same_Some}
use Rattle.hk_base.specs.Outside.{HasRisen, Selects}
use Rattle.hk_base.specs.TailoringParts.{TailoringParts}
use Rattle.hk_base.specs.declared.outside.Sensor.{Ghosts}
use Rattle.hk_tailoring.specs.declared.fault.TailoringFault.{TailoringFault}
use Rattle.hk_world.specs.declared.moment.Moment.{Moment}
use Rattle.program_edge.specs.Faults.{IsOfTailoring, ByTailoring}
use Rattle.program_edge.specs.Names.{TailoringName}
use Rattle.program_edge.specs.Tailorings.{octets_of, EndsWithout, IsAbsent, StandsFor}
use Rattle.program_edge.specs.declared.fault.RunFault.{RunFault}
use Rattle.program_edge.specs.declared.fault.RunFault.TheVariants as run
use Rattle.session_record.specs.declared.entry.WriteFault.TheVariants as write
use Rattle.board_steps.specs.Cores.{Core}
use Rattle.board_steps.specs.SlotRuns.{Ahead, Comes, IsStopped}
use Rattle.board_steps.specs.Steps.{is_full, is_late}
use Rattle.board_steps.specs.declared.event.Event.{Event}
use Rattle.board_steps.specs.declared.event.BoardFault.{BoardFault}
use Rattle.board_steps.specs.declared.event.BoardFault.TheVariants as fault
use Rattle.board_scripts.specs.Outcomes.{IsScript}
use Rattle.board_scripts.specs.Scripts.{script_in}
use Rattle.board_scripts.specs.declared.fault.ScriptFault.{ScriptFault}
use Rattle.board_scripts.specs.declared.fault.ScriptFault.TheVariants as script
use Rattle.board_scripts.specs.declared.script.Script.{Script}
use Rattle.run_records.specs.Putting.{Seen}
use Rattle.run_records.proofs.PuttingLemmas.{puts-front, puts-nothing}
use Rattle.board_runs.specs.Bounds.{HasRoom}
use Rattle.board_runs.specs.Runs.{HasBegun, IsRecordOfRun, IsRecordOfCut, record_of}
use Rattle.hk_board.specs.Words.{Command}
use Rattle.hk_board.specs.Faults.{status_of_run, status_of_script, IsOfBoard, IsPlain}
use Rattle.hk_board.specs.Inputs.{Outcome, stopped, runs, script_outcome, outcome_under, Tells, TellsUnder}
use Rattle.hk_board.specs.Progress.{Ends, EndsEarly, IsRecordUpTo}
use Rattle.hk_board.specs.Outputs.{EndsWith, HasOutput, HasRoomFor}
use Rattle.hk_board.specs.Runs.{IsBoardRun, status_of}
use Rattle.hk_board.proofs.EndLemmas.{Extends, put_whole, unheaded}
use Rattle.hk_board.specs.declared.status.BoardStatus.{BoardStatus}
use Rattle.hk_board.specs.declared.status.BoardStatus.TheVariants.{Done, Usage, Tailoring, ReadFault, WriteFault, NoMemory, Script as BadScript, Board}

-- a status by which a run ends that hasn't begun
abbrev IsEarly : BoardStatus → Type 0
IsEarly (Tailoring f) = IsOfTailoring f
IsEarly (BadScript line) = ⊤
IsEarly ReadFault = ⊤
IsEarly NoMemory = ⊤
IsEarly status = ⊥

-- it wrote nothing
wrote_nothing : {S : Type 0} (g : Ghosts S) (was is : List S) (status : BoardStatus) (outcome : Outcome) (taken : Option (List ℕ)) → IsEarly status → EndsWith status outcome → HasOutput g was is status outcome taken taken
wrote_nothing g was is (Tailoring f) outcome taken early ends = (ends, refl)
wrote_nothing g was is (BadScript line) outcome taken early ends = (ends, refl)
wrote_nothing g was is ReadFault outcome taken early ends = (tt, refl)
wrote_nothing g was is NoMemory (stopped known) taken early ends = (tt, refl)
wrote_nothing g was is NoMemory (runs t s) taken early ends = inl refl
wrote_nothing g was is Done outcome taken early ends = absurd early
wrote_nothing g was is Usage outcome taken early ends = absurd early
wrote_nothing g was is WriteFault outcome taken early ends = absurd early
wrote_nothing g was is (Board f) outcome taken early ends = absurd early

unbegun : {S : Type 0} (g : Ghosts S) (was is : List S) (Told : Outcome → Type 0) (status : BoardStatus) (is_sound : Type 0) (faults after : ℕ) (taken : Option (List ℕ)) (room : Option ℕ) (unwritten : ℕ) → IsEarly status
    → (status ≡ ReadFault → HasRisen faults after) → ((outcome : Outcome) → Told outcome → EndsWith status outcome) → (is_sound → (outcome : Outcome) → Told outcome → after ≡ faults)
    → IsBoardRun g was is Told status is_sound faults after taken taken room unwritten unwritten
unbegun g was is Told (Tailoring f) is_sound faults after taken room unwritten early risen ends sound = record {
  used = λ e. cc e;
  read_fault = risen;
  write_fault = λ e. absurd (cc e);
  plain = early;
  bounded = λ t s tells enough b e. cc e;
  nothing = refl;
  output = λ outcome tells. (ends outcome tells, refl);
  sound = sound;
  enough = λ outcome tells enough. refl;
}
unbegun g was is Told (BadScript line) is_sound faults after taken room unwritten early risen ends sound = record {
  used = λ e. cc e;
  read_fault = risen;
  write_fault = λ e. absurd (cc e);
  plain = tt;
  bounded = λ t s tells enough b e. cc e;
  nothing = refl;
  output = λ outcome tells. (ends outcome tells, refl);
  sound = sound;
  enough = λ outcome tells enough. refl;
}
unbegun g was is Told ReadFault is_sound faults after taken room unwritten early risen ends sound = record {
  used = λ e. cc e;
  read_fault = risen;
  write_fault = λ e. absurd (cc e);
  plain = tt;
  bounded = λ t s tells enough b e. cc e;
  nothing = refl;
  output = λ outcome tells. (tt, refl);
  sound = sound;
  enough = λ outcome tells enough. refl;
}
unbegun g was is Told NoMemory is_sound faults after taken room unwritten early risen ends sound = record {
  used = λ e. cc e;
  read_fault = risen;
  write_fault = λ e. absurd (cc e);
  plain = tt;
  bounded = λ t s tells enough b e. cc e;
  nothing = tt;
  output = λ outcome tells. wrote_nothing g was is NoMemory outcome taken tt tt;
  sound = sound;
  enough = λ outcome tells enough. refl;
}
unbegun g was is Told Done is_sound faults after taken room unwritten early risen ends sound = absurd early
unbegun g was is Told Usage is_sound faults after taken room unwritten early risen ends sound = absurd early
unbegun g was is Told WriteFault is_sound faults after taken room unwritten early risen ends sound = absurd early
unbegun g was is Told (Board f) is_sound faults after taken room unwritten early risen ends sound = absurd early

-- no step of a script with room is refused
abbrev pub Unstopped : TailoringParts → Script → Type 0
Unstopped t s =
    (slots : List (List Moment)) (moments : List Moment) (ahead : Ahead) (c : Core) (event : Event) (later : Ahead) → length slots < s.slots → HasBegun t s slots moments ahead c
    → Comes ahead c event later → (is_full c event ≡ false) × (is_late c event ≡ false)

unrefused : (ahead : Ahead) (c : Core) (f : BoardFault) → IsOfBoard f → IsStopped ahead c f
    → ((event : Event) (later : Ahead) → Comes ahead c event later → (is_full c event ≡ false) × (is_late c event ≡ false)) → ⊥
unrefused ahead c fault.JournalFull of_board stop free =
    let at = stop (λ is. cc is) in
    let room = free at.0 at.1 at.2 in
    absurd (cc (sym at.4 ∙ room.0))
unrefused ahead c fault.TimeExhausted of_board stop free =
    let at = stop (λ is. cc is) in
    let room = free at.0 at.1 at.2 in
    absurd (cc (sym at.4.1 ∙ room.1))
unrefused ahead c fault.Memory of_board stop free = of_board

-- the room that a script asks for
abbrev RoomOf : Outcome → Type 0
RoomOf (stopped known) = ⊤
RoomOf (runs t s) = HasRoom t s

-- the record of a run with its samples is that of a run
as_record : {S : Type 0} (g : Ghosts S) (t : TailoringParts) (s : Script) (was : List S) (text : List ℕ) → IsRecordUpTo g t s was text → IsRecordOfRun t s text ⊎ IsRecordOfCut t s text
as_record g t s was text (inl (slots, c, run, is)) = inl (slots, c, run.run, is)
as_record g t s was text (inr (slots, moments, ahead, c, cut, is)) = inr (slots, moments, ahead, c, cut.cut, is)

-- a run that began, by what it wrote
pub began : {S : Type 0} (g : Ghosts S) (t : TailoringParts) (s : Script) (was is : List S) (result : Result Unit BoardStatus) (start now : Seen) (Told : Outcome → Type 0) (is_sound : Type 0) (faults after : ℕ) → Ends g t s was is result start now
    → (HasRoom t s → Unstopped t s) → ((outcome : Outcome) → Told outcome → outcome ≡ runs t s) → (is_sound → (outcome : Outcome) → Told outcome → after ≡ faults)
    → IsBoardRun g was is Told (status_of result) is_sound faults after start.taken now.taken start.room start.faults now.faults
began g t s was is (Ok done) start now Told is_sound faults after (slots, c, run, counted, put) free same sound = record {
  used = λ e. cc e;
  read_fault = λ e. absurd (cc e);
  write_fault = λ e. absurd (cc e);
  plain = tt;
  bounded = λ u r tells enough b e. cc e;
  nothing = tt;
  output = λ outcome tells. subst (λ (o : Outcome). HasOutput g was is Done o start.taken now.taken) (sym (same outcome tells)) (slots, c, run, counted, put.took);
  sound = sound;
  enough = λ outcome tells enough. put.count;
}
began g t s was is (Err WriteFault) start now Told is_sound faults after (text, up_to, failed) free same sound = record {
  used = λ e. cc e;
  read_fault = λ e. absurd (cc e);
  write_fault = λ e. failed.count.1;
  plain = tt;
  bounded = λ u r tells enough b e. cc e;
  nothing = tt;
  output = λ outcome tells. subst (λ (o : Outcome). HasOutput g was is WriteFault o start.taken now.taken) (sym (same outcome tells)) (inr (text, up_to, failed.written));
  sound = sound;
  enough = λ outcome tells enough.
      let room = subst (HasRoomFor start.room) (same outcome tells) enough in
      absurd (subst (λ r. IfSome r (λ n. length text ≤ n → ⊥)) room.1 failed.room (room.2 text (as_record g t s was text up_to)));
}
began g t s was is (Err NoMemory) start now Told is_sound faults after (text, up_to, failed) free same sound = record {
  used = λ e. cc e;
  read_fault = λ e. absurd (cc e);
  write_fault = λ e. absurd (cc e);
  plain = tt;
  bounded = λ u r tells enough b e. cc e;
  nothing = tt;
  output = λ outcome tells. subst (λ (o : Outcome). HasOutput g was is NoMemory o start.taken now.taken) (sym (same outcome tells)) (inr (text, up_to, failed.written));
  sound = sound;
  enough = λ outcome tells enough. failed.count;
}
began g t s was is (Err (Board f)) start now Told is_sound faults after (slots, moments, ahead, c, cut, of_board, stop, put) free same sound = record {
  used = λ e. cc e;
  read_fault = λ e. absurd (cc e);
  write_fault = λ e. absurd (cc e);
  plain = of_board;
  bounded = λ u r tells enough b e.
      unrefused ahead c f of_board stop (λ event later comes. free (subst RoomOf (same (runs u r) tells) enough) slots moments ahead c event later cut.cut.count cut.cut.began comes);
  nothing = tt;
  output = λ outcome tells. subst (λ (o : Outcome). HasOutput g was is (Board f) o start.taken now.taken) (sym (same outcome tells)) (slots, moments, ahead, c, cut, stop, put.took);
  sound = sound;
  enough = λ outcome tells enough. put.count;
}
began g t s was is (Err Done) start now Told is_sound faults after ended free same sound = absurd ended
began g t s was is (Err Usage) start now Told is_sound faults after ended free same sound = absurd ended
began g t s was is (Err (Tailoring f)) start now Told is_sound faults after ended free same sound = absurd ended
began g t s was is (Err ReadFault) start now Told is_sound faults after ended free same sound = absurd ended
began g t s was is (Err (BadScript line)) start now Told is_sound faults after ended free same sound = absurd ended

-- what a script tells that was read
pub script_told : (t : TailoringParts) (s : Script) (octets : Option (List ℕ)) (outcome : Outcome) → IfSome octets (λ o. IsScript (Ok s) (script_in t o)) → TellsUnder t octets outcome → outcome ≡ runs t s
script_told t s None outcome read told = absurd (cc told)
script_told t s (Some octets) outcome read told = sym (same_Some (script_outcome t (script_in t octets)) outcome told) ∙ ap (script_outcome t) read

-- a script that wasn't read
unread : (t : TailoringParts) (f : ScriptFault) (octets : Option (List ℕ)) (outcome : Outcome) → IfSome octets (λ o. IsScript {X = Script} (Err f) (script_in t o)) → TellsUnder t octets outcome → EndsWith (status_of_script f) outcome
unread t f None outcome read told = absurd (cc told)
unread t (script.Line line) (Some octets) outcome read told =
    subst (EndsWith (BadScript line)) (sym (ap (script_outcome t) read) ∙ same_Some (script_outcome t (script_in t octets)) outcome told) refl
unread t script.ReadFault (Some octets) outcome read told = tt
unread t script.Memory (Some octets) outcome read told = tt

early_script : (f : ScriptFault) → IsEarly (status_of_script f)
early_script (script.Line line) = tt
early_script script.ReadFault = tt
early_script script.Memory = tt

risen_script : (f : ScriptFault) (risen : Type 0) → (f ≡ script.ReadFault → risen) → status_of_script f ≡ ReadFault → risen
risen_script (script.Line line) risen by is = absurd (cc is)
risen_script script.ReadFault risen by is = by refl
risen_script script.Memory risen by is = absurd (cc is)

pub unscripted : {S : Type 0} (g : Ghosts S) (was is : List S) (t : TailoringParts) (f : ScriptFault) (octets : Option (List ℕ)) (is_sound : Type 0) (faults after : ℕ) (taken : Option (List ℕ)) (room : Option ℕ) (unwritten : ℕ)
    → IfSome octets (λ o. IsScript {X = Script} (Err f) (script_in t o)) → (f ≡ script.ReadFault → HasRisen faults after) → (is_sound → (outcome : Outcome) → TellsUnder t octets outcome → after ≡ faults)
    → IsBoardRun g was is (TellsUnder t octets) (status_of_script f) is_sound faults after taken taken room unwritten unwritten
unscripted g was is t f octets is_sound faults after taken room unwritten read risen sound =
    unbegun g was is (TellsUnder t octets) (status_of_script f) is_sound faults after taken room unwritten (early_script f) (risen_script f (HasRisen faults after) risen)
    (λ outcome told. unread t f octets outcome read told) sound

-- a name that can't be selected
pub unselected_run : {S : Type 0} (g : Ghosts S) (was is : List S) (Told : Outcome → Type 0) (is_sound : Type 0) (faults after : ℕ) (taken : Option (List ℕ)) (room : Option ℕ) (unwritten : ℕ) → HasRisen faults after
    → (is_sound → (outcome : Outcome) → Told outcome → after ≡ faults) → IsBoardRun g was is Told ReadFault is_sound faults after taken taken room unwritten unwritten
unselected_run g was is Told is_sound faults after taken room unwritten risen sound =
    unbegun g was is Told ReadFault is_sound faults after taken room unwritten tt (λ is. risen) (λ outcome told. tt) sound

-- a tailoring that wasn't read
early_tailoring : (f : RunFault) → ByTailoring f → IsEarly (status_of_run f)
early_tailoring (run.Tailoring f) causes = causes
early_tailoring (run.Record f) causes = absurd causes
early_tailoring (run.Line line) causes = absurd causes
early_tailoring run.ReadFault causes = tt
early_tailoring run.WriteFault causes = absurd causes
early_tailoring run.NoMemory causes = tt

risen_tailoring : (f : RunFault) (risen : Type 0) → (f ≡ run.ReadFault → risen) → status_of_run f ≡ ReadFault → risen
risen_tailoring (run.Tailoring f) risen by is = absurd (cc is)
risen_tailoring (run.Record f) risen by is = absurd (cc is)
risen_tailoring (run.Line line) risen by is = absurd (cc is)
risen_tailoring run.ReadFault risen by is = by refl
risen_tailoring run.WriteFault risen by is = absurd (cc is)
risen_tailoring run.NoMemory risen by is = absurd (cc is)

unmeant : (f : RunFault) (octets : Option (List ℕ)) (meant : Result TailoringParts TailoringFault) (outcome : Outcome) → ByTailoring f → EndsWithout f meant → outcome_under octets meant ≡ Some outcome
    → EndsWith (status_of_run f) outcome
unmeant (run.Tailoring f) octets meant outcome causes without told =
    let same = subst (λ m. outcome_under octets m ≡ Some outcome) without told in
    subst (EndsWith (Tailoring f)) (same_Some (stopped (Tailoring f)) outcome same) refl
unmeant (run.Record f) octets meant outcome causes without told = absurd causes
unmeant (run.Line line) octets meant outcome causes without told = absurd causes
unmeant run.ReadFault octets meant outcome causes without told = tt
unmeant run.WriteFault octets meant outcome causes without told = absurd causes
unmeant run.NoMemory octets meant outcome causes without told = tt

pub untailored : {S : Type 0} (g : Ghosts S) (was is : List S) (f : RunFault) (files : Option (List (List ℕ × List ℕ))) (command : Command) (is_sound : Type 0) (faults after : ℕ) (taken : Option (List ℕ)) (room : Option ℕ) (unwritten : ℕ) → ByTailoring f
    → ((meant : Result TailoringParts TailoringFault) → StandsFor files command.tailoring meant → EndsWithout f meant) → (f ≡ run.ReadFault → HasRisen faults after)
    → (is_sound → (meant : Result TailoringParts TailoringFault) → StandsFor files command.tailoring meant → after ≡ faults)
    → IsBoardRun g was is (Tells files command) (status_of_run f) is_sound faults after taken taken room unwritten unwritten
untailored g was is f files command is_sound faults after taken room unwritten causes without risen sound =
    unbegun g was is (Tells files command) (status_of_run f) is_sound faults after taken room unwritten (early_tailoring f causes) (risen_tailoring f (HasRisen faults after) risen)
    (λ outcome told. unmeant f (octets_of files command.script) told.0 outcome causes (without told.0 told.1) told.2)
    (λ safe outcome told. sound safe told.0 told.1)

-- a run whose inputs are known by more
pub known_by : {S : Type 0} (g : Ghosts S) (was is : List S) (Told Known : Outcome → Type 0) (status : BoardStatus) (is_sound safe : Type 0) (faults mid after : ℕ) (taken now : Option (List ℕ)) (room : Option ℕ) (unwritten last : ℕ)
    → IsBoardRun g was is Known status safe mid after taken now room unwritten last → ((outcome : Outcome) → Told outcome → Known outcome) → (HasRisen mid after → HasRisen faults after)
    → (is_sound → (outcome : Outcome) → Told outcome → safe × (mid ≡ faults)) → IsBoardRun g was is Told status is_sound faults after taken now room unwritten last
known_by g was is Told Known status is_sound safe faults mid after taken now room unwritten last run more risen sound = record {
  used = run.used;
  read_fault = λ e. risen (run.read_fault e);
  write_fault = run.write_fault;
  plain = run.plain;
  bounded = λ t s told enough b e. run.bounded t s (more (runs t s) told) enough b e;
  nothing = run.nothing;
  output = λ outcome told. run.output outcome (more outcome told);
  sound = λ safe_now outcome told. let first = sound safe_now outcome told in run.sound first.0 outcome (more outcome told) ∙ first.1;
  enough = λ outcome told enough. run.enough outcome (more outcome told) enough;
}

-- There was no memory before the run began.
pub nothing_begun : {S : Type 0} (g : Ghosts S) (t : TailoringParts) (s : Script) (was : List S) → Extends t s → (start : Seen) → EndsEarly g t s was NoMemory start start
nothing_begun g t s was law start =
    unheaded g t s was law write.Memory start start (puts-front [] (record_of t s []) write.Memory start start (put_whole [] start start (puts-nothing start)))

-- a run that ended early isn't done
pub undone : {S : Type 0} (g : Ghosts S) (t : TailoringParts) (s : Script) (was is : List S) (result : Result Unit BoardStatus) (start now : Seen) → Ends g t s was is result start now → IfErr result (λ status. status ≡ Done → ⊥)
undone g t s was is (Ok done) start now ended = tt
undone g t s was is (Err Done) start now ended = absurd ended
undone g t s was is (Err Usage) start now ended = λ e. cc e
undone g t s was is (Err (Tailoring f)) start now ended = λ e. cc e
undone g t s was is (Err ReadFault) start now ended = λ e. cc e
undone g t s was is (Err WriteFault) start now ended = λ e. cc e
undone g t s was is (Err NoMemory) start now ended = λ e. cc e
undone g t s was is (Err (BadScript line)) start now ended = λ e. cc e
undone g t s was is (Err (Board f)) start now ended = λ e. cc e

pub undone_script : (f : ScriptFault) → status_of_script f ≡ Done → ⊥
undone_script (script.Line line) is = cc is
undone_script script.ReadFault is = cc is
undone_script script.Memory is = cc is

pub undone_tailoring : (f : RunFault) → status_of_run f ≡ Done → ⊥
undone_tailoring (run.Tailoring f) is = cc is
undone_tailoring (run.Record f) is = cc is
undone_tailoring (run.Line line) is = cc is
undone_tailoring run.ReadFault is = cc is
undone_tailoring run.WriteFault is = cc is
undone_tailoring run.NoMemory is = cc is

-- what holds on Ok holds of a run that is done
pub if_done : (result : Result Unit BoardStatus) (P : Type 0) → IfErr result (λ status. status ≡ Done → ⊥) → OnOk result P → status_of result ≡ Done → P
if_done (Ok done) P undone holds is = holds
if_done (Err status) P undone holds is = absurd (undone is)

-- a script that tells an outcome is there
pub some_told : (t : TailoringParts) (octets : Option (List ℕ)) (outcome : Outcome) → TellsUnder t octets outcome → IsSome octets
some_told t None outcome told = absurd (cc told)
some_told t (Some octets) outcome told = refl

-- a name that tells an outcome was selected
pub selected_told : (t : TailoringParts) (files : Option (List (List ℕ × List ℕ))) (name : List ℕ) (rest : Option (List ℕ)) (outcome : Outcome) → Selects files name rest → TellsUnder t (octets_of files name) outcome
    → TellsUnder t rest outcome
selected_told t None name rest outcome selects told = absurd (cc told)
selected_told t (Some all) name rest outcome selects told = subst (λ o. TellsUnder t o outcome) (sym selects.1) told

-- what the files tell of a command whose tailoring was read
pub tailoring_told : (t : TailoringParts) (files : Option (List (List ℕ × List ℕ))) (command : Command) (outcome : Outcome)
    → ((meant : Result TailoringParts TailoringFault) → StandsFor files command.tailoring meant → meant ≡ Ok t) → Tells files command outcome → TellsUnder t (octets_of files command.script) outcome
tailoring_told t files command outcome meant told = subst (λ m. outcome_under (octets_of files command.script) m ≡ Some outcome) (meant told.0 told.1) told.2
