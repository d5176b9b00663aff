-- What the status is of a fault that a part of a run ended with.
use Rattle.std.proofs.Common.{◌≡◌, ◌⊎◌, inl, inr, ℕ, List, Bool, false, Option, Some, None, Result, Ok, Err, refl, sym, subst}
use Rattle.std.specs.Prelude.{⊤, IfSome, IsErrAnd, IsSome, IsErrOf, OnOk, is_err}
use Rattle.hk_base.specs.TailoringParts.{TailoringParts}
use Rattle.hk_base.specs.Outside.{Counts, Selects}
use Rattle.hk_base.specs.declared.outside.Failed.{Failed}
use Rattle.hk_tailoring.specs.declared.fault.TailoringFault.{TailoringFault}
use Rattle.session_record.specs.Reading.{Reading, Answers, HasHeader}
use Rattle.session_record.specs.declared.entry.Entry.{Entry}
use Rattle.session_record.specs.declared.entry.RecordFault.{RecordFault}
use Rattle.session_record.specs.declared.entry.RecordFault.TheVariants as record_fault
use Rattle.ground_history.specs.declared.answer.SentFault.{SentFault}
use Rattle.ground_history.specs.declared.answer.SentFault.TheVariants as sent
use Rattle.program_edge.specs.Faults.{ByLines, ByRecord, ByTailoring}
use Rattle.program_edge.specs.Inputs.{IsReadOut, TakesAtMost}
use Rattle.program_edge.specs.Names.{TailoringName}
use Rattle.program_edge.specs.Tailorings.{octets_of, EndsWithout, IsAbsent, IsAbsentFile, MovesIn, StandsFor}
use Rattle.program_edge.specs.declared.fault.RunFault.{RunFault}
use Rattle.program_edge.specs.declared.fault.RunFault.TheVariants as run
use Rattle.program_edge.proofs.ReaderLemmas.{read_out_at_end, read_out_since, told_on}
use Rattle.record_commands.specs.Encoding.{encoded, Encodes}
use Rattle.record_commands.specs.Showing.{IsShownAsGiven, Shows}
use Rattle.record_commands.specs.Trimming.{HasReadWhole}
use Rattle.followed_records.specs.Faults.{ByFollowing}
use Rattle.followed_records.specs.Told.{Told}
use Rattle.followed_records.specs.Following.{FollowsUntil, IsFollowedAsGiven}
use Rattle.followed_records.specs.declared.fault.FollowingFault.{FollowingFault}
use Rattle.followed_records.specs.declared.fault.FollowingFault.TheVariants as following
use Rattle.hk_replay.specs.Words.{RecordCommand, replay, follow, show, on_record, encode}
use Rattle.hk_replay.specs.Faults.{status_of_entry, status_of_fault, status_of_following, status_of_run, IsPlain}
use Rattle.hk_replay.specs.Outcomes.{Outcome, encode_outcome, made_outcome}
use Rattle.hk_replay.specs.Replay.{EndsWith, HasOutput, IsReadingStatus, WritesNothingElse, WritesNothingOf}
use Rattle.hk_replay.specs.Inputs.{told_under, check_outcome, EndsWithoutInput, IsFaultUnder}
use Rattle.hk_replay.specs.Taking.{IsReadOutAfter}
use Rattle.hk_replay.specs.declared.status.ReplayStatus.{ReplayStatus}
use Rattle.hk_replay.specs.declared.status.ReplayStatus.TheVariants as status
use Rattle.hk_replay.proofs.TakingLemmas.{ended_early}

-- no run that ended by a fault is done
pub undone : (f : RunFault) → status_of_run f ≡ status.Done → ⊥
undone (run.Tailoring f) is = cc
undone (run.Record f) is = cc
undone (run.Line n) is = cc
undone run.ReadFault is = cc
undone run.WriteFault is = cc
undone run.NoMemory is = cc

-- nor were its words no form
pub used : (f : RunFault) → status_of_run f ≡ status.Usage → ⊥
used (run.Tailoring f) is = cc
used (run.Record f) is = cc
used (run.Line n) is = cc
used run.ReadFault is = cc
used run.WriteFault is = cc
used run.NoMemory is = cc

-- a run ends with a read fault by one alone
pub read_run : (f : RunFault) → status_of_run f ≡ status.ReadFault → f ≡ run.ReadFault
read_run (run.Tailoring f) is = absurd (cc is)
read_run (run.Record f) is = absurd (cc is)
read_run (run.Line n) is = absurd (cc is)
read_run run.ReadFault is = refl
read_run run.WriteFault is = absurd (cc is)
read_run run.NoMemory is = absurd (cc is)

-- and with a write fault by one alone
pub write_run : (f : RunFault) → status_of_run f ≡ status.WriteFault → f ≡ run.WriteFault
write_run (run.Tailoring f) is = absurd (cc is)
write_run (run.Record f) is = absurd (cc is)
write_run (run.Line n) is = absurd (cc is)
write_run run.ReadFault is = absurd (cc is)
write_run run.WriteFault is = refl
write_run run.NoMemory is = absurd (cc is)

-- reading a tailoring tells nothing of a sink
pub unwritten : (f : RunFault) → ByTailoring f → status_of_run f ≡ status.WriteFault → ⊥
unwritten (run.Tailoring f) causes is = cc is
unwritten (run.Record f) causes is = cc is
unwritten (run.Line n) causes is = cc is
unwritten run.ReadFault causes is = cc is
unwritten run.WriteFault causes is = causes
unwritten run.NoMemory causes is = cc is

-- a reading ended by a status of reading
pub reading_tailoring : (f : RunFault) → ByTailoring f → IsReadingStatus (status_of_run f)
reading_tailoring (run.Tailoring f) causes = tt
reading_tailoring (run.Record f) causes = absurd causes
reading_tailoring (run.Line n) causes = absurd causes
reading_tailoring run.ReadFault causes = tt
reading_tailoring run.WriteFault causes = absurd causes
reading_tailoring run.NoMemory causes = tt

-- its status has no other within
pub plain_tailoring : (f : RunFault) → ByTailoring f → IsPlain (status_of_run f)
plain_tailoring (run.Tailoring f) causes = causes
plain_tailoring (run.Record f) causes = absurd causes
plain_tailoring (run.Line n) causes = absurd causes
plain_tailoring run.ReadFault causes = tt
plain_tailoring run.WriteFault causes = absurd causes
plain_tailoring run.NoMemory causes = tt

pub plain_fault : (f : RecordFault) → IsPlain (status_of_fault f)
plain_fault record_fault.ReadFault = tt
plain_fault record_fault.Memory = tt
plain_fault record_fault.BadMagic = tt
plain_fault (record_fault.BadKind octet offset) = tt
plain_fault (record_fault.Cut offset) = tt
plain_fault (record_fault.TooLong offset) = tt
plain_fault (record_fault.TooManyEntries offset) = tt

pub undone_fault : (f : RecordFault) → status_of_fault f ≡ status.Done → ⊥
undone_fault record_fault.ReadFault is = cc
undone_fault record_fault.Memory is = cc
undone_fault record_fault.BadMagic is = cc
undone_fault (record_fault.BadKind octet offset) is = cc
undone_fault (record_fault.Cut offset) is = cc
undone_fault (record_fault.TooLong offset) is = cc
undone_fault (record_fault.TooManyEntries offset) is = cc

pub plain_entry : (f : SentFault) (offset : ℕ) → IsPlain (status_of_entry f offset)
plain_entry sent.Memory offset = tt
plain_entry sent.BadRequest offset = tt
plain_entry (sent.WrongCount expected found) offset = tt
plain_entry (sent.Reused count) offset = tt
plain_entry sent.SessionFull offset = tt
plain_entry (sent.WindowFull number) offset = tt

-- a run that made a record of lines ends plainly
pub plain_lines : (f : RunFault) → ByLines f → IsPlain (status_of_run f)
plain_lines (run.Tailoring f) causes = absurd causes
plain_lines (run.Record f) causes = absurd causes
plain_lines (run.Line n) causes = tt
plain_lines run.ReadFault causes = tt
plain_lines run.WriteFault causes = absurd causes
plain_lines run.NoMemory causes = tt

-- and by a status of reading
pub reading_lines : (f : RunFault) → ByLines f → IsReadingStatus (status_of_run f)
reading_lines (run.Tailoring f) causes = tt
reading_lines (run.Record f) causes = tt
reading_lines (run.Line n) causes = tt
reading_lines run.ReadFault causes = tt
reading_lines run.WriteFault causes = absurd causes
reading_lines run.NoMemory causes = tt

-- what ended it is what there was to make
pub unmade : (f : RunFault) (given : Result (List ℕ) ℕ) → Encodes (Err f) given → EndsWith (status_of_run f) (made_outcome given)
unmade run.ReadFault given is = tt
unmade run.NoMemory given is = tt
unmade (run.Line n) (Ok octets) is = absurd (cc is)
unmade (run.Line n) (Err refused) is = told refused n is
  where
    told : (a b : ℕ) → ◌≡◌ {A = Result (List ℕ) ℕ} (Err a) (Err b) → status.Text b ≡ status.Text a
    told a b is = cc
unmade (run.Tailoring f) given is = absurd is
unmade (run.Record f) given is = absurd is
unmade run.WriteFault given is = absurd is

-- a run that showed a record ends plainly
pub plain_record : (f : RunFault) → ByRecord f → IsPlain (status_of_run f)
plain_record (run.Tailoring f) causes = absurd causes
plain_record (run.Record f) causes = causes
plain_record (run.Line n) causes = tt
plain_record run.ReadFault causes = tt
plain_record run.WriteFault causes = tt
plain_record run.NoMemory causes = tt

pub nothing_record : (f : RunFault) (before after : Option (List ℕ)) → ByRecord f → WritesNothingElse (status_of_run f) before after
nothing_record (run.Tailoring f) before after causes = absurd causes
nothing_record (run.Record f) before after causes = tt
nothing_record (run.Line n) before after causes = absurd causes
nothing_record run.ReadFault before after causes = tt
nothing_record run.WriteFault before after causes = tt
nothing_record run.NoMemory before after causes = tt

-- a run that followed a record ends plainly
pub plain_following : (f : FollowingFault) → ByFollowing f → IsPlain (status_of_following f)
plain_following (following.Record p) causes = causes
plain_following following.ReadFault causes = tt
plain_following following.WriteFault causes = tt
plain_following following.Memory causes = tt

pub undone_following : (f : FollowingFault) → status_of_following f ≡ status.Done → ⊥
undone_following (following.Record p) is = cc
undone_following following.ReadFault is = cc
undone_following following.WriteFault is = cc
undone_following following.Memory is = cc

pub used_following : (f : FollowingFault) → status_of_following f ≡ status.Usage → ⊥
used_following (following.Record p) is = cc
used_following following.ReadFault is = cc
used_following following.WriteFault is = cc
used_following following.Memory is = cc

pub read_following : (f : FollowingFault) → status_of_following f ≡ status.ReadFault → f ≡ following.ReadFault
read_following (following.Record p) is = absurd (cc is)
read_following following.ReadFault is = refl
read_following following.WriteFault is = absurd (cc is)
read_following following.Memory is = absurd (cc is)

pub write_following : (f : FollowingFault) → status_of_following f ≡ status.WriteFault → f ≡ following.WriteFault
write_following (following.Record p) is = absurd (cc is)
write_following following.ReadFault is = absurd (cc is)
write_following following.WriteFault is = refl
write_following following.Memory is = absurd (cc is)

pub nothing_following : (f : FollowingFault) (before after : Option (List ℕ)) → WritesNothingElse (status_of_following f) before after
nothing_following (following.Record p) before after = tt
nothing_following following.ReadFault before after = tt
nothing_following following.WriteFault before after = tt
nothing_following following.Memory before after = tt

-- what was written of a record that was shown before a shelf failed
pub shown_given : (t : TailoringParts) (rest left before after : Option (List ℕ)) (f : RunFault) → IfSome rest (λ octets. Shows (Err f) t octets left before after)
    → IfSome rest (λ octets. status_of_run f ≡ status.ReadFault → IsShownAsGiven t octets left before after)
shown_given t None left before after f shows = tt
shown_given t (Some octets) left before after f shows = λ is. as_given f (read_run f is) shows
  where
    as_given : (g : RunFault) → g ≡ run.ReadFault → Shows (Err g) t octets left before after → IsShownAsGiven t octets left before after
    as_given (run.Tailoring f) is h = absurd h
    as_given (run.Record f) is h = absurd (cc is)
    as_given (run.Line n) is h = absurd h
    as_given run.ReadFault is h = h.0
    as_given run.WriteFault is h = absurd (cc is)
    as_given run.NoMemory is h = absurd (cc is)

-- what was written of a record that was followed before a shelf failed
pub followed_given : (told : List ℕ → Told) (rest left before after : Option (List ℕ)) (f : FollowingFault) → IfSome rest (λ octets. FollowsUntil f told octets left before after)
    → IfSome rest (λ octets. status_of_following f ≡ status.ReadFault → IsFollowedAsGiven told octets left before after)
followed_given told None left before after f follows = tt
followed_given told (Some octets) left before after f follows = λ is. as_given f (read_following f is) follows
  where
    as_given : (g : FollowingFault) → g ≡ following.ReadFault → FollowsUntil g told octets left before after → IsFollowedAsGiven told octets left before after
    as_given (following.Record p) is h = absurd (cc is)
    as_given following.ReadFault is h = h.0
    as_given following.WriteFault is h = absurd (cc is)
    as_given following.Memory is h = absurd (cc is)

-- what was made of a file that was selected is what is told of it
pub told_selected : (files : Option (List (List ℕ × List ℕ))) (name : List ℕ) (rest : Option (List ℕ)) (P : List ℕ → Type 0) → Selects files name rest → IfSome rest P → IfSome (octets_of files name) P
told_selected None name rest P selects holds = tt
told_selected (Some all) name rest P selects holds = subst (λ (o : Option (List ℕ)). IfSome o P) selects.1 holds

-- what ended a run on lines that were selected
pub lines_selected : (f : RunFault) (t : TailoringParts) (files : Option (List (List ℕ × List ℕ))) (name : List ℕ) (rest : Option (List ℕ)) → Selects files name rest
    → IfSome rest (λ octets. Encodes (Err f) (encoded t octets)) → IfSome (octets_of files name) (λ octets. EndsWith (status_of_run f) (encode_outcome t octets))
lines_selected f t files name rest selects is = told_selected files name rest (λ octets. EndsWith (status_of_run f) (encode_outcome t octets)) selects (each rest is)
  where
    each : (o : Option (List ℕ)) → IfSome o (λ octets. Encodes (Err f) (encoded t octets)) → IfSome o (λ octets. EndsWith (status_of_run f) (encode_outcome t octets))
    each None h = tt
    each (Some octets) h = unmade f (encoded t octets) h

-- a record that was selected and trimmed was read to its end or a cut
pub whole_read : (files : Option (List (List ℕ × List ℕ))) (name : List ℕ) (rest left : Option (List ℕ)) → Selects files name rest → HasReadWhole rest left → HasReadWhole (octets_of files name) left
whole_read None name rest left selects read = tt
whole_read (Some all) name rest left selects read = subst (λ (o : Option (List ℕ)). HasReadWhole o left) selects.1 read

-- how far a shelf was moved in a tailoring, and then in another input
pub moved_then : (most : ℕ) (files now : Option (List (List ℕ × List ℕ))) (tailoring : TailoringName) (name : List ℕ) (before mid left : Option (List ℕ)) → now ≡ files
    → MovesIn files tailoring before mid → (left ≡ mid) ⊎ TakesAtMost most (octets_of now name) left → MovesIn files tailoring before left ⊎ TakesAtMost most (octets_of files name) left
moved_then most files now tailoring name before mid left same moves (inl stays) = inl (subst (λ (o : Option (List ℕ)). MovesIn files tailoring before o) (sym stays) moves)
moved_then most files now tailoring name before mid left same moves (inr takes) = inr (subst (λ (fs : Option (List (List ℕ × List ℕ))). TakesAtMost most (octets_of fs name) left) same takes)

-- a run that ended while it read isn't done
pub undone_reading : (s : ReplayStatus) → IsReadingStatus s → s ≡ status.Done → ⊥
undone_reading s reading is = subst IsReadingStatus is reading

-- where nothing was written, nothing was
pub nothing_same : (command : RecordCommand) (s : ReplayStatus) (taken : Option (List ℕ)) → WritesNothingOf command s taken taken
nothing_same replay status.Done taken = tt
nothing_same replay status.Usage taken = refl
nothing_same replay status.ReadFault taken = refl
nothing_same replay status.WriteFault taken = tt
nothing_same replay status.NoMemory taken = tt
nothing_same replay (status.Tailoring f) taken = refl
nothing_same replay (status.Record p) taken = refl
nothing_same replay (status.Text n) taken = refl
nothing_same follow status.Done taken = tt
nothing_same follow status.Usage taken = refl
nothing_same follow status.ReadFault taken = tt
nothing_same follow status.WriteFault taken = tt
nothing_same follow status.NoMemory taken = tt
nothing_same follow (status.Tailoring f) taken = refl
nothing_same follow (status.Record p) taken = tt
nothing_same follow (status.Text n) taken = refl
nothing_same show status.Done taken = tt
nothing_same show status.Usage taken = refl
nothing_same show status.ReadFault taken = tt
nothing_same show status.WriteFault taken = tt
nothing_same show status.NoMemory taken = tt
nothing_same show (status.Tailoring f) taken = refl
nothing_same show (status.Record p) taken = tt
nothing_same show (status.Text n) taken = refl

-- a run without its tailoring ends so
pub without : (f : RunFault) (outcome : TailoringParts → List ℕ → Outcome) (octets : Option (List ℕ)) (meant : Result TailoringParts TailoringFault) → EndsWithout f meant
    → IfSome (told_under outcome octets meant) (EndsWith (status_of_run f))
without run.ReadFault outcome None (Ok t) ends = tt
without run.ReadFault outcome (Some x) (Ok t) ends = tt
without run.ReadFault outcome octets (Err e) ends = tt
without run.NoMemory outcome None (Ok t) ends = tt
without run.NoMemory outcome (Some x) (Ok t) ends = tt
without run.NoMemory outcome octets (Err e) ends = tt
without (run.Tailoring f) outcome octets (Ok t) ends = absurd (cc ends)
without (run.Tailoring f) outcome octets (Err e) ends = told e f ends
  where
    told : (a b : TailoringFault) → ◌≡◌ {A = Result TailoringParts TailoringFault} (Err a) (Err b) → status.Tailoring b ≡ status.Tailoring a
    told a b is = cc
without (run.Record f) outcome octets meant ends = absurd ends
without (run.Line n) outcome octets meant ends = absurd ends
without run.WriteFault outcome octets meant ends = absurd ends

-- and wrote nothing
pub without_output : (f : RunFault) (outcome : TailoringParts → List ℕ → Outcome) (octets : Option (List ℕ)) (meant : Result TailoringParts TailoringFault) (taken : Option (List ℕ))
    → ByTailoring f → EndsWithout f meant → IfSome (told_under outcome octets meant) (λ o. HasOutput (status_of_run f) o taken taken)
without_output f outcome octets meant taken causes ends = each (told_under outcome octets meant) (without f outcome octets meant ends)
  where
    each : (o : Option Outcome) → IfSome o (EndsWith (status_of_run f)) → IfSome o (λ x. HasOutput (status_of_run f) x taken taken)
    each None h = tt
    each (Some x) h = ended_early (status_of_run f) x taken (reading_tailoring f causes) h

-- the same of `check`
pub without_check : (f : RunFault) (meant : Result TailoringParts TailoringFault) → EndsWithout f meant → EndsWith (status_of_run f) (check_outcome meant)
without_check run.ReadFault meant ends = tt
without_check run.NoMemory meant ends = tt
without_check (run.Tailoring f) (Ok t) ends = absurd (cc ends)
without_check (run.Tailoring f) (Err e) ends = told e f ends
  where
    told : (a b : TailoringFault) → ◌≡◌ {A = Result TailoringParts TailoringFault} (Err a) (Err b) → status.Tailoring b ≡ status.Tailoring a
    told a b is = cc
without_check (run.Record f) meant ends = absurd ends
without_check (run.Line n) meant ends = absurd ends
without_check run.WriteFault meant ends = absurd ends

-- a tailoring that isn't there, or has a fault, ends a run that lacks an input
pub fault_under : {X : Type 0} (f : TailoringFault) (files : Option (List (List ℕ × List ℕ))) (tailoring : TailoringName)
    → (IsAbsent files tailoring → ◌≡◌ {A = Result X RunFault} (Err (run.Tailoring f)) (Err run.ReadFault))
    → ((meant : Result TailoringParts TailoringFault) → StandsFor files tailoring meant → EndsWithout (run.Tailoring f) meant) → IsFaultUnder files tailoring f
fault_under f files tailoring absent meant = ((λ gone. other f (absent gone)), meant)
  where
    other : {X : Type 0} (a : TailoringFault) → ◌≡◌ {A = Result X RunFault} (Err (run.Tailoring a)) (Err run.ReadFault) → ⊥
    other a is = cc

pub lacking_record : {X : Type 0} (f : RunFault) (files : Option (List (List ℕ × List ℕ))) (command : RecordCommand) (tailoring : TailoringName) (name : List ℕ) → ByTailoring f
    → (IsAbsent files tailoring → ◌≡◌ {A = Result X RunFault} (Err f) (Err run.ReadFault))
    → ((meant : Result TailoringParts TailoringFault) → StandsFor files tailoring meant → EndsWithout f meant)
    → EndsWithoutInput files (on_record command tailoring name) (status_of_run f)
lacking_record run.ReadFault files command tailoring name causes absent meant = tt
lacking_record run.NoMemory files command tailoring name causes absent meant = tt
lacking_record (run.Tailoring f) files command tailoring name causes absent meant = fault_under f files tailoring absent meant
lacking_record (run.Record f) files command tailoring name causes absent meant = absurd causes
lacking_record (run.Line n) files command tailoring name causes absent meant = absurd causes
lacking_record run.WriteFault files command tailoring name causes absent meant = absurd causes

pub lacking_lines : {X : Type 0} (f : RunFault) (files : Option (List (List ℕ × List ℕ))) (tailoring : TailoringName) (name : List ℕ) → ByTailoring f
    → (IsAbsent files tailoring → ◌≡◌ {A = Result X RunFault} (Err f) (Err run.ReadFault))
    → ((meant : Result TailoringParts TailoringFault) → StandsFor files tailoring meant → EndsWithout f meant)
    → EndsWithoutInput files (encode tailoring name) (status_of_run f)
lacking_lines run.ReadFault files tailoring name causes absent meant = tt
lacking_lines run.NoMemory files tailoring name causes absent meant = tt
lacking_lines (run.Tailoring f) files tailoring name causes absent meant = fault_under f files tailoring absent meant
lacking_lines (run.Record f) files tailoring name causes absent meant = absurd causes
lacking_lines (run.Line n) files tailoring name causes absent meant = absurd causes
lacking_lines run.WriteFault files tailoring name causes absent meant = absurd causes

-- an error that is known
pub err_and : {X : Type 0} (r : Result X ReplayStatus) (s : ReplayStatus) (P : ReplayStatus → Type 0) → IsErrOf r s → P s → IsErrAnd r P
err_and (Ok x) s P is holds = absurd (cc is)
err_and (Err e) s P is holds = subst P (sym_err e s is) holds
  where
    sym_err : {X : Type 0} (a b : ReplayStatus) → ◌≡◌ {A = Result X ReplayStatus} (Err a) (Err b) → b ≡ a
    sym_err a b is = cc

header_read : (first : Option (ℕ × Entry)) (q : Reading) → HasHeader (Ok first) q.header → IsSome q.header
header_read None q h = h
header_read (Some x) q h = h

-- what was read behind the first entry, from the start on
pub first_read : (first : Option (ℕ × Entry)) (r q : Reading) (was mid now : Option (List ℕ)) → Answers (Ok first) r was q mid → HasHeader (Ok first) q.header → IsReadOutAfter first mid now
    → IsReadOut was now
first_read None r q was mid now answer header out = subst (λ o. IsReadOut was o) (back out) (read_out_at_end r q was mid answer (header_read None q header))
  where
    back : now ≡ mid → mid ≡ now
    back is = cc
first_read (Some x) r q was mid now answer header out = read_out_since was mid now (λ some. told_on (Ok (Some x)) r q was was mid (λ h. h) answer some) out

-- of two inputs the second one isn't there
pub lacking_second : (files now : Option (List (List ℕ × List ℕ))) (tailoring : TailoringName) (name : List ℕ) (P : Type 0) → IsAbsent files tailoring ⊎ IsAbsentFile files name → now ≡ files
    → (IsAbsent files tailoring → ⊥) → (IsAbsentFile now name → P) → P
lacking_second files now tailoring name P (inl gone) same there second = absurd (there gone)
lacking_second files now tailoring name P (inr gone) same there second = second (subst (λ (fs : Option (List (List ℕ × List ℕ))). IsAbsentFile fs name) (sym same) gone)

pub ok_err : {T E : Type 0} (x : T) (e : E) → ◌≡◌ {A = Result T E} (Ok x) (Err e) → ⊥
ok_err x e is = cc

-- a call of the outside that was well leaves the count of its faults
pub uncounted : {T : Type 0} (r : Result T Failed) (before now : ℕ) → is_err r ≡ false → Counts before now r → now ≡ before
uncounted (Ok x) before now is counts = counts
uncounted (Err e) before now is counts = absurd (cc is)

-- what an Ok says
pub of_ok : {T E : Type 0} (r : Result T E) (P : Type 0) → is_err r ≡ false → OnOk r P → P
of_ok (Ok x) P is holds = holds
of_ok (Err e) P is holds = absurd (cc is)
