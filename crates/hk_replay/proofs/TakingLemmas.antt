-- The outcome of what is still to come stays what it is while entries are taken.
use Rattle.std.proofs.Common.{arith, append-nil, ◌≡◌, ℕ, List, ◌++◌, Option, Some, None, Result, Ok, Err, refl, sym, ap, subst, ◌∙◌}
use Rattle.std.specs.Prelude.{Bool, IfSome, IsSome, MatchResult, option_map}
use Rattle.std.specs.Result.{result_unwrap_or}
use Rattle.hk_base.specs.TailoringParts.{TailoringParts}
use Rattle.session_record.specs.Records.{Entries, entries_from, entry_before, read_record}
use Rattle.session_record.specs.Reading.{Reading, Answers, IsFirst, no_entries, read_on, reading_at_start, to_come}
use Rattle.session_record.specs.declared.header.Header.{Header}
use Rattle.session_record.specs.declared.entry.Entry.{Entry}
use Rattle.session_record.specs.declared.entry.RecordFault.{RecordFault}
use Rattle.session_record.specs.declared.entry.RecordFault.TheVariants.{BadMagic, BadKind, Cut, TooLong, TooManyEntries, ReadFault, Memory}
use Rattle.session_texts.specs.declared.problem.RecordProblem.TheVariants as problem
use Rattle.decommutator.specs.Standing.{Standing, new_standing, standing_text}
use Rattle.hk_replay.specs.Faults.{status_of_fault}
use Rattle.session_record.specs.Written.{IsPrefixWritten}
use Rattle.hk_replay.specs.Outcomes.{Outcome, written, stopped, listed, replay_outcome}
use Rattle.hk_replay.specs.Replay.{EndsWith, HasOutput, IsReadingStatus}
use Rattle.hk_replay.specs.Taking.{entries_outcome, first_outcome, rest_outcome}
use Rattle.hk_replay.specs.declared.status.ReplayStatus.{ReplayStatus}
use Rattle.hk_replay.specs.declared.status.ReplayStatus.TheVariants as status
use Rattle.hk_replay.specs.declared.status.ReplayStatus.TheVariants.{Record}
use Rattle.hk_replay.proofs.SessionLemmas.{Stands, whole_record, no_record}

none_told : IsSome {T = List ℕ} None → ⊥
none_told e = cc

-- what is still to come, after what stands for the entries so far, has the outcome of what was to come
abbrev pub KeepsOutcome : Standing → Reading → Option (List ℕ) → Standing → Reading → Option (List ℕ) → Type 0
KeepsOutcome before start was s r rest =
    IfSome was (λ octets. IfSome rest (λ left. rest_outcome s (to_come r left) ≡ rest_outcome before (to_come start octets)) × IsSome rest)

first_none : (s : Standing) (was now : Result (Header × Entries) RecordFault) → IsFirst (Ok None) was now → rest_outcome s was ≡ written (standing_text s)
first_none s (Ok b) now first = ap (λ (es : Entries). entries_outcome s es.list es.fault) first.1
first_none s (Err f) now first = absurd first.1

first_behind : (s : Standing) (fault : RecordFault) (was : Result (Header × Entries) RecordFault)
    → MatchResult was (λ b. b.1 ≡ no_entries (Some fault)) (λ f. ⊥) → rest_outcome s was ≡ stopped (Record (problem.Format fault))
first_behind s fault (Ok b) h = ap (λ (es : Entries). entries_outcome s es.list es.fault) h
first_behind s fault (Err f) h = absurd h

ends_as : (s : Standing) (status : ReplayStatus) (was : Result (Header × Entries) RecordFault) (outcome : Outcome) → rest_outcome s was ≡ outcome → EndsWith status outcome
    → EndsWith status (rest_outcome s was)
ends_as s status was outcome is ends = subst (λ (o : Outcome). EndsWith status o) (sym is) ends

first_fault : (s : Standing) (fault : RecordFault) (was now : Result (Header × Entries) RecordFault)
    → IsFirst (Err fault) was now → EndsWith (status_of_fault fault) (rest_outcome s was)
first_fault s BadMagic was now h = ends_as s (status_of_fault BadMagic) was (stopped (Record (problem.Format BadMagic))) (ap (rest_outcome s) h.1) refl
first_fault s (BadKind k o) was now h = ends_as s (status_of_fault (BadKind k o)) was (stopped (Record (problem.Format (BadKind k o)))) (first_behind s (BadKind k o) was h.1) refl
first_fault s (Cut o) was now h = ends_as s (status_of_fault (Cut o)) was (stopped (Record (problem.Format (Cut o)))) (first_behind s (Cut o) was h.1) refl
first_fault s (TooLong o) was now h = ends_as s (status_of_fault (TooLong o)) was (stopped (Record (problem.Format (TooLong o)))) (first_behind s (TooLong o) was h.1) refl
first_fault s (TooManyEntries o) was now h = ends_as s (status_of_fault (TooManyEntries o)) was (stopped (Record (problem.Format (TooManyEntries o)))) (first_behind s (TooManyEntries o) was h.1) refl
first_fault s ReadFault was now h = tt
first_fault s Memory was now h = tt

same_ok : (x y : Header × Entries) → ◌≡◌ {A = Result (Header × Entries) RecordFault} (Ok x) (Ok y) → x.0 ≡ y.0
same_ok x y e = ap (λ r. (result_unwrap_or r x).0) e

header_read : (h : Header) (fault : Option RecordFault) (room offset : ℕ) (octets : List ℕ) (b : Header × Entries) → read_on (Some h) fault room offset octets ≡ Ok b → b.0 ≡ h
header_read h None room offset octets b e = sym (same_ok (h, entries_from room offset octets) b e)
header_read h (Some fault) room offset octets b e = sym (same_ok (h, no_entries (Some fault)) b e)

-- a header that was read is that of what is still to come
header_of_rest : (r : Reading) (a : List ℕ) (b : Header × Entries) (h : Header) → r.header ≡ Some h → to_come r a ≡ Ok b → b.0 ≡ h
header_of_rest r a b h is e = header_read h r.fault r.room r.offset (r.held ++ a) b (ap (λ o. read_on o r.fault r.room r.offset (r.held ++ a)) (sym is) ∙ e)

same_fault : (f g : RecordFault) → ◌≡◌ {A = Result (Header × Entries) RecordFault} (Err f) (Err g) → f ≡ g
same_fault f g e = cc

told_header : (t : TailoringParts) (h : Header) (known long : Bool) → Some h.known ≡ Some known → Some h.long ≡ Some long → new_standing t h.known h.long ≡ new_standing t known long
told_header t h known long k l = cc

-- the entries of octets whose header was read have the outcome of their record
header_outcome : Stands → (t : TailoringParts) (octets : List ℕ) (left : Header × Entries) (es : Entries) (h : Header) (known long : Bool)
    → read_record octets ≡ Ok (left.0, es) → left.0 ≡ h → Some h.known ≡ Some known → Some h.long ≡ Some long
    → rest_outcome (new_standing t known long) (read_record octets) ≡ replay_outcome t octets
header_outcome stands t octets left es h known long is header k l =
    ap (rest_outcome (new_standing t known long)) is
    ∙ (ap (λ (s : Standing). rest_outcome s (Ok (left.0, es))) (sym (told_header t h known long k l) ∙ ap (λ (g : Header). new_standing t g.known g.long) (sym header))
    ∙ sym (whole_record stands t octets (left.0, es) is))

start_outcome : Stands → (t : TailoringParts) (octets : List ℕ) (q : Reading) (a : List ℕ) (first : Option (ℕ × Entry)) (now : Result (Header × Entries) RecordFault) (header : Option Header) (known long : Bool)
    → q.header ≡ header → to_come q a ≡ now → IsFirst (Ok first) (read_record octets) now
    → option_map (λ (h : Header). h.known) header ≡ Some known → option_map (λ (h : Header). h.long) header ≡ Some long
    → rest_outcome (new_standing t known long) (read_record octets) ≡ replay_outcome t octets
start_outcome stands t octets q a first now None known long is come answer k l = absurd (cc k)
start_outcome stands t octets q a (Some x) (Err f) (Some h) known long is come answer k l = absurd answer
start_outcome stands t octets q a (Some x) (Ok left) (Some h) known long is come answer k l =
    header_outcome stands t octets left (entry_before x.0 x.1 left.1) h known long answer (header_of_rest q a left h is come) k l
start_outcome stands t octets q a None now (Some h) known long is come answer k l = at_end (read_record octets) refl answer
  where
    at_end : (r : Result (Header × Entries) RecordFault) → read_record octets ≡ r → IsFirst (Ok None) r now → rest_outcome (new_standing t known long) (read_record octets) ≡ replay_outcome t octets
    at_end (Ok b) e first = header_outcome stands t octets b b.1 h known long e (header_of_rest q a b h is (come ∙ first.0)) k l
    at_end (Err f) e first = absurd first.1

first_is : (s : Standing) (first : Option (ℕ × Entry)) (was now : Result (Header × Entries) RecordFault) → IsFirst (Ok first) was now → first_outcome s first now ≡ rest_outcome s was
first_is s (Some x) was (Ok left) answer = sym (ap (rest_outcome s) answer)
first_is s (Some x) was (Err f) answer = absurd answer
first_is s None was now answer = sym (first_none s was now answer)

-- what holds of the outcome of the first entry and of what is still to come holds of that of the record
pub of_first : Stands → (P : Outcome → Type 0) (t : TailoringParts) (s : Standing) (q : Reading) (was rest : Option (List ℕ)) (first : Option (ℕ × Entry)) (known long : Bool)
    → s ≡ new_standing t known long → Answers (Ok first) reading_at_start was q rest
    → Some known ≡ option_map (λ (h : Header). h.known) q.header → Some long ≡ option_map (λ (h : Header). h.long) q.header
    → IfSome rest (λ left. P (first_outcome s first (to_come q left))) → IfSome was (λ octets. P (replay_outcome t octets))
of_first stands P t s q None rest first known long new answer k l holds = tt
of_first stands P t s q (Some octets) None first known long new answer k l holds = absurd (none_told answer.1)
of_first stands P t s q (Some octets) (Some a) first known long new answer k l holds =
    subst P (first_is s first (read_record octets) (to_come q a) answer.0
    ∙ (ap (λ (x : Standing). rest_outcome x (read_record octets)) new
    ∙ start_outcome stands t octets q a first (to_come q a) q.header known long refl refl answer.0 (sym k) (sym l))) holds

start_fault : Stands → (t : TailoringParts) (octets : List ℕ) (fault : RecordFault) (now : Result (Header × Entries) RecordFault) → IsFirst (Err fault) (read_record octets) now
    → EndsWith (status_of_fault fault) (replay_outcome t octets)
start_fault stands t octets fault now answer = by_reading (read_record octets) refl answer
  where
    without_header : (f g : RecordFault) → read_record octets ≡ Err f → IsFirst (Err g) (Err f) now → EndsWith (status_of_fault g) (stopped (Record (problem.Format f)))
    without_header f BadMagic is first = ap (λ (x : RecordFault). Record (problem.Format x)) (same_fault BadMagic f (sym first.1))
    without_header f (BadKind k o) is first = absurd first.1
    without_header f (Cut o) is first = absurd first.1
    without_header f (TooLong o) is first = absurd first.1
    without_header f (TooManyEntries o) is first = absurd first.1
    without_header f ReadFault is first = tt
    without_header f Memory is first = tt

    by_reading : (r : Result (Header × Entries) RecordFault) → read_record octets ≡ r → IsFirst (Err fault) r now → EndsWith (status_of_fault fault) (replay_outcome t octets)
    by_reading (Ok x) is first =
        subst (λ (o : Outcome). EndsWith (status_of_fault fault) o) (sym (whole_record stands t octets x is)) (first_fault (new_standing t x.0.known x.0.long) fault (Ok x) now first)
    by_reading (Err f) is first = subst (λ (o : Outcome). EndsWith (status_of_fault fault) o) (sym (no_record t octets f is)) (without_header f fault is first)

-- a fault before the first entry
pub start_ends : Stands → (t : TailoringParts) (q : Reading) (was rest : Option (List ℕ)) (fault : RecordFault) → Answers (Err fault) reading_at_start was q rest
    → IfSome was (λ octets. EndsWith (status_of_fault fault) (replay_outcome t octets))
start_ends stands t q None rest fault answer = tt
start_ends stands t q (Some octets) None fault answer = absurd (none_told answer.1)
start_ends stands t q (Some octets) (Some a) fault answer = start_fault stands t octets fault (to_come q a) answer.0

pub nothing_written : (before : Option (List ℕ)) (text : List ℕ) → IsPrefixWritten before text before
nothing_written None text = (0, omega arith, tt)
nothing_written (Some taken) text = (0, omega arith, ap Some (sym (append-nil taken)))

-- a run that ended while it read wrote nothing
pub ended_early : (status : ReplayStatus) (outcome : Outcome) (before : Option (List ℕ)) → IsReadingStatus status → EndsWith status outcome → HasOutput status outcome before before
ended_early status.Done outcome before reading ends = absurd reading
ended_early status.Usage outcome before reading ends = absurd reading
ended_early status.WriteFault outcome before reading ends = absurd reading
ended_early status.ReadFault (written text) before reading ends = (tt, refl)
ended_early status.ReadFault (stopped known) before reading ends = (tt, refl)
ended_early status.ReadFault (listed text known) before reading ends = nothing_written before text
ended_early status.NoMemory (written text) before reading ends = nothing_written before text
ended_early status.NoMemory (stopped known) before reading ends = (tt, refl)
ended_early status.NoMemory (listed text known) before reading ends = nothing_written before text
ended_early (status.Tailoring f) (written text) before reading ends = absurd ends
ended_early (status.Tailoring f) (stopped known) before reading ends = (ends, refl)
ended_early (status.Tailoring f) (listed text known) before reading ends = absurd ends
ended_early (Record p) (written text) before reading ends = absurd ends
ended_early (Record p) (stopped known) before reading ends = (ends, refl)
ended_early (Record p) (listed text known) before reading ends = absurd ends
ended_early (status.Text n) (written text) before reading ends = absurd ends
ended_early (status.Text n) (stopped known) before reading ends = (ends, refl)
ended_early (status.Text n) (listed text known) before reading ends = absurd ends

-- the same by octets that the shelf told
pub ended_output : (f : List ℕ → Outcome) (was : Option (List ℕ)) (status : ReplayStatus) (before : Option (List ℕ)) → IsReadingStatus status
    → IfSome was (λ octets. EndsWith status (f octets)) → IfSome was (λ octets. HasOutput status (f octets) before before)
ended_output f None status before reading ends = tt
ended_output f (Some octets) status before reading ends = ended_early status (f octets) before reading ends

is_of_reading : (fault : RecordFault) → IsReadingStatus (status_of_fault fault)
is_of_reading BadMagic = tt
is_of_reading (BadKind k o) = tt
is_of_reading (Cut o) = tt
is_of_reading (TooLong o) = tt
is_of_reading (TooManyEntries o) = tt
is_of_reading ReadFault = tt
is_of_reading Memory = tt

-- a fault before the first entry ends the run, and nothing was written
pub start_output : Stands → (t : TailoringParts) (q : Reading) (was rest before : Option (List ℕ)) (fault : RecordFault) → Answers (Err fault) reading_at_start was q rest
    → IfSome was (λ octets. HasOutput (status_of_fault fault) (replay_outcome t octets) before before)
start_output stands t q None rest before fault answer = tt
start_output stands t q (Some octets) rest before fault answer =
    ended_early (status_of_fault fault) (replay_outcome t octets) before (is_of_reading fault) (start_ends stands t q (Some octets) rest fault answer)

-- where the shelf told its octets it still does
pub still_told : (result : Result (Option (ℕ × Entry)) RecordFault) (r q : Reading) (was rest : Option (List ℕ)) → Answers result r was q rest → IsSome was → IsSome rest
still_told result r q None rest answer told = absurd (none_told told)
still_told result r q (Some octets) rest answer told = answer.1

-- what was told is told still
pub kept_told : (before : Standing) (start : Reading) (was : Option (List ℕ)) (s : Standing) (r : Reading) (rest : Option (List ℕ)) → KeepsOutcome before start was s r rest → IsSome was → IsSome rest
kept_told before start None s r rest keeps some = absurd (none_told some)
kept_told before start (Some octets) s r rest keeps some = keeps.1
