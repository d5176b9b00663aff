-- What was written, with what is still to come, stays what comes of the record.
use Rattle.std.proofs.Common.{◌≡◌, ℕ, List, [], ◌++◌, Option, Some, None, Result, Ok, Err, refl, sym, ap, subst, ◌∙◌, append_assoc}
use Rattle.std.specs.Prelude.{IfSome, IsSome}
use Rattle.ground_history.specs.Ground.{IsAnswer}
use Rattle.ground_history.specs.declared.answer.SentFault.{SentFault}
use Rattle.ground_history.specs.declared.answer.SentFault.TheVariants as sent
use Rattle.session_record.specs.Writing.{Writes}
use Rattle.session_record.specs.declared.entry.WriteFault.{WriteFault as WriteError}
use Rattle.session_record.specs.declared.entry.WriteFault.TheVariants as write
use Rattle.session_record.specs.Reading.{Reading, Answers, GoesOn, to_come}
use Rattle.session_record.specs.Written.{IsWritten, IsPrefixWritten}
use Rattle.session_record.specs.declared.entry.Entry.{Entry}
use Rattle.decommutator.specs.Standing.{Decommutation, entry_answer}
use Rattle.decommutator.specs.Follows.{FollowAnswers, FollowWrites, FollowCounts}
use Rattle.decommutator.specs.declared.fault.FollowFault.{FollowFault}
use Rattle.decommutator.specs.declared.fault.FollowFault.TheVariants.{Sent, Write}
use Rattle.decommutator.specs.Following.{followed_text, after_followed, closing_text}
use Rattle.followed_records.specs.Told.{Told, told_text, told_problem}
use Rattle.followed_records.specs.Faults.{fault_of_entry, fault_of_following, fault_of_writing}
use Rattle.followed_records.specs.Following.{told_after, told_by, told_entry, told_rest, told_from, Closes, Follows, FollowsAll, FollowsEntry, FollowsUntil, SinkCounts}
use Rattle.followed_records.specs.declared.fault.FollowingFault.{FollowingFault}
use Rattle.followed_records.specs.declared.fault.FollowingFault.TheVariants.{Record, ReadFault, WriteFault, Memory}
use Rattle.followed_records.proofs.WrittenLemmas.{written_none, written_then, written_as, prefix_as, prefix_none, prefix_part, prefix_behind}
use Rattle.followed_records.proofs.ToldLemmas.{after_none, after_twice}
use Rattle.followed_records.proofs.ReadingLemmas.{none_told, entry_next, end_next}

-- What was written of octets, where the shelf has `left` of them: those that it gave, what was written so far, and what comes of them whatever follows.
pub record FollowsOn (T : List ℕ → Told) (octets : List ℕ) (d : Decommutation) (r : Reading) (left : List ℕ) (before now : Option (List ℕ)) : Type 0 where
  pub given : List ℕ
  pub split : octets ≡ given ++ left
  pub done : List ℕ
  pub written : IsWritten before done now
  pub onward : (more : List ℕ) → T (given ++ more) ≡ told_after done (told_rest d (to_come r more))

-- the same where the shelf tells its octets
abbrev pub KeepsOn : (List ℕ → Told) → Option (List ℕ) → Decommutation → Reading → Option (List ℕ) → Option (List ℕ) → Option (List ℕ) → Type 0
KeepsOn T was d r rest before now = IfSome was (λ octets. IfSome rest (λ left. FollowsOn T octets d r left before now) × IsSome rest)

pub on_start : (d : Decommutation) (r : Reading) (was before : Option (List ℕ)) → KeepsOn (λ more. told_rest d (to_come r more)) was d r was before before
on_start d r None before = tt
on_start d r (Some octets) before = (record { given = []; split = refl; done = []; written = written_none before; onward = λ more. refl }, refl)

pub still_read : (T : List ℕ → Told) (was : Option (List ℕ)) (d : Decommutation) (r : Reading) (rest before now : Option (List ℕ)) → KeepsOn T was d r rest before now → IsSome was → IsSome rest
still_read T None d r rest before now keeps some = absurd (none_told some)
still_read T (Some octets) d r rest before now keeps some = keeps.1

-- what comes of an entry that was taken and of the rest
pub entry_taken : (d : Decommutation) (offset : ℕ) (e : Entry) (rest : Told) → entry_answer d.standing e ≡ Ok tt → told_entry d offset e rest ≡ told_after (followed_text d e) rest
entry_taken d offset e rest ok = ap (λ a. told_by offset a (followed_text d e) rest) ok

-- one more entry
pub on_next : (T : List ℕ → Told) (was : Option (List ℕ)) (d later : Decommutation) (r s : Reading) (rest left before now after : Option (List ℕ)) (x : ℕ × Entry)
    → KeepsOn T was d r rest before now → Answers (Ok (Some x)) r rest s left → GoesOn (Ok (Some x)) r rest s left → FollowsEntry (Ok later) d x.0 x.1 now after → KeepsOn T was later s left before after
on_next T None d later r s rest left before now after x keeps answers onward entry = tt
on_next T (Some octets) d later r s None left before now after x keeps answers onward entry = absurd (none_told keeps.1)
on_next T (Some octets) d later r s (Some m) None before now after x keeps answers onward entry = absurd (none_told answers.1)
on_next T (Some octets) d later r s (Some m) (Some a) before now after x keeps answers onward entry =
    let k = keeps.0 in
    let given = onward.0.0 in
    let text = followed_text d x.1 in
    let step : (more : List ℕ) → T ((k.given ++ given) ++ more) ≡ told_after (k.done ++ text) (told_rest later (to_come s more)) =
    λ more. ap T (append_assoc k.given given more)
    ∙ (k.onward (given ++ more)
    ∙ (ap (told_after k.done) (entry_next d x (to_come r (given ++ more)) (to_come s more) (onward.0.2 more))
    ∙ (ap (told_after k.done) (entry_taken d x.0 x.1 (told_rest (after_followed d x.1) (to_come s more)) entry.0)
    ∙ (after_twice k.done text (told_rest (after_followed d x.1) (to_come s more))
    ∙ ap (λ (y : Decommutation). told_after (k.done ++ text) (told_rest y (to_come s more))) (sym entry.1))))) in (
      record {
        given = k.given ++ given;
        split = k.split ∙ ap (λ xs. k.given ++ xs) onward.0.1 ∙ sym (append_assoc k.given given a);
        done = k.done ++ text;
        written = written_then before now after k.done text k.written entry.2;
        onward = step;
      },
      refl,
    )

pub text_after : (done : List ℕ) (x y : Told) → x ≡ told_after done y → told_text x ≡ done ++ told_text y
text_after done x y is = ap told_text is ∙ append_assoc done y.blocks y.ending

-- what was written up to a fault of what was still to come
pub behind : (T U : List ℕ → Told) (octets given rest done : List ℕ) (left before now after : Option (List ℕ)) (fault : FollowingFault)
    → octets ≡ given ++ rest → ((more : List ℕ) → T (given ++ more) ≡ told_after done (U more)) → IsWritten before done now
    → FollowsUntil fault U rest left now after → FollowsUntil fault T octets left before after
behind T U octets given rest done left before now after (Record found) split onward written h =
    let is = ap T split ∙ onward rest in (
      ap (λ (x : Told). x.problem) is ∙ h.0,
      written_as before after (done ++ told_text (U rest)) (told_text (T octets)) (text_after done (T octets) (U rest) is) (written_then before now after done (told_text (U rest)) written h.1),
    )
behind T U octets given rest done None before now after ReadFault split onward written h = absurd (none_told h.0.1)
behind T U octets given rest done (Some left) before now after ReadFault split onward written h =
    let is = ap T split ∙ onward rest in
    let more = h.0.0.0 in
    let blocks : (T (given ++ more)).blocks ≡ done ++ (U more).blocks = ap (λ (x : Told). x.blocks) (onward more) in (
      (
        (
          given ++ more,
          split ∙ ap (λ xs. given ++ xs) h.0.0.1 ∙ sym (append_assoc given more left),
          written_as before after (done ++ (U more).blocks) (T (given ++ more)).blocks blocks (written_then before now after done (U more).blocks written h.0.0.2),
        ),
        refl,
      ),
      prefix_as before after (done ++ told_text (U rest)) (told_text (T octets)) (text_after done (T octets) (U rest) is) (prefix_behind before now after done (told_text (U rest)) written h.1),
    )
behind T U octets given rest done left before now after WriteFault split onward written h =
    let is = ap T split ∙ onward rest in
    prefix_as before after (done ++ told_text (U rest)) (told_text (T octets)) (text_after done (T octets) (U rest) is) (prefix_behind before now after done (told_text (U rest)) written h)
behind T U octets given rest done left before now after Memory split onward written h =
    let is = ap T split ∙ onward rest in
    prefix_as before after (done ++ told_text (U rest)) (told_text (T octets)) (text_after done (T octets) (U rest) is) (prefix_behind before now after done (told_text (U rest)) written h)

-- the same where the shelf tells its octets
pub on_until : (T : List ℕ → Told) (was : Option (List ℕ)) (d : Decommutation) (r : Reading) (rest left before now after : Option (List ℕ)) (fault : FollowingFault)
    → KeepsOn T was d r rest before now → IfSome rest (λ octets. FollowsUntil fault (λ more. told_rest d (to_come r more)) octets left now after)
    → IfSome was (λ octets. FollowsUntil fault T octets left before after)
on_until T None d r rest left before now after fault keeps h = tt
on_until T (Some octets) d r None left before now after fault keeps h = absurd (none_told keeps.1)
on_until T (Some octets) d r (Some m) left before now after fault keeps h =
    let k = keeps.0 in
    behind T (λ more. told_rest d (to_come r more)) octets k.given m k.done left before now after fault k.split k.onward k.written h

-- an entry that wasn't followed
pub entry_ends : (T : List ℕ → Told) (octets : List ℕ) (d : Decommutation) (offset : ℕ) (e : Entry) (rest : Told) (left before after : Option (List ℕ)) (fault : FollowingFault)
    → T octets ≡ told_entry d offset e rest → FollowsEntry (Err fault) d offset e before after → FollowsUntil fault T octets left before after
entry_ends T octets d offset e rest left before after (Record found) is h =
    let all : T octets ≡ told_problem found = is ∙ h.0 rest in
    (ap (λ (x : Told). x.problem) all, subst (λ (o : Option (List ℕ)). IsWritten before (told_text (T octets)) o) (sym h.1) (written_as before before [] (told_text (T octets)) (ap told_text all) (written_none before)))
entry_ends T octets d offset e rest left before after ReadFault is h = absurd h
entry_ends T octets d offset e rest left before after WriteFault is h =
    let text = followed_text d e in
    prefix_as before after (text ++ told_text rest) (told_text (T octets)) (text_after text (T octets) rest (is ∙ entry_taken d offset e rest h.0)) (prefix_part before after text (told_text rest) h.1)
entry_ends T octets d offset e rest left before after Memory is h =
    subst (λ (x : Told). IsPrefixWritten before (told_text x) after) (sym is) (h rest)

-- the same of the first entry of what is still to come
pub next_ends : (d : Decommutation) (r s : Reading) (rest left now after : Option (List ℕ)) (x : ℕ × Entry) (fault : FollowingFault)
    → Answers (Ok (Some x)) r rest s left → FollowsEntry (Err fault) d x.0 x.1 now after → IfSome rest (λ octets. FollowsUntil fault (λ more. told_rest d (to_come r more)) octets left now after)
next_ends d r s None left now after x fault answers h = tt
next_ends d r s (Some m) None now after x fault answers h = absurd (none_told answers.1)
next_ends d r s (Some m) (Some a) now after x fault answers h =
    entry_ends (λ more. told_rest d (to_come r more)) m d x.0 x.1 (told_rest (after_followed d x.1) (to_come s a)) (Some a) now after fault
    (entry_next d x (to_come r m) (to_come s a) answers.0) h

-- the end of the record
pub on_end : (T : List ℕ → Told) (was : Option (List ℕ)) (d : Decommutation) (r s : Reading) (rest left before now : Option (List ℕ))
    → KeepsOn T was d r rest before now → Answers (Ok None) r rest s left → IfSome was (λ octets. FollowsAll (Ok d) T octets left before now)
on_end T None d r s rest left before now keeps answers = tt
on_end T (Some octets) d r s None left before now keeps answers = absurd (none_told keeps.1)
on_end T (Some octets) d r s (Some m) None before now keeps answers = absurd (none_told answers.1)
on_end T (Some octets) d r s (Some m) (Some a) before now keeps answers =
    let k = keeps.0 in
    (k.done, ap T k.split ∙ (k.onward m ∙ (ap (told_after k.done) (end_next d (to_come r m) answers.0.1) ∙ after_none k.done (closing_text d) None)), k.written)

-- what is written at the end
pub closes : (T : List ℕ → Told) (octets : List ℕ) (later : Decommutation) (left between before now after : Option (List ℕ)) (result : Result Unit FollowingFault)
    → FollowsAll (Ok later) T octets between before now → Closes result (closing_text later) now after → Follows result T octets left before after
closes T octets later left between before now after (Ok done) all h =
    (ap (λ (x : Told). x.problem) all.1, written_as before after (all.0 ++ closing_text later) (told_text (T octets)) (ap told_text all.1) (written_then before now after all.0 (closing_text later) all.2 h))
closes T octets later left between before now after (Err (Record found)) all h = absurd h
closes T octets later left between before now after (Err ReadFault) all h = absurd h
closes T octets later left between before now after (Err WriteFault) all h =
    prefix_as before after (all.0 ++ closing_text later) (told_text (T octets)) (ap told_text all.1) (prefix_behind before now after all.0 (closing_text later) all.2 h)
closes T octets later left between before now after (Err Memory) all h =
    prefix_as before after (all.0 ++ closing_text later) (told_text (T octets)) (ap told_text all.1) (prefix_behind before now after all.0 (closing_text later) all.2 h)

-- an entry that is refused
pub entry_refused : (d : Decommutation) (offset : ℕ) (e : Entry) (before after : Option (List ℕ)) (f : SentFault) → IsAnswer {X = Unit} (entry_answer d.standing e) (Err f) → after ≡ before
    → FollowsEntry (Err (fault_of_entry f offset)) d offset e before after
entry_refused d offset e before after sent.Memory answer is =
    λ rest. let text = told_text (told_entry d offset e rest) in subst (λ (o : Option (List ℕ)). IsPrefixWritten before text o) (sym is) (prefix_none before text)
entry_refused d offset e before after sent.BadRequest answer is = (λ rest. ap (λ a. told_by offset a (followed_text d e) rest) answer, is)
entry_refused d offset e before after (sent.WrongCount a b) answer is = (λ rest. ap (λ a. told_by offset a (followed_text d e) rest) answer, is)
entry_refused d offset e before after (sent.Reused a) answer is = (λ rest. ap (λ a. told_by offset a (followed_text d e) rest) answer, is)
entry_refused d offset e before after sent.SessionFull answer is = (λ rest. ap (λ a. told_by offset a (followed_text d e) rest) answer, is)
entry_refused d offset e before after (sent.WindowFull k) answer is = (λ rest. ap (λ a. told_by offset a (followed_text d e) rest) answer, is)

-- an entry whose blocks weren't written whole
pub entry_unwritten : (d : Decommutation) (offset : ℕ) (e : Entry) (before after : Option (List ℕ)) (f : WriteError) → entry_answer d.standing e ≡ Ok tt → Writes (followed_text d e) (Err f) before after
    → FollowsEntry (Err (fault_of_writing f)) d offset e before after
entry_unwritten d offset e before after write.Failed ok part = (ok, part)
entry_unwritten d offset e before after write.Memory ok part =
    λ rest.
    let text = followed_text d e in
    prefix_as before after (text ++ told_text rest) (told_text (told_entry d offset e rest)) (text_after text (told_entry d offset e rest) rest (entry_taken d offset e rest ok)) (prefix_part before after text (told_text rest) part)

-- an entry that wasn't followed, by its fault
pub entry_failed : (d : Decommutation) (offset : ℕ) (e : Entry) (before after : Option (List ℕ)) (f : FollowFault) → FollowAnswers {X = Decommutation} (entry_answer d.standing e) (Err f)
    → FollowWrites {X = Decommutation} (followed_text d e) (Err f) before after → FollowsEntry (Err (fault_of_following f offset)) d offset e before after
entry_failed d offset e before after (Sent f) answer writes = entry_refused d offset e before after f answer writes
entry_failed d offset e before after (Write f) answer writes = entry_unwritten d offset e before after f answer writes

-- the count of the sink by that fault
pub counts_failed : (f : FollowFault) (offset before now : ℕ) → FollowCounts {X = Decommutation} (Err f) before now → SinkCounts {X = Decommutation} (Err (fault_of_following f offset)) before now
counts_failed (Sent sent.Memory) offset before now is = is
counts_failed (Sent sent.BadRequest) offset before now is = is
counts_failed (Sent (sent.WrongCount a b)) offset before now is = is
counts_failed (Sent (sent.Reused a)) offset before now is = is
counts_failed (Sent sent.SessionFull) offset before now is = is
counts_failed (Sent (sent.WindowFull k)) offset before now is = is
counts_failed (Write write.Failed) offset before now is = is
counts_failed (Write write.Memory) offset before now is = is

-- what was written by how what was still to come ended
pub behind_all : (T U : List ℕ → Told) (octets given rest done : List ℕ) (left before now after : Option (List ℕ)) (result : Result Unit FollowingFault)
    → octets ≡ given ++ rest → ((more : List ℕ) → T (given ++ more) ≡ told_after done (U more)) → IsWritten before done now
    → Follows result U rest left now after → Follows result T octets left before after
behind_all T U octets given rest done left before now after (Ok unit) split onward written h =
    let is = ap T split ∙ onward rest in (
      ap (λ (x : Told). x.problem) is ∙ h.0,
      written_as before after (done ++ told_text (U rest)) (told_text (T octets)) (text_after done (T octets) (U rest) is) (written_then before now after done (told_text (U rest)) written h.1),
    )
behind_all T U octets given rest done left before now after (Err fault) split onward written h = behind T U octets given rest done left before now after fault split onward written h

from_taken : (d later : Decommutation) (offset : ℕ) (e : Entry) (r : Reading) (before now : Option (List ℕ)) → FollowsEntry (Ok later) d offset e before now
    → (more : List ℕ) → told_from d offset e r more ≡ told_after (followed_text d e) (told_rest later (to_come r more))
from_taken d later offset e r before now entry more =
    entry_taken d offset e (told_rest (after_followed d e) (to_come r more)) entry.0 ∙ ap (λ (y : Decommutation). told_after (followed_text d e) (told_rest y (to_come r more))) (sym entry.1)

-- the first entry wasn't followed
pub from_ends : (rest : Option (List ℕ)) (d : Decommutation) (offset : ℕ) (e : Entry) (r : Reading) (left before after : Option (List ℕ)) (fault : FollowingFault)
    → FollowsEntry (Err fault) d offset e before after → IfSome rest (λ octets. Follows (Err fault) (λ more. told_from d offset e r more) octets left before after)
from_ends None d offset e r left before after fault entry = tt
from_ends (Some octets) d offset e r left before after fault entry =
    entry_ends (λ more. told_from d offset e r more) octets d offset e (told_rest (after_followed d e) (to_come r octets)) left before after fault refl entry

-- it was, and a later one wasn't
pub from_until : (rest : Option (List ℕ)) (d later : Decommutation) (offset : ℕ) (e : Entry) (r : Reading) (left before now after : Option (List ℕ)) (fault : FollowingFault)
    → FollowsEntry (Ok later) d offset e before now → IfSome rest (λ octets. FollowsUntil fault (λ more. told_rest later (to_come r more)) octets left now after)
    → IfSome rest (λ octets. Follows (Err fault) (λ more. told_from d offset e r more) octets left before after)
from_until None d later offset e r left before now after fault entry h = tt
from_until (Some octets) d later offset e r left before now after fault entry h =
    behind (λ more. told_from d offset e r more) (λ more. told_rest later (to_come r more)) octets [] octets (followed_text d e) left before now after fault refl (from_taken d later offset e r before now entry) entry.2 h

-- all were, and then the end was written
pub from_all : (rest : Option (List ℕ)) (d later last : Decommutation) (offset : ℕ) (e : Entry) (r : Reading) (left before now then after : Option (List ℕ)) (result : Result Unit FollowingFault)
    → FollowsEntry (Ok later) d offset e before now → IfSome rest (λ octets. FollowsAll (Ok last) (λ more. told_rest later (to_come r more)) octets left now then)
    → Closes result (closing_text last) then after → IfSome rest (λ octets. Follows result (λ more. told_from d offset e r more) octets left before after)
from_all None d later last offset e r left before now then after result entry h end = tt
from_all (Some octets) d later last offset e r left before now then after result entry h end =
    behind_all (λ more. told_from d offset e r more) (λ more. told_rest later (to_come r more)) octets [] octets (followed_text d e) left before now after result refl (from_taken d later offset e r before now entry) entry.2
    (closes (λ more. told_rest later (to_come r more)) octets last left left now then after result h end)
