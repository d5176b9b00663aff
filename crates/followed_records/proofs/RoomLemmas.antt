-- Room for what is written stays room for what is still to be written.
use Rattle.std.proofs.Common.{arith, ◌≡◌, ◌+◌, ◌-◌, ◌≤◌, ℕ, List, length, Option, Some, None, Result, Ok, Err, refl, sym, ap, subst, ◌∙◌, length-append}
use Rattle.std.specs.Prelude.{IfSome, IsSome}
use Rattle.session_record.specs.Reading.{Reading, Answers, to_come}
use Rattle.session_record.specs.declared.entry.Entry.{Entry}
use Rattle.session_record.specs.declared.entry.RecordFault.{RecordFault}
use Rattle.session_record.specs.declared.entry.RecordFault.TheVariants as fault
use Rattle.decommutator.specs.Standing.{Decommutation, entry_answer}
use Rattle.decommutator.specs.Following.{followed_text, after_followed, closing_text}
use Rattle.followed_records.specs.Told.{Told, told_text}
use Rattle.session_record.specs.declared.entry.WriteFault.{WriteFault as WriteError}
use Rattle.session_record.specs.declared.entry.WriteFault.TheVariants as write
use Rattle.ground_history.specs.declared.answer.SentFault.{SentFault}
use Rattle.ground_history.specs.declared.answer.SentFault.TheVariants as sent
use Rattle.decommutator.specs.Output.{FinishesWithin}
use Rattle.decommutator.specs.Follows.{FollowsWithin}
use Rattle.decommutator.specs.declared.fault.FollowFault.{FollowFault}
use Rattle.decommutator.specs.declared.fault.FollowFault.TheVariants.{Sent, Write}
use Rattle.followed_records.specs.Faults.{fault_of_entry, fault_of_following, fault_of_reading, fault_of_writing}
use Rattle.followed_records.specs.Following.{told_end, told_entry, told_rest, told_from, FollowsEntry, HasRoomLeft, IsUnfailed, LeavesRoom, WithRoom}
use Rattle.followed_records.specs.declared.fault.FollowingFault.{FollowingFault}
use Rattle.followed_records.specs.declared.fault.FollowingFault.TheVariants.{Record, ReadFault, WriteFault, Memory}
use Rattle.followed_records.proofs.ReadingLemmas.{none_told, entry_next, end_next}
use Rattle.followed_records.proofs.FollowingLemmas.{entry_taken, text_after}

-- where the room is told and enough for all that comes, it is enough for what is still to come
abbrev pub KeepsRoom : (List ℕ → Told) → Option (List ℕ) → Option ℕ → Decommutation → Reading → Option (List ℕ) → Option ℕ → Type 0
KeepsRoom T was room d r rest now =
    IfSome was (λ octets. IfSome room (λ whole. length (told_text (T octets)) ≤ whole
    → IfSome rest (λ left. IfSome now (λ free. length (told_text (told_rest d (to_come r left))) ≤ free) × IsSome now) × IsSome rest))

pub room_start : (d : Decommutation) (r : Reading) (was : Option (List ℕ)) (room : Option ℕ) → KeepsRoom (λ more. told_rest d (to_come r more)) was room d r was room
room_start d r None room = tt
room_start d r (Some octets) None = tt
room_start d r (Some octets) (Some free) = λ enough. ((enough, refl), refl)

no_room : IsSome {T = ℕ} None → ⊥
no_room e = cc

-- room for an entry that is taken, and for the rest
pub entry_fits : (x rest : Told) (d : Decommutation) (offset : ℕ) (e : Entry) (free : ℕ) → x ≡ told_entry d offset e rest → entry_answer d.standing e ≡ Ok tt → length (told_text x) ≤ free
    → length (followed_text d e) + length (told_text rest) ≤ free
entry_fits x rest d offset e free is ok enough =
    let all = ap length (text_after (followed_text d e) x rest (is ∙ entry_taken d offset e rest ok)) ∙ length-append (followed_text d e) (told_text rest) in
    omega (arith, all, enough)

pub room_left : (text rest : ℕ) (free : ℕ) (after : Option ℕ) → text + rest ≤ free → after ≡ Some (free - text) → IfSome after (λ now. rest ≤ now) × IsSome after
room_left text rest free None fits is = absurd (cc is)
room_left text rest free (Some now) fits is =
    let all : now ≡ free - text = same now (free - text) is in
    (omega (arith, all, fits), refl)
  where
    same : (x y : ℕ) → Some x ≡ Some y → x ≡ y
    same x y e = cc

-- one more entry
pub room_next : (T : List ℕ → Told) (was : Option (List ℕ)) (room : Option ℕ) (d later : Decommutation) (r s : Reading) (rest left : Option (List ℕ)) (now after : Option ℕ) (x : ℕ × Entry) (before taken : Option (List ℕ))
    → KeepsRoom T was room d r rest now → Answers (Ok (Some x)) r rest s left → FollowsEntry (Ok later) d x.0 x.1 before taken
    → IfSome now (λ free. length (followed_text d x.1) ≤ free → LeavesRoom (Ok later) (followed_text d x.1) free after) → KeepsRoom T was room later s left after
room_next T None room d later r s rest left now after x before taken keeps answers entry leaves = tt
room_next T (Some octets) None d later r s rest left now after x before taken keeps answers entry leaves = tt
room_next T (Some octets) (Some whole) d later r s None left now after x before taken keeps answers entry leaves = λ enough. absurd (none_told (keeps enough).1)
room_next T (Some octets) (Some whole) d later r s (Some m) None now after x before taken keeps answers entry leaves = λ enough. absurd (none_told answers.1)
room_next T (Some octets) (Some whole) d later r s (Some m) (Some a) None after x before taken keeps answers entry leaves = λ enough. absurd (no_room (keeps enough).0.1)
room_next T (Some octets) (Some whole) d later r s (Some m) (Some a) (Some free) after x before taken keeps answers entry leaves =
    λ enough.
    let rest = told_rest (after_followed d x.1) (to_come s a) in
    let fits = entry_fits (told_rest d (to_come r m)) rest d x.0 x.1 free (entry_next d x (to_come r m) (to_come s a) answers.0) entry.0 (keeps enough).0.0 in
    let size : length (told_text rest) ≡ length (told_text (told_rest later (to_come s a))) = ap (λ (y : Decommutation). length (told_text (told_rest y (to_come s a)))) (sym entry.1) in
    (room_left (length (followed_text d x.1)) (length (told_text (told_rest later (to_come s a)))) free after (omega (arith, fits, size)) (leaves (omega (arith, fits))), refl)

-- a fault of reading isn't one of writing
unread : (f : RecordFault) (after : Option ℕ) → HasRoomLeft (Err (fault_of_reading f)) after
unread fault.BadMagic after = tt
unread (fault.BadKind k o) after = tt
unread (fault.Cut o) after = tt
unread (fault.TooLong o) after = tt
unread (fault.TooManyEntries o) after = tt
unread fault.ReadFault after = tt
unread fault.Memory after = tt

pub with_room : (T : List ℕ → Told) (was : Option (List ℕ)) (room : Option ℕ) (P : Type 0) → P → WithRoom T was room P
with_room T None room P p = tt
with_room T (Some octets) None P p = tt
with_room T (Some octets) (Some whole) P p = λ enough. p

pub room_unread : (T : List ℕ → Told) (was : Option (List ℕ)) (room : Option ℕ) (f : RecordFault) (after : Option ℕ) → WithRoom T was room (HasRoomLeft (Err (fault_of_reading f)) after)
room_unread T was room f after = with_room T was room (HasRoomLeft (Err (fault_of_reading f)) after) (unread f after)

-- an entry that wasn't followed
entry_room : (d : Decommutation) (offset : ℕ) (e : Entry) (x rest : Told) (fault : FollowingFault) (free : ℕ) (before taken : Option (List ℕ)) (after : Option ℕ)
    → x ≡ told_entry d offset e rest → length (told_text x) ≤ free → FollowsEntry (Err fault) d offset e before taken
    → (length (followed_text d e) ≤ free → LeavesRoom (Err fault) (followed_text d e) free after) → HasRoomLeft (Err fault) after
entry_room d offset e x rest (Record found) free before taken after is enough entry leaves = tt
entry_room d offset e x rest ReadFault free before taken after is enough entry leaves = tt
entry_room d offset e x rest WriteFault free before taken after is enough entry leaves =
    let fits = entry_fits x rest d offset e free is entry.0 enough in
    leaves (omega (arith, fits))
entry_room d offset e x rest Memory free before taken after is enough entry leaves = tt

pub room_fails : (T : List ℕ → Told) (was : Option (List ℕ)) (room : Option ℕ) (d : Decommutation) (r s : Reading) (rest left : Option (List ℕ)) (now after : Option ℕ) (x : ℕ × Entry) (fault : FollowingFault) (before taken : Option (List ℕ))
    → KeepsRoom T was room d r rest now → Answers (Ok (Some x)) r rest s left → FollowsEntry (Err fault) d x.0 x.1 before taken
    → IfSome now (λ free. length (followed_text d x.1) ≤ free → LeavesRoom (Err fault) (followed_text d x.1) free after) → WithRoom T was room (HasRoomLeft (Err fault) after)
room_fails T None room d r s rest left now after x fault before taken keeps answers entry leaves = tt
room_fails T (Some octets) None d r s rest left now after x fault before taken keeps answers entry leaves = tt
room_fails T (Some octets) (Some whole) d r s None left now after x fault before taken keeps answers entry leaves = λ enough. absurd (none_told (keeps enough).1)
room_fails T (Some octets) (Some whole) d r s (Some m) None now after x fault before taken keeps answers entry leaves = λ enough. absurd (none_told answers.1)
room_fails T (Some octets) (Some whole) d r s (Some m) (Some a) None after x fault before taken keeps answers entry leaves = λ enough. absurd (no_room (keeps enough).0.1)
room_fails T (Some octets) (Some whole) d r s (Some m) (Some a) (Some free) after x fault before taken keeps answers entry leaves =
    λ enough.
    entry_room d x.0 x.1 (told_rest d (to_come r m)) (told_rest (after_followed d x.1) (to_come s a)) fault free before taken after
    (entry_next d x (to_come r m) (to_come s a) answers.0) (keeps enough).0.0 entry leaves

end_size : (d : Decommutation) (x : Told) (free : ℕ) → x ≡ told_end d None → length (told_text x) ≤ free → length (closing_text d) ≤ free
end_size d x free is enough = subst (λ (y : Told). length (told_text y) ≤ free) is enough

-- the end of the record
pub room_end : (T : List ℕ → Told) (was : Option (List ℕ)) (room : Option ℕ) (d : Decommutation) (r s : Reading) (rest left : Option (List ℕ)) (now : Option ℕ)
    → KeepsRoom T was room d r rest now → Answers (Ok None) r rest s left → WithRoom T was room (HasRoomLeft (Ok d) now)
room_end T None room d r s rest left now keeps answers = tt
room_end T (Some octets) None d r s rest left now keeps answers = tt
room_end T (Some octets) (Some whole) d r s None left now keeps answers = λ enough. absurd (none_told (keeps enough).1)
room_end T (Some octets) (Some whole) d r s (Some m) None now keeps answers = λ enough. absurd (none_told answers.1)
room_end T (Some octets) (Some whole) d r s (Some m) (Some a) None keeps answers = λ enough. absurd (no_room (keeps enough).0.1)
room_end T (Some octets) (Some whole) d r s (Some m) (Some a) (Some free) keeps answers =
    λ enough. (end_size d (told_rest d (to_come r m)) free (end_next d (to_come r m) answers.0.1) (keeps enough).0.0, refl)

-- an entry whose blocks weren't written whole
pub unwritten_room : (text : List ℕ) (f : WriteError) (before after : Option ℕ) → FinishesWithin text (Err f) before
    → IfSome before (λ room. length text ≤ room → LeavesRoom (Err (fault_of_writing f)) text room after)
unwritten_room text f None after within = tt
unwritten_room text write.Failed (Some room) after within = within
unwritten_room text write.Memory (Some room) after within = λ enough. tt

refused_room : (text : List ℕ) (f : SentFault) (offset room : ℕ) (after : Option ℕ) → LeavesRoom (Err (fault_of_entry f offset)) text room after
refused_room text sent.Memory offset room after = tt
refused_room text sent.BadRequest offset room after = tt
refused_room text (sent.WrongCount a b) offset room after = tt
refused_room text (sent.Reused a) offset room after = tt
refused_room text sent.SessionFull offset room after = tt
refused_room text (sent.WindowFull k) offset room after = tt

-- an entry that wasn't followed, by its fault
pub failed_room : (text : List ℕ) (f : FollowFault) (offset : ℕ) (before after : Option ℕ) → FollowsWithin {X = Decommutation} text (Err f) before after
    → IfSome before (λ room. length text ≤ room → LeavesRoom (Err (fault_of_following f offset)) text room after)
failed_room text (Write f) offset before after within = unwritten_room text f before after within
failed_room text (Sent f) offset None after within = tt
failed_room text (Sent f) offset (Some room) after within = λ enough. refused_room text f offset room after

pub with_map : (T : List ℕ → Told) (was : Option (List ℕ)) (room : Option ℕ) (P Q : Type 0) → (P → Q) → WithRoom T was room P → WithRoom T was room Q
with_map T None room P Q f h = tt
with_map T (Some octets) None P Q f h = tt
with_map T (Some octets) (Some whole) P Q f h = λ enough. f (h enough)

pub unfailed : (fault : FollowingFault) (after : Option ℕ) → HasRoomLeft (Err fault) after → IsUnfailed (Err fault)
unfailed (Record found) after h = tt
unfailed ReadFault after h = tt
unfailed WriteFault after h = h
unfailed Memory after h = tt

-- the first entry wasn't followed
pub from_fails : (rest : Option (List ℕ)) (room after : Option ℕ) (d : Decommutation) (offset : ℕ) (e : Entry) (r : Reading) (fault : FollowingFault) (before taken : Option (List ℕ))
    → FollowsEntry (Err fault) d offset e before taken → IfSome room (λ free. length (followed_text d e) ≤ free → LeavesRoom (Err fault) (followed_text d e) free after)
    → WithRoom (λ more. told_from d offset e r more) rest room (IsUnfailed (Err fault))
from_fails None room after d offset e r fault before taken entry leaves = tt
from_fails (Some octets) None after d offset e r fault before taken entry leaves = tt
from_fails (Some octets) (Some free) after d offset e r fault before taken entry leaves =
    λ enough.
    let rest = told_rest (after_followed d e) (to_come r octets) in
    unfailed fault after (entry_room d offset e (told_entry d offset e rest) rest fault free before taken after refl enough entry leaves)

-- what holds with room for what is still to come after the first entry
pub from_room : (rest : Option (List ℕ)) (room between : Option ℕ) (d later : Decommutation) (offset : ℕ) (e : Entry) (r : Reading) (before taken : Option (List ℕ)) (P : Type 0)
    → FollowsEntry (Ok later) d offset e before taken → IfSome room (λ free. length (followed_text d e) ≤ free → LeavesRoom (Ok later) (followed_text d e) free between)
    → WithRoom (λ more. told_rest later (to_come r more)) rest between P → WithRoom (λ more. told_from d offset e r more) rest room P
from_room None room between d later offset e r before taken P entry leaves h = tt
from_room (Some octets) None between d later offset e r before taken P entry leaves h = tt
from_room (Some octets) (Some free) between d later offset e r before taken P entry leaves h =
    λ enough.
    let rest = told_rest (after_followed d e) (to_come r octets) in
    let fits = entry_fits (told_entry d offset e rest) rest d offset e free refl entry.0 enough in
    let size : length (told_text rest) ≡ length (told_text (told_rest later (to_come r octets))) = ap (λ (y : Decommutation). length (told_text (told_rest y (to_come r octets)))) (sym entry.1) in
    let is : between ≡ Some (free - length (followed_text d e)) = leaves (omega (arith, fits)) in
    let then : WithRoom (λ more. told_rest later (to_come r more)) (Some octets) (Some (free - length (followed_text d e))) P =
    subst (λ (o : Option ℕ). WithRoom (λ more. told_rest later (to_come r more)) (Some octets) o P) is h in
    then (omega (arith, fits, size))

-- with room for the end it is written
pub end_room : (last : Decommutation) (room : Option ℕ) (result : Result Unit FollowingFault) → IfSome room (λ free. length (closing_text last) ≤ free → IsUnfailed result)
    → HasRoomLeft (Ok last) room → IsUnfailed result
end_room last None result closes left = absurd (no_room left.1)
end_room last (Some free) result closes left = closes left.0
