-- One text behind another.
use Rattle.std.proofs.Common.{arith, ◌≡◌, ◌+◌, ◌-◌, ◌≤◌, ℕ, zero, suc, List, [], ◌∷◌, ◌++◌, length, drop, Option, Some, None, Result, Ok, Err, refl, sym, ap, subst, ◌∙◌, append_assoc, append-nil, length-append}
use Rattle.std.specs.Prelude.{IfSome, slice_get}
use Rattle.std.proofs.lemmas.Option.{same_Some}
use Rattle.hk_world.specs.declared.moment.Moment.{Moment}
use Rattle.journal_texts.specs.JournalTexts.{journal_text}
use Rattle.session_record.specs.Records.{entry_octets}
use Rattle.session_record.specs.declared.entry.Entry.TheVariants.{Line}
use Rattle.session_record.specs.declared.entry.WriteFault.{WriteFault}
use Rattle.session_record.specs.declared.entry.WriteFault.TheVariants.{Failed, Memory}
use Rattle.session_record.proofs.WritingLemmas.{writes-front, writes-then}
use Rattle.run_records.specs.Putting.{Seen, HasPut, HasFailed, FaultCounts, FailsWithin, Puts, lines_of}

took-then : (a c : List ℕ) (before mid after : Option (List ℕ)) → IfSome before (λ was. mid ≡ Some (was ++ a)) → IfSome mid (λ was. after ≡ Some (was ++ c)) → IfSome before (λ was. after ≡ Some (was ++ (a ++ c)))
took-then a c None mid after first second = tt
took-then a c (Some was) mid after first second =
    subst (λ m. IfSome m (λ w. after ≡ Some (w ++ c))) first second ∙ ap Some (append_assoc was a c)

room-then : (a c : List ℕ) (before mid after : Option ℕ) → IfSome before (λ r. length a ≤ r → mid ≡ Some (r - length a)) → IfSome mid (λ r. length c ≤ r → after ≡ Some (r - length c))
    → IfSome before (λ r. length (a ++ c) ≤ r → after ≡ Some (r - length (a ++ c)))
room-then a c None mid after first second = tt
room-then a c (Some r) mid after first second = λ enough.
    let sizes = length-append a c in
    let left : mid ≡ Some (r - length a) = first (omega (arith, enough, sizes)) in
    subst (λ m. IfSome m (λ q. length c ≤ q → after ≡ Some (q - length c))) left second (omega (arith, enough, sizes))
    ∙ ap Some (omega (arith, enough, sizes))

fails-then : (a c : List ℕ) (f : WriteFault) (before mid : Option ℕ) → IfSome before (λ r. length a ≤ r → mid ≡ Some (r - length a)) → FailsWithin c f mid → FailsWithin (a ++ c) f before
fails-then a c Memory before mid first second = tt
fails-then a c Failed None mid first second = tt
fails-then a c Failed (Some r) mid first second = λ enough.
    let sizes = length-append a c in
    let left : mid ≡ Some (r - length a) = first (omega (arith, enough, sizes)) in
    subst (λ m. IfSome m (λ q. length c ≤ q → ⊥)) left second (omega (arith, enough, sizes))

fails-front : (a c : List ℕ) (f : WriteFault) (before : Option ℕ) → FailsWithin a f before → FailsWithin (a ++ c) f before
fails-front a c Memory before h = tt
fails-front a c Failed None h = tt
fails-front a c Failed (Some r) h = λ enough. h (omega (arith, enough, length-append a c))

-- a text was put, and what becomes of the next one
pub puts-then : (a c : List ℕ) (result : Result Unit WriteFault) (before mid after : Seen) → HasPut a before mid → Puts c result mid after → Puts (a ++ c) result before after
puts-then a c (Ok done) before mid after first second = record {
  took = took-then a c before.taken mid.taken after.taken first.took second.took;
  count = second.count ∙ first.count;
  room = room-then a c before.room mid.room after.room first.room second.room;
}
puts-then a c (Err f) before mid after first second = record {
  written = writes-then a c (Err f) before.taken mid.taken after.taken first.took second.written;
  count = subst (λ n. FaultCounts f n after.faults) first.count second.count;
  room = fails-then a c f before.room mid.room first.room second.room;
}

-- a text was put in part
pub puts-front : (a c : List ℕ) (f : WriteFault) (before after : Seen) → HasFailed a f before after → HasFailed (a ++ c) f before after
puts-front a c f before after failed = record {
  written = writes-front a c f f before.taken after.taken failed.written;
  count = failed.count;
  room = fails-front a c f before.room failed.room;
}

took-nothing : (before : Option (List ℕ)) → IfSome before (λ was. before ≡ Some (was ++ []))
took-nothing None = tt
took-nothing (Some was) = ap Some (sym (append-nil was))

room-nothing : (before : Option ℕ) → IfSome before (λ r. 0 ≤ r → before ≡ Some (r - 0))
room-nothing None = tt
room-nothing (Some r) = λ enough. ap Some (omega arith)

pub puts-nothing : (s : Seen) → HasPut [] s s
puts-nothing s = record { took = took-nothing s.taken; count = refl; room = room-nothing s.room }

-- a member of a list, and those behind it
pub drop-member : {X : Type 0} (xs : List X) (i : ℕ) (x : X) → slice_get xs i ≡ Some x → drop i xs ≡ x ∷ drop (i + 1) xs
drop-member [] i x e = cc
drop-member (y ∷ xs) zero x e = ap (λ z. z ∷ xs) (same_Some y x e)
drop-member (y ∷ xs) (suc i) x e =
    let next : suc (i + 1) ≡ suc i + 1 = omega arith in
    drop-member xs i x e ∙ ap (λ n. x ∷ drop n (y ∷ xs)) next

drop-empty : (X : Type 0) (i : ℕ) → drop {A = X} i [] ≡ []
drop-empty X zero = refl
drop-empty X (suc i) = refl

pub drop-none : {X : Type 0} (xs : List X) (i : ℕ) → length xs ≤ i → drop i xs ≡ []
drop-none {X} [] i past = drop-empty X i
drop-none (x ∷ xs) zero past = absurd (omega (arith, past))
drop-none (x ∷ xs) (suc i) past = drop-none xs i (omega (arith, past))

-- the entries from a number on
pub lines-from : (journal : List Moment) (i : ℕ) (m : Moment) → slice_get journal i ≡ Some m → lines_of (drop i journal) ≡ entry_octets (Line (journal_text m)) ++ lines_of (drop (i + 1) journal)
lines-from journal i m e = ap lines_of (drop-member journal i m e)
