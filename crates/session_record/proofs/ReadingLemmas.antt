-- The steps of a reader, and what is still to come.
use Rattle.std.proofs.Common.{arith, ◌≡◌, ◌+◌, ◌-◌, ◌<◌, ◌≤◌, ℕ, List, [], ◌++◌, length, drop, Bool, true, false, Option, Some, None, Result, Ok, Err, refl, sym, ap, subst, ◌∙◌, append-nil}
use Rattle.std.specs.Prelude.{IsSome, IfSome, MatchResult, is_some, nat_le}
use Rattle.std.proofs.lemmas.List.{drop-append-le}
use Rattle.std.proofs.lemmas.Bool.Decides.{nat_tests}
use Rattle.session_record.specs.Records.{Header, Entries, header_in, entry_size, next_entry, entry_before, entries_from, after_header}
use Rattle.session_record.specs.Faults.{IsReadError, lasting}
use Rattle.session_record.specs.Reading.{Reading, Answers, IsFirst, KeepsAhead, Moves, HasHeader, FaultCounts, ahead, is_final, is_settled, is_settled_at, is_settled_header, lasting_fault, no_entries, read_on, to_come}
use Rattle.session_record.specs.Steps.{EntryTaken, HeaderTaken, HeaderTakenAt, HeaderFound, HeldAlone, IsEnough, behind, is_ready, is_ready_at}
use Rattle.session_record.specs.declared.entry.Entry.{Entry}
use Rattle.session_record.specs.declared.entry.RecordFault.{RecordFault}
use Rattle.session_record.specs.declared.entry.RecordFault.TheVariants.{BadMagic, BadKind, Cut, TooLong, TooManyEntries, ReadFault, Memory}
use Rattle.session_record.proofs.NextLemmas.{header-long, header-more, next-more, first-entry, no-entry, faulty-entry}

-- where the shelf told what it had left, it still does, and the same is still to come
abbrev pub SameToCome : Reading → Option (List ℕ) → Reading → Option (List ℕ) → Type 0
SameToCome before rest after left = IfSome rest (λ was. IfSome left (λ now. to_come after now ≡ to_come before was) × IsSome left)

some_same : (xs ys : List ℕ) → Some xs ≡ Some ys → xs ≡ ys
some_same xs ys e = cc

-- gathering
pub gathered : (s0 s1 : Reading) (r0 r1 : Option (List ℕ)) → HeldAlone s0 s1 → KeepsAhead (ahead s0.held r0) (ahead s1.held r1) → SameToCome s0 r0 s1 r1
gathered s0 s1 None r1 alone keeps = tt
gathered s0 s1 (Some was) None alone keeps = absurd (cc keeps)
gathered s0 s1 (Some was) (Some now) alone keeps = (
  ap (λ (s : Reading). read_on s.header s.fault s.room s.offset (s1.held ++ now)) alone
      ∙ ap (read_on s0.header s0.fault s0.room s0.offset) (some_same (s1.held ++ now) (s0.held ++ was) keeps),
  refl,
)

-- one step after another
same-then : (s0 s1 s2 : Reading) (r0 r1 r2 : Option (List ℕ)) → SameToCome s0 r0 s1 r1 → SameToCome s1 r1 s2 r2 → SameToCome s0 r0 s2 r2
same-then s0 s1 s2 None r1 r2 a b = tt
same-then s0 s1 s2 (Some was) None r2 a b = absurd (cc a.1)
same-then s0 s1 s2 (Some was) (Some mid) None a b = absurd (cc b.1)
same-then s0 s1 s2 (Some was) (Some mid) (Some now) a b = (b.0 ∙ a.0, refl)

-- the header was found
found : (s1 s2 : Reading) (now : List ℕ) (h : Header) → s1.header ≡ None → s1.fault ≡ None → header_in s1.held ≡ Some h
    → s2 ≡ record s1 { header = Some h; held = drop 8 s1.held } → to_come s2 now ≡ to_come s1 now
found s1 s2 now h none fine at after =
    let long = header-long s1.held h at in
    ap (λ (s : Reading). to_come s now) after
    ∙ ap (λ f. read_on (Some h) f s1.room s1.offset (drop 8 s1.held ++ now)) fine
    ∙ ap (λ octets. Ok (h, entries_from s1.room s1.offset octets)) (sym (drop-append-le 8 s1.held now long))
    ∙ ap (after_header s1.room s1.offset (s1.held ++ now)) (sym (header-more s1.held now long ∙ at))
    ∙ sym (ap (λ o. read_on o s1.fault s1.room s1.offset (s1.held ++ now)) none ∙ ap (λ f. read_on None f s1.room s1.offset (s1.held ++ now)) fine)

-- the header is taken off
header-taken : (s1 s2 : Reading) (r : Option (List ℕ)) → s1.fault ≡ None → HeaderTaken (Ok tt) s1 s2 → SameToCome s1 r s2 r
header-taken s1 s2 None fine taken = tt
header-taken s1 s2 (Some now) fine taken = (by_header s1.header refl taken, refl)
  where
    by_found : s1.header ≡ None → (f : Option Header) → header_in s1.held ≡ f → HeaderFound f (Ok tt) s1 s2 → to_come s2 now ≡ to_come s1 now
    by_found none None at taken = absurd (cc taken.0)
    by_found none (Some h) at taken = found s1 s2 now h none fine at taken.1

    by_header : (o : Option Header) → s1.header ≡ o → HeaderTakenAt o (Ok tt) s1 s2 → to_come s2 now ≡ to_come s1 now
    by_header None none taken = by_found none (header_in s1.held) refl taken
    by_header (Some h) is taken = ap (λ (s : Reading). to_come s now) taken.1

-- taking the header off moves nothing else
header-kept : (s1 s2 : Reading) → HeaderTaken (Ok tt) s1 s2 → (s2.offset ≡ s1.offset) × (s2.room ≡ s1.room) × (s2.fault ≡ s1.fault) × IsSome s2.header
header-kept s1 s2 taken = by_header s1.header refl taken
  where
    by_found : (f : Option Header) → HeaderFound f (Ok tt) s1 s2 → (s2.offset ≡ s1.offset) × (s2.room ≡ s1.room) × (s2.fault ≡ s1.fault) × IsSome s2.header
    by_found None taken = absurd (cc taken.0)
    by_found (Some h) taken =
        (ap (λ (s : Reading). s.offset) taken.1, ap (λ (s : Reading). s.room) taken.1, ap (λ (s : Reading). s.fault) taken.1, rw taken.1 refl)

    by_header : (o : Option Header) → s1.header ≡ o → HeaderTakenAt o (Ok tt) s1 s2
        → (s2.offset ≡ s1.offset) × (s2.room ≡ s1.room) × (s2.fault ≡ s1.fault) × IsSome s2.header
    by_header None none taken = by_found (header_in s1.held) taken
    by_header (Some h) is taken =
        (ap (λ (s : Reading). s.offset) taken.1, ap (λ (s : Reading). s.room) taken.1, ap (λ (s : Reading). s.fault) taken.1, rw (taken.1, is) refl)

-- no header was found
pub header-missing : (s1 s2 : Reading) (fault : RecordFault) → HeaderTaken (Err fault) s1 s2
    → (fault ≡ BadMagic) × (s2 ≡ s1) × (s1.header ≡ None) × (header_in s1.held ≡ None)
header-missing s1 s2 fault taken = by_header s1.header refl taken
  where
    by_found : s1.header ≡ None → (f : Option Header) → header_in s1.held ≡ f → HeaderFound f (Err fault) s1 s2
        → (fault ≡ BadMagic) × (s2 ≡ s1) × (s1.header ≡ None) × (header_in s1.held ≡ None)
    by_found none None at taken = (cc taken.0, taken.1, none, at)
    by_found none (Some h) at taken = absurd (cc taken.0)

    by_header : (o : Option Header) → s1.header ≡ o → HeaderTakenAt o (Err fault) s1 s2
        → (fault ≡ BadMagic) × (s2 ≡ s1) × (s1.header ≡ None) × (header_in s1.held ≡ None)
    by_header None none taken = by_found none (header_in s1.held) refl taken
    by_header (Some h) is taken = absurd (cc taken.0)

-- what held octets aren't before their end, they aren't with what follows
no_header : (held now : List ℕ) (long : Bool) → nat_le 8 (length held) ≡ long → header_in held ≡ None → (long ≡ false → Some now ≡ Some []) → header_in (held ++ now) ≡ None
no_header held now true is at enough = header-more held now (grind (arith, nat_tests)) ∙ at
no_header held now false is at enough = ap header_in (ap (λ xs. held ++ xs) (some_same now [] (enough refl)) ∙ append-nil held) ∙ at

-- octets with no header are no record
pub bad-magic : (s0 s1 s2 : Reading) (r0 r1 : Option (List ℕ)) (fault : RecordFault) → s0.fault ≡ None → HeldAlone s0 s1
    → SameToCome s0 r0 s1 r1 → IsEnough s1 r0 r1 → HeaderTaken (Err fault) s1 s2 → Answers (Err fault) s0 r0 s2 r1
bad-magic s0 s1 s2 None r1 fault fine alone same enough taken = tt
bad-magic s0 s1 s2 (Some was) None fault fine alone same enough taken = absurd (cc same.1)
bad-magic s0 s1 s2 (Some was) (Some now) fault fine alone same enough taken =
    let missing = header-missing s1 s2 fault taken in
    let unready : nat_le 8 (length s1.held) ≡ false → is_ready s1 ≡ false = λ short. ap (λ o. is_ready_at o s1.room s1.offset s1.held) missing.2 ∙ short in
    let none = no_header s1.held now (nat_le 8 (length s1.held)) refl missing.3 (λ short. enough (unready short)) in
    let clean : s1.fault ≡ None = ap (λ (s : Reading). s.fault) alone ∙ fine in
    let comes : to_come s1 now ≡ Err BadMagic =
    ap (λ o. read_on o s1.fault s1.room s1.offset (s1.held ++ now)) missing.2
    ∙ ap (λ f. read_on None f s1.room s1.offset (s1.held ++ now)) clean
    ∙ ap (after_header s1.room s1.offset (s1.held ++ now)) none in
    let before : to_come s0 was ≡ Err BadMagic = sym same.0 ∙ comes in
    let P : RecordFault → Type 0 = λ f. IsFirst (Err f) (to_come s0 was) (to_come s2 now) in
    (subst P (sym missing.0) (ap (λ (s : Reading). to_come s now) missing.1 ∙ same.0, before), refl)

-- reading failed
pub read-failed : (s0 s1 : Reading) (r0 r1 : Option (List ℕ)) (fault : RecordFault) → IsReadError fault → SameToCome s0 r0 s1 r1 → Answers (Err fault) s0 r0 s1 r1
read-failed s0 s1 None r1 fault error same = tt
read-failed s0 s1 (Some was) None fault error same = absurd (cc same.1)
read-failed s0 s1 (Some was) (Some now) fault error same = (by_fault fault error, refl)
  where
    by_fault : (f : RecordFault) → IsReadError f → IsFirst (Err f) (to_come s0 was) (to_come s1 now)
    by_fault ReadFault error = same.0
    by_fault Memory error = same.0
    by_fault BadMagic error = absurd error
    by_fault (BadKind kind offset) error = absurd error
    by_fault (Cut offset) error = absurd error
    by_fault (TooLong offset) error = absurd error
    by_fault (TooManyEntries offset) error = absurd error

-- what is to come behind a header
come-on : (s : Reading) (h : Header) (now : List ℕ) → s.header ≡ Some h → s.fault ≡ None → to_come s now ≡ Ok (h, entries_from s.room s.offset (s.held ++ now))
come-on s h now is fine =
    ap (λ o. read_on o s.fault s.room s.offset (s.held ++ now)) is ∙ ap (λ f. read_on (Some h) f s.room s.offset (s.held ++ now)) fine

-- what is held is all that is left, or has what comes next in full
next_now : (s : Reading) (h : Header) (now : List ℕ) → s.header ≡ Some h → (is_ready s ≡ false → Some now ≡ Some [])
    → next_entry s.room s.offset (s.held ++ now) ≡ next_entry s.room s.offset s.held
next_now s h now is enough = by_ready (is_final (next_entry s.room s.offset s.held)) refl
  where
    by_ready : (ready : Bool) → is_final (next_entry s.room s.offset s.held) ≡ ready → next_entry s.room s.offset (s.held ++ now) ≡ next_entry s.room s.offset s.held
    by_ready true final = next-more s.room s.offset s.held now final
    by_ready false partly =
        let unready : is_ready s ≡ false = ap (λ o. is_ready_at o s.room s.offset s.held) is ∙ partly in
        ap (next_entry s.room s.offset) (ap (λ xs. s.held ++ xs) (some_same now [] (enough unready)) ∙ append-nil s.held)

-- an entry was taken
entry_first : (s3 s4 : Reading) (h : Header) (now : List ℕ) (x : ℕ × Entry) → s3.header ≡ Some h → s3.fault ≡ None
    → next_entry s3.room s3.offset (s3.held ++ now) ≡ Ok (Some x.1) → x.0 ≡ s3.offset → 0 < s3.room → entry_size x.1 ≤ length s3.held → s4 ≡ behind s3 (entry_size x.1)
    → IsFirst (Ok (Some x)) (to_come s3 now) (to_come s4 now)
entry_first s3 s4 h now x is fine next at room within after =
    let size = entry_size x.1 in
    let later : to_come s4 now ≡ Ok (h, entries_from (s3.room - 1) (s3.offset + size) (drop size s3.held ++ now)) =
    ap (λ (s : Reading). to_come s now) after ∙ come-on (behind s3 size) h now is fine in
    let octets : drop size (s3.held ++ now) ≡ drop size s3.held ++ now = drop-append-le size s3.held now within in
    let before : to_come s3 now ≡ Ok (h, entry_before x.0 x.1 (entries_from (s3.room - 1) (s3.offset + size) (drop size s3.held ++ now))) =
    come-on s3 h now is fine
    ∙ ap (λ es. Ok (h, es)) (first-entry s3.room s3.offset (s3.held ++ now) x.1 room next
    ∙ ap (λ left. entry_before s3.offset x.1 (entries_from (s3.room - 1) (s3.offset + size) left)) octets
    ∙ ap (λ offset. entry_before offset x.1 (entries_from (s3.room - 1) (s3.offset + size) (drop size s3.held ++ now))) (sym at)) in
    let P : Result (Header × Entries) RecordFault → Type 0 = λ a. IsFirst (Ok (Some x)) (to_come s3 now) a in
    subst P (sym later) before

-- a fault of the next entry
entry_faulty : (s3 s4 : Reading) (h : Header) (now : List ℕ) (fault : RecordFault) → s3.header ≡ Some h → s3.fault ≡ None
    → next_entry s3.room s3.offset (s3.held ++ now) ≡ Err fault → s4 ≡ s3
    → (to_come s4 now ≡ to_come s3 now) × MatchResult (to_come s3 now) (λ b. b.1 ≡ no_entries (Some fault)) (λ f. ⊥)
entry_faulty s3 s4 h now fault is fine next after =
    let Q : Result (Header × Entries) RecordFault → Type 0 = λ b. MatchResult b (λ x. x.1 ≡ no_entries (Some fault)) (λ f. ⊥) in
    (ap (λ (s : Reading). to_come s now) after, subst Q (sym (come-on s3 h now is fine)) (faulty-entry s3.room s3.offset (s3.held ++ now) fault next))

-- no entry was left
entry_none : (s3 s4 : Reading) (h : Header) (now : List ℕ) → s3.header ≡ Some h → s3.fault ≡ None
    → next_entry s3.room s3.offset (s3.held ++ now) ≡ Ok None → s4 ≡ s3 → IsFirst (Ok None) (to_come s3 now) (to_come s4 now)
entry_none s3 s4 h now is fine next after =
    let Q : Result (Header × Entries) RecordFault → Type 0 = λ b. MatchResult b (λ x. x.1 ≡ no_entries None) (λ f. ⊥) in
    (ap (λ (s : Reading). to_come s now) after, subst Q (sym (come-on s3 h now is fine)) (no-entry s3.room s3.offset (s3.held ++ now) next))

-- the next entry is taken off, or a fault of it found
entry_answer : (s3 s4 : Reading) (h : Header) (now : List ℕ) (result : Result (Option (ℕ × Entry)) RecordFault) → s3.header ≡ Some h → s3.fault ≡ None
    → next_entry s3.room s3.offset (s3.held ++ now) ≡ next_entry s3.room s3.offset s3.held
    → EntryTaken result (next_entry s3.room s3.offset s3.held) s3 s4 → IsFirst result (to_come s3 now) (to_come s4 now)
entry_answer s3 s4 h now (Ok None) is fine same taken = entry_none s3 s4 h now is fine (same ∙ taken.0) taken.1
entry_answer s3 s4 h now (Ok (Some x)) is fine same taken = entry_first s3 s4 h now x is fine (same ∙ taken.0) taken.1 taken.2.2 taken.2.0 taken.3
entry_answer s3 s4 h now (Err Memory) is fine same taken = ap (λ (s : Reading). to_come s now) taken
entry_answer s3 s4 h now (Err ReadFault) is fine same taken = absurd taken.0
entry_answer s3 s4 h now (Err BadMagic) is fine same taken = absurd taken.0
entry_answer s3 s4 h now (Err (BadKind kind offset)) is fine same taken = entry_faulty s3 s4 h now (BadKind kind offset) is fine (same ∙ taken.1) taken.2
entry_answer s3 s4 h now (Err (Cut offset)) is fine same taken = entry_faulty s3 s4 h now (Cut offset) is fine (same ∙ taken.1) taken.2
entry_answer s3 s4 h now (Err (TooLong offset)) is fine same taken = entry_faulty s3 s4 h now (TooLong offset) is fine (same ∙ taken.1) taken.2
entry_answer s3 s4 h now (Err (TooManyEntries offset)) is fine same taken = entry_faulty s3 s4 h now (TooManyEntries offset) is fine (same ∙ taken.1) taken.2

-- the answer by the next entry
entry-answers : (s0 s3 s4 : Reading) (r0 r1 r2 : Option (List ℕ)) (result : Result (Option (ℕ × Entry)) RecordFault) → IsSome s3.header → s3.fault ≡ None
    → SameToCome s0 r0 s3 r2 → (IsSome r0 → IsSome r1) → IsEnough s3 r1 r2 → EntryTaken result (next_entry s3.room s3.offset s3.held) s3 s4
    → Answers result s0 r0 s4 r2
entry-answers s0 s3 s4 None r1 r2 result begun fine same told enough taken = tt
entry-answers s0 s3 s4 (Some was) r1 None result begun fine same told enough taken = absurd (cc same.1)
entry-answers s0 s3 s4 (Some was) None (Some now) result begun fine same told enough taken = absurd (cc (told refl))
entry-answers s0 s3 s4 (Some was) (Some mid) (Some now) result begun fine same told enough taken =
    let P : Result (Header × Entries) RecordFault → Type 0 = λ b. IsFirst result b (to_come s4 now) in
    (subst P same.0 (by_header s3.header refl begun), refl)
  where
    by_header : (o : Option Header) → s3.header ≡ o → IsSome o → IsFirst result (to_come s3 now) (to_come s4 now)
    by_header None none begun = absurd (cc begun)
    by_header (Some h) is begun = entry_answer s3 s4 h now result is fine (next_now s3 h now is enough) taken

-- the shelf goes on telling what it has left
still-told : (s0 s1 : Reading) (r0 r1 : Option (List ℕ)) → SameToCome s0 r0 s1 r1 → IsSome r0 → IsSome r1
still-told s0 s1 None r1 same told = absurd (cc told)
still-told s0 s1 (Some was) None same told = absurd (cc same.1)
still-told s0 s1 (Some was) (Some now) same told = refl

-- who holds what comes next in full need not read for the header
pub settled-ready : (s : Reading) → s.fault ≡ None → is_settled s ≡ true → is_ready s ≡ true
settled-ready s fine settled = by_header s.header refl
  where
    by_found : (f : Option Header) → header_in s.held ≡ f → is_settled_header s.room s.offset s.held f ≡ true → nat_le 8 (length s.held) ≡ true
    by_found None at settled = settled
    by_found (Some h) at settled = let long = header-long s.held h at in grind (arith, nat_tests)

    by_header : (o : Option Header) → s.header ≡ o → is_ready s ≡ true
    by_header None none =
        ap (λ o. is_ready_at o s.room s.offset s.held) none
        ∙ by_found (header_in s.held) refl (sym (ap (λ o. is_settled_at o s.fault s.room s.offset s.held) none ∙ ap (λ f. is_settled_at None f s.room s.offset s.held) fine) ∙ settled)
    by_header (Some h) is =
        ap (λ o. is_ready_at o s.room s.offset s.held) is
        ∙ (sym (ap (λ o. is_settled_at o s.fault s.room s.offset s.held) is ∙ ap (λ f. is_settled_at (Some h) f s.room s.offset s.held) fine) ∙ settled)

-- nor for the entry
pub settled-on : (s0 s1 s2 : Reading) → s0.fault ≡ None → is_settled s0 ≡ true → s1 ≡ s0 → HeaderTaken (Ok tt) s1 s2 → is_ready s2 ≡ true
settled-on s0 s1 s2 fine settled same taken =
    let P : Reading → Type 0 = λ s. HeaderTaken (Ok tt) s s2 in
    by_header s0.header refl (subst P same taken)
  where
    by_found : (f : Option Header) → header_in s0.held ≡ f → HeaderFound f (Ok tt) s0 s2 → is_settled_header s0.room s0.offset s0.held f ≡ true → is_ready s2 ≡ true
    by_found None at taken settled = absurd (cc taken.0)
    by_found (Some h) at taken settled = ap is_ready taken.1 ∙ settled

    by_header : (o : Option Header) → s0.header ≡ o → HeaderTakenAt o (Ok tt) s0 s2 → is_ready s2 ≡ true
    by_header None none taken =
        by_found (header_in s0.held) refl taken
        (sym (ap (λ o. is_settled_at o s0.fault s0.room s0.offset s0.held) none ∙ ap (λ f. is_settled_at None f s0.room s0.offset s0.held) fine) ∙ settled)
    by_header (Some h) is taken = ap is_ready taken.1 ∙ settled-ready s0 fine settled

-- the entry moves the reader behind it
taken-moves : (s0 s3 s4 : Reading) (next : Result (Option Entry) RecordFault) (result : Result (Option (ℕ × Entry)) RecordFault) → s3.offset ≡ s0.offset → s3.room ≡ s0.room
    → EntryTaken result next s3 s4 → Moves result s0 s4 × (s4.fault ≡ s3.fault)
taken-moves s0 s3 s4 next (Ok None) offset room taken =
    ((ap (λ (s : Reading). s.offset) taken.1 ∙ offset, ap (λ (s : Reading). s.room) taken.1 ∙ room), ap (λ (s : Reading). s.fault) taken.1)
taken-moves s0 s3 s4 next (Ok (Some x)) offset room taken =
    let later : s4.offset ≡ s3.offset + entry_size x.1 = ap (λ (s : Reading). s.offset) taken.3 in
    let fewer : s4.room ≡ s3.room - 1 = ap (λ (s : Reading). s.room) taken.3 in
    ((taken.1 ∙ offset, omega (arith, taken.1), omega (arith, taken.2.1), omega (arith, taken.2.2)), ap (λ (s : Reading). s.fault) taken.3)
taken-moves s0 s3 s4 next (Err Memory) offset room taken =
    ((ap (λ (s : Reading). s.offset) taken ∙ offset, ap (λ (s : Reading). s.room) taken ∙ room), ap (λ (s : Reading). s.fault) taken)
taken-moves s0 s3 s4 next (Err ReadFault) offset room taken = absurd taken.0
taken-moves s0 s3 s4 next (Err BadMagic) offset room taken = absurd taken.0
taken-moves s0 s3 s4 next (Err fault) offset room taken =
    ((ap (λ (s : Reading). s.offset) taken.2 ∙ offset, ap (λ (s : Reading). s.room) taken.2 ∙ room), ap (λ (s : Reading). s.fault) taken.2)

-- the header behind gathering, taking the header off and gathering again
pub kept : (s0 s1 s2 s3 : Reading) → HeldAlone s0 s1 → HeaderTaken (Ok tt) s1 s2 → HeldAlone s2 s3
    → (s3.offset ≡ s0.offset) × (s3.room ≡ s0.room) × (s3.fault ≡ s0.fault) × IsSome s3.header
kept s0 s1 s2 s3 one taken two =
    let header = header-kept s1 s2 taken in (
      ap (λ (s : Reading). s.offset) two ∙ header.0 ∙ ap (λ (s : Reading). s.offset) one,
      ap (λ (s : Reading). s.room) two ∙ header.1 ∙ ap (λ (s : Reading). s.room) one,
      ap (λ (s : Reading). s.fault) two ∙ header.2 ∙ ap (λ (s : Reading). s.fault) one,
      ap (λ (s : Reading). is_some s.header) two ∙ header.3,
    )

-- all steps up to the entry
pub prepared : (s0 s1 s2 s3 : Reading) (r0 r1 r2 : Option (List ℕ)) → s0.fault ≡ None
    → HeldAlone s0 s1 → KeepsAhead (ahead s0.held r0) (ahead s1.held r1) → HeaderTaken (Ok tt) s1 s2
    → HeldAlone s2 s3 → KeepsAhead (ahead s2.held r1) (ahead s3.held r2) → SameToCome s0 r0 s3 r2
prepared s0 s1 s2 s3 r0 r1 r2 fine alone keeps taken alone' keeps' =
    let clean : s1.fault ≡ None = ap (λ (s : Reading). s.fault) alone ∙ fine in
    same-then s0 s2 s3 r0 r1 r2 (same-then s0 s1 s2 r0 r1 r1 (gathered s0 s1 r0 r1 alone keeps) (header-taken s1 s2 r1 clean taken)) (gathered s2 s3 r1 r2 alone' keeps')

-- all steps
pub read-answers : (s0 s1 s2 s3 s4 : Reading) (r0 r1 r2 : Option (List ℕ)) (result : Result (Option (ℕ × Entry)) RecordFault) → s0.fault ≡ None
    → HeldAlone s0 s1 → KeepsAhead (ahead s0.held r0) (ahead s1.held r1) → HeaderTaken (Ok tt) s1 s2
    → HeldAlone s2 s3 → KeepsAhead (ahead s2.held r1) (ahead s3.held r2) → IsEnough s3 r1 r2
    → EntryTaken result (next_entry s3.room s3.offset s3.held) s3 s4 → Answers result s0 r0 s4 r2
read-answers s0 s1 s2 s3 s4 r0 r1 r2 result fine alone keeps taken alone' keeps' enough entry =
    let same = kept s0 s1 s2 s3 alone taken alone' in
    entry-answers s0 s3 s4 r0 r1 r2 result same.3 (same.2 ∙ fine) (prepared s0 s1 s2 s3 r0 r1 r2 fine alone keeps taken alone' keeps')
    (still-told s0 s1 r0 r1 (gathered s0 s1 r0 r1 alone keeps)) enough entry

-- where all steps lead
pub read-moves : (s0 s1 s2 s3 s4 : Reading) (result : Result (Option (ℕ × Entry)) RecordFault) → HeldAlone s0 s1 → HeaderTaken (Ok tt) s1 s2 → HeldAlone s2 s3
    → EntryTaken result (next_entry s3.room s3.offset s3.held) s3 s4 → Moves result s0 s4 × (s4.fault ≡ s0.fault)
read-moves s0 s1 s2 s3 s4 result alone taken alone' entry =
    let same = kept s0 s1 s2 s3 alone taken alone' in
    let moves = taken-moves s0 s3 s4 (next_entry s3.room s3.offset s3.held) result same.0 same.1 entry in
    (moves.0, moves.1 ∙ same.2)

-- a fault behind the header is all that is still to come
behind_header : (s : Reading) (now : List ℕ) (fault : RecordFault) → s.fault ≡ Some fault → IsSome s.header
    → MatchResult (to_come s now) (λ b. b.1 ≡ no_entries (Some fault)) (λ e. ⊥)
behind_header s now fault is begun =
    let Q : Option RecordFault → Type 0 = λ f. MatchResult (read_on s.header f s.room s.offset (s.held ++ now)) (λ b. b.1 ≡ no_entries (Some fault)) (λ e. ⊥) in
    subst Q (sym is) (by_header s.header begun)
  where
    by_header : (o : Option Header) → IsSome o → MatchResult (read_on o (Some fault) s.room s.offset (s.held ++ now)) (λ b. b.1 ≡ no_entries (Some fault)) (λ e. ⊥)
    by_header None begun = absurd (cc begun)
    by_header (Some h) begun = refl

-- a fault that was kept is answered again
pub again-answers : (s : Reading) (r : Option (List ℕ)) (fault : RecordFault) → s.fault ≡ Some fault → lasting fault ≡ Some fault → HasHeader (Err fault) s.header
    → Answers (Err fault) s r s r
again-answers s None fault is lasts header = tt
again-answers s (Some now) fault is lasts header = (by_fault fault is lasts header, refl)
  where
    by_fault : (f : RecordFault) → s.fault ≡ Some f → lasting f ≡ Some f → HasHeader (Err f) s.header → IsFirst (Err f) (to_come s now) (to_come s now)
    by_fault ReadFault is lasts header = absurd (cc lasts)
    by_fault Memory is lasts header = absurd (cc lasts)
    by_fault BadMagic is lasts header =
        (refl, ap (λ o. read_on o s.fault s.room s.offset (s.held ++ now)) header ∙ ap (λ e. read_on None e s.room s.offset (s.held ++ now)) is)
    by_fault (BadKind kind offset) is lasts header = (refl, behind_header s now (BadKind kind offset) is header)
    by_fault (Cut offset) is lasts header = (refl, behind_header s now (Cut offset) is header)
    by_fault (TooLong offset) is lasts header = (refl, behind_header s now (TooLong offset) is header)
    by_fault (TooManyEntries offset) is lasts header = (refl, behind_header s now (TooManyEntries offset) is header)

-- a fault of the octets counts for nothing with the shelf
pub lasting-counts : (fault : RecordFault) (count : ℕ) → lasting fault ≡ Some fault → FaultCounts fault count count
lasting-counts ReadFault count lasts = absurd (cc lasts)
lasting-counts fault count lasts = refl

-- nor is it ReadFault
pub lasting-apart : (fault : RecordFault) → lasting fault ≡ Some fault → fault ≡ ReadFault → ⊥
lasting-apart fault lasts is = cc (rw is at lasts)

-- keeping no fault changes nothing
pub kept_none : (s1 s2 : Reading) (now : List ℕ) → s2 ≡ record s1 { fault = None } → s1.fault ≡ None → to_come s2 now ≡ to_come s1 now
kept_none s1 s2 now after fine = ap (λ (s : Reading). to_come s now) after ∙ ap (λ f. read_on s1.header f s1.room s1.offset (s1.held ++ now)) (sym fine)

-- nor does keeping the fault that comes next
kept_fault : (s1 s2 : Reading) (now : List ℕ) (fault : RecordFault) → s2 ≡ record s1 { fault = Some fault } → s1.fault ≡ None → IsSome s1.header
    → MatchResult (to_come s1 now) (λ b. b.1 ≡ no_entries (Some fault)) (λ e. ⊥) → to_come s2 now ≡ to_come s1 now
kept_fault s1 s2 now fault after fine begun next = ap (λ (s : Reading). to_come s now) after ∙ by_header s1.header refl begun
  where
    by_header : (o : Option Header) → s1.header ≡ o → IsSome o → read_on s1.header (Some fault) s1.room s1.offset (s1.held ++ now) ≡ to_come s1 now
    by_header None is begun = absurd (cc begun)
    by_header (Some h) is begun =
        let comes = come-on s1 h now is fine in
        let Q : Result (Header × Entries) RecordFault → Type 0 = λ b. MatchResult b (λ x. x.1 ≡ no_entries (Some fault)) (λ e. ⊥) in
        let entries : entries_from s1.room s1.offset (s1.held ++ now) ≡ no_entries (Some fault) = subst Q comes next in
        ap (λ o. read_on o (Some fault) s1.room s1.offset (s1.held ++ now)) is ∙ sym (comes ∙ ap (λ es. Ok (h, es)) entries)

-- the answer stays right once its fault is kept
pub faulted-answers : (s0 s1 s2 : Reading) (r0 r1 : Option (List ℕ)) (result : Result (Option (ℕ × Entry)) RecordFault) → s2 ≡ record s1 { fault = lasting_fault result } → s1.fault ≡ None
    → HasHeader result s1.header → Answers result s0 r0 s1 r1 → Answers result s0 r0 s2 r1
faulted-answers s0 s1 s2 None r1 result after fine header answers = tt
faulted-answers s0 s1 s2 (Some was) None result after fine header answers = absurd (cc answers.1)
faulted-answers s0 s1 s2 (Some was) (Some now) result after fine header answers = (by_result result after header answers.0, refl)
  where
    behind_it : (f : RecordFault) → s2 ≡ record s1 { fault = Some f } → IsSome s1.header
        → (to_come s1 now ≡ to_come s0 was) × MatchResult (to_come s0 was) (λ b. b.1 ≡ no_entries (Some f)) (λ e. ⊥)
        → (to_come s2 now ≡ to_come s0 was) × MatchResult (to_come s0 was) (λ b. b.1 ≡ no_entries (Some f)) (λ e. ⊥)
    behind_it f after begun first =
        let Q : Result (Header × Entries) RecordFault → Type 0 = λ b. MatchResult b (λ x. x.1 ≡ no_entries (Some f)) (λ e. ⊥) in
        (kept_fault s1 s2 now f after fine begun (subst Q (sym first.0) first.1) ∙ first.0, first.1)

    by_result : (r : Result (Option (ℕ × Entry)) RecordFault) → s2 ≡ record s1 { fault = lasting_fault r } → HasHeader r s1.header
        → IsFirst r (to_come s0 was) (to_come s1 now) → IsFirst r (to_come s0 was) (to_come s2 now)
    by_result (Ok None) after header first = (kept_none s1 s2 now after fine ∙ first.0, first.1)
    by_result (Ok (Some x)) after header first =
        let P : Result (Header × Entries) RecordFault → Type 0 = λ a. IsFirst (Ok (Some x)) (to_come s0 was) a in
        subst P (sym (kept_none s1 s2 now after fine)) first
    by_result (Err ReadFault) after header first = kept_none s1 s2 now after fine ∙ first
    by_result (Err Memory) after header first = kept_none s1 s2 now after fine ∙ first
    by_result (Err BadMagic) after header first =
        (ap (λ (s : Reading). to_come s now) after ∙ ap (λ o. read_on o (Some BadMagic) s1.room s1.offset (s1.held ++ now)) header ∙ sym first.1, first.1)
    by_result (Err (BadKind kind offset)) after header first = behind_it (BadKind kind offset) after header first
    by_result (Err (Cut offset)) after header first = behind_it (Cut offset) after header first
    by_result (Err (TooLong offset)) after header first = behind_it (TooLong offset) after header first
    by_result (Err (TooManyEntries offset)) after header first = behind_it (TooManyEntries offset) after header first
