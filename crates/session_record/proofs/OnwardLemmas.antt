-- An answer that what follows doesn't change.
use Rattle.std.proofs.Common.{◌≡◌, ◌≤◌, ℕ, List, [], ◌++◌, length, take, drop, Bool, true, false, Option, Some, None, Result, Ok, Err, refl, sym, ap, subst, ◌∙◌, append_assoc, append-nil}
use Rattle.std.specs.Prelude.{IsSome}
use Rattle.std.proofs.lemmas.List.{take-append-drop, drop-append-le}
use Rattle.hk_base.specs.Outside.{Reads}
use Rattle.session_record.specs.Records.{Header, Entries, next_entry}
use Rattle.session_record.specs.Faults.{IsReadError}
use Rattle.session_record.specs.Reading.{Reading, IsFirst, IsFirstOnward, GoesOn, Gains, KeepsAhead, ahead, is_final, lasting_fault, to_come}
use Rattle.session_record.specs.Steps.{EntryTaken, HeaderTaken, HeldAlone, is_ready, is_ready_at}
use Rattle.session_record.specs.declared.entry.Entry.{Entry}
use Rattle.session_record.specs.declared.entry.RecordFault.{RecordFault}
use Rattle.session_record.specs.declared.entry.RecordFault.TheVariants.{BadMagic, BadKind, Cut, TooLong, TooManyEntries, ReadFault, Memory}
use Rattle.session_record.proofs.ReadingLemmas.{gathered, read-failed, prepared, read-answers, header-missing, kept, kept_none}

none_left : IsSome {T = List ℕ} None → ⊥
none_left e = cc

-- nothing came
pub gains-none : (held : List ℕ) (rest : Option (List ℕ)) → Gains held rest held rest
gains-none held None = tt
gains-none held (Some was) = (([], refl, sym (append-nil held)), refl)

pub gains-same : (held grown : List ℕ) (rest left : Option (List ℕ)) → grown ≡ held → left ≡ rest → Gains held rest grown left
gains-same held grown rest left e f = subst (λ xs. Gains held rest xs left) (sym e) (subst (λ o. Gains held rest held o) (sym f) (gains-none held rest))

-- one piece after another came
pub gains-then : (h0 h1 h2 : List ℕ) (r0 r1 r2 : Option (List ℕ)) → Gains h0 r0 h1 r1 → Gains h1 r1 h2 r2 → Gains h0 r0 h2 r2
gains-then h0 h1 h2 None r1 r2 a b = tt
gains-then h0 h1 h2 (Some was) None r2 a b = absurd (none_left a.1)
gains-then h0 h1 h2 (Some was) (Some mid) None a b = absurd (none_left b.1)
gains-then h0 h1 h2 (Some was) (Some mid) (Some now) a b =
    let one = a.0.0 in
    let two = b.0.0 in (
      (
        one ++ two,
        a.0.1 ∙ ap (λ xs. one ++ xs) b.0.1 ∙ sym (append_assoc one two now),
        b.0.2 ∙ ap (λ xs. xs ++ two) a.0.2 ∙ append_assoc h0 one two,
      ),
      refl,
    )

gains_read : (held buf : List ℕ) (n : ℕ) (before after : Option (List ℕ)) → Reads before n buf after → Gains held before (held ++ take n buf) after
gains_read held buf n None after part = tt
gains_read held buf n (Some rest) None part = absurd (none_left part.1)
gains_read held buf n (Some rest) (Some left) part =
    ((take n buf, sym (ap (λ xs. xs ++ left) part.0.1 ∙ ap (λ xs. take n rest ++ xs) part.0.2 ∙ take-append-drop n rest), refl), refl)

-- a read moves octets to the end of what is held, behind octets that were given away
pub gains-append : (given : ℕ) (octets grown buf : List ℕ) (n : ℕ) (before after : Option (List ℕ)) → given ≤ length octets
    → grown ≡ octets ++ take n buf → Reads before n buf after → Gains (drop given octets) before (drop given grown) after
gains-append given octets grown buf n before after within more part =
    subst (λ held. Gains (drop given octets) before held after)
    (sym (ap (drop given) more ∙ drop-append-le given octets (take n buf) within)) (gains_read (drop given octets) buf n before after part)

-- whatever follows what came, it stands behind what is held
keeps_on : (h0 h1 given more : List ℕ) → h1 ≡ h0 ++ given → KeepsAhead (ahead h0 (Some (given ++ more))) (ahead h1 (Some more))
keeps_on h0 h1 given more is = ap Some (ap (λ xs. xs ++ more) is ∙ append_assoc h0 given more)

onward : (result : Result (Option (ℕ × Entry)) RecordFault) (before after : Result (Header × Entries) RecordFault) → IsFirst result before after → IsFirstOnward result before after
onward (Ok None) before after first = tt
onward (Ok (Some x)) before after first = first
onward (Err ReadFault) before after first = first
onward (Err Memory) before after first = first
onward (Err BadMagic) before after first = tt
onward (Err (BadKind kind offset)) before after first = tt
onward (Err (Cut offset)) before after first = tt
onward (Err (TooLong offset)) before after first = tt
onward (Err (TooManyEntries offset)) before after first = tt

-- reading failed before the header
pub failed-onward : (s0 s1 : Reading) (r0 r1 : Option (List ℕ)) (fault : RecordFault) → IsReadError fault → HeldAlone s0 s1 → Gains s0.held r0 s1.held r1 → GoesOn (Err fault) s0 r0 s1 r1
failed-onward s0 s1 None r1 fault error alone gains = tt
failed-onward s0 s1 (Some was) None fault error alone gains = absurd (none_left gains.1)
failed-onward s0 s1 (Some was) (Some now) fault error alone gains =
    let given = gains.0.0 in
    let step : (more : List ℕ) → IsFirstOnward (Err fault) (to_come s0 (given ++ more)) (to_come s1 more) =
    λ more. onward (Err fault) (to_come s0 (given ++ more)) (to_come s1 more)
    (read-failed s0 s1 (Some (given ++ more)) (Some more) fault error
    (gathered s0 s1 (Some (given ++ more)) (Some more) alone (keeps_on s0.held s1.held given more gains.0.2))).0 in
    ((given, gains.0.1, step), refl)

-- no header was found
pub missing-onward : (s0 s1 s2 : Reading) (r0 r1 : Option (List ℕ)) (fault : RecordFault) → Gains s0.held r0 s1.held r1 → HeaderTaken (Err fault) s1 s2 → GoesOn (Err fault) s0 r0 s2 r1
missing-onward s0 s1 s2 None r1 fault gains taken = tt
missing-onward s0 s1 s2 (Some was) None fault gains taken = absurd (none_left gains.1)
missing-onward s0 s1 s2 (Some was) (Some now) fault gains taken =
    let given = gains.0.0 in
    let step : (more : List ℕ) → IsFirstOnward (Err fault) (to_come s0 (given ++ more)) (to_come s2 more) =
    λ more. subst (λ (f : RecordFault). IsFirstOnward (Err f) (to_come s0 (given ++ more)) (to_come s2 more)) (sym (header-missing s1 s2 fault taken).0) tt in
    ((given, gains.0.1, step), refl)

-- what holds after two pieces holds of both together
both : (result : Result (Option (ℕ × Entry)) RecordFault) (s0 s : Reading) (one two more : List ℕ)
    → IsFirstOnward result (to_come s0 (one ++ (two ++ more))) (to_come s more) → IsFirstOnward result (to_come s0 ((one ++ two) ++ more)) (to_come s more)
both result s0 s one two more first = subst (λ xs. IsFirstOnward result (to_come s0 xs) (to_come s more)) (sym (append_assoc one two more)) first

-- reading failed behind the header
pub failed-behind : (s0 s1 s2 s3 : Reading) (r0 r1 r2 : Option (List ℕ)) (fault : RecordFault) → IsReadError fault → s0.fault ≡ None
    → HeldAlone s0 s1 → Gains s0.held r0 s1.held r1 → HeaderTaken (Ok tt) s1 s2 → HeldAlone s2 s3 → Gains s2.held r1 s3.held r2 → GoesOn (Err fault) s0 r0 s3 r2
failed-behind s0 s1 s2 s3 None r1 r2 fault error fine alone gains taken alone' gains' = tt
failed-behind s0 s1 s2 s3 (Some was) None r2 fault error fine alone gains taken alone' gains' = absurd (none_left gains.1)
failed-behind s0 s1 s2 s3 (Some was) (Some mid) None fault error fine alone gains taken alone' gains' = absurd (none_left gains'.1)
failed-behind s0 s1 s2 s3 (Some was) (Some mid) (Some now) fault error fine alone gains taken alone' gains' =
    let one = gains.0.0 in
    let two = gains'.0.0 in
    let step : (more : List ℕ) → IsFirstOnward (Err fault) (to_come s0 ((one ++ two) ++ more)) (to_come s3 more) =
    λ more. both (Err fault) s0 s3 one two more
    (onward (Err fault) (to_come s0 (one ++ (two ++ more))) (to_come s3 more)
    (read-failed s0 s3 (Some (one ++ (two ++ more))) (Some more) fault error
    (prepared s0 s1 s2 s3 (Some (one ++ (two ++ more))) (Some (two ++ more)) (Some more) fine alone (keeps_on s0.held s1.held one (two ++ more) gains.0.2)
    taken alone' (keeps_on s2.held s3.held two more gains'.0.2))).0) in
    ((one ++ two, gains.0.1 ∙ ap (λ xs. one ++ xs) gains'.0.1 ∙ sym (append_assoc one two now), step), refl)

-- an entry that was found was held in full
ready_entry : (s : Reading) (e : Entry) → IsSome s.header → next_entry s.room s.offset s.held ≡ Ok (Some e) → is_ready s ≡ true
ready_entry s e begun next = by_header s.header refl begun
  where
    by_header : (o : Option Header) → s.header ≡ o → IsSome o → is_ready s ≡ true
    by_header None is some = absurd (cc some)
    by_header (Some h) is some = ap (λ o. is_ready_at o s.room s.offset s.held) is ∙ ap is_final next

true_false : (b : Bool) → b ≡ true → b ≡ false → ⊥
true_false b is not = cc

-- all steps, whatever follows the two pieces
taken_onward : (s0 s1 s2 s3 s4 : Reading) (one two more : List ℕ) (result : Result (Option (ℕ × Entry)) RecordFault) → s0.fault ≡ None
    → HeldAlone s0 s1 → s1.held ≡ s0.held ++ one → HeaderTaken (Ok tt) s1 s2 → HeldAlone s2 s3 → s3.held ≡ s2.held ++ two
    → EntryTaken result (next_entry s3.room s3.offset s3.held) s3 s4 → IsFirstOnward result (to_come s0 (one ++ (two ++ more))) (to_come s4 more)
taken_onward s0 s1 s2 s3 s4 one two more (Ok None) fine alone gained taken alone' gained' entry = tt
taken_onward s0 s1 s2 s3 s4 one two more (Ok (Some x)) fine alone gained taken alone' gained' entry =
    (read-answers s0 s1 s2 s3 s4 (Some (one ++ (two ++ more))) (Some (two ++ more)) (Some more) (Ok (Some x)) fine alone (keeps_on s0.held s1.held one (two ++ more) gained)
    taken alone' (keeps_on s2.held s3.held two more gained')
    (λ unready. absurd (true_false (is_ready s3) (ready_entry s3 x.1 (kept s0 s1 s2 s3 alone taken alone').3 entry.0) unready)) entry).0
taken_onward s0 s1 s2 s3 s4 one two more (Err Memory) fine alone gained taken alone' gained' entry =
    ap (λ (s : Reading). to_come s more) entry
    ∙ (prepared s0 s1 s2 s3 (Some (one ++ (two ++ more))) (Some (two ++ more)) (Some more) fine alone (keeps_on s0.held s1.held one (two ++ more) gained)
    taken alone' (keeps_on s2.held s3.held two more gained')).0
taken_onward s0 s1 s2 s3 s4 one two more (Err ReadFault) fine alone gained taken alone' gained' entry = absurd entry.0
taken_onward s0 s1 s2 s3 s4 one two more (Err BadMagic) fine alone gained taken alone' gained' entry = tt
taken_onward s0 s1 s2 s3 s4 one two more (Err (BadKind kind offset)) fine alone gained taken alone' gained' entry = tt
taken_onward s0 s1 s2 s3 s4 one two more (Err (Cut offset)) fine alone gained taken alone' gained' entry = tt
taken_onward s0 s1 s2 s3 s4 one two more (Err (TooLong offset)) fine alone gained taken alone' gained' entry = tt
taken_onward s0 s1 s2 s3 s4 one two more (Err (TooManyEntries offset)) fine alone gained taken alone' gained' entry = tt

pub read-onward : (s0 s1 s2 s3 s4 : Reading) (r0 r1 r2 : Option (List ℕ)) (result : Result (Option (ℕ × Entry)) RecordFault) → s0.fault ≡ None
    → HeldAlone s0 s1 → Gains s0.held r0 s1.held r1 → HeaderTaken (Ok tt) s1 s2 → HeldAlone s2 s3 → Gains s2.held r1 s3.held r2
    → EntryTaken result (next_entry s3.room s3.offset s3.held) s3 s4 → GoesOn result s0 r0 s4 r2
read-onward s0 s1 s2 s3 s4 None r1 r2 result fine alone gains taken alone' gains' entry = tt
read-onward s0 s1 s2 s3 s4 (Some was) None r2 result fine alone gains taken alone' gains' entry = absurd (none_left gains.1)
read-onward s0 s1 s2 s3 s4 (Some was) (Some mid) None result fine alone gains taken alone' gains' entry = absurd (none_left gains'.1)
read-onward s0 s1 s2 s3 s4 (Some was) (Some mid) (Some now) result fine alone gains taken alone' gains' entry =
    let one = gains.0.0 in
    let two = gains'.0.0 in
    let step : (more : List ℕ) → IsFirstOnward result (to_come s0 ((one ++ two) ++ more)) (to_come s4 more) =
    λ more. both result s0 s4 one two more (taken_onward s0 s1 s2 s3 s4 one two more result fine alone gains.0.2 taken alone' gains'.0.2 entry) in
    ((one ++ two, gains.0.1 ∙ ap (λ xs. one ++ xs) gains'.0.1 ∙ sym (append_assoc one two now), step), refl)

-- the answer stays right once its fault is kept
pub faulted-onward : (s0 s1 s2 : Reading) (r0 r1 : Option (List ℕ)) (result : Result (Option (ℕ × Entry)) RecordFault) → s2 ≡ record s1 { fault = lasting_fault result } → s1.fault ≡ None
    → GoesOn result s0 r0 s1 r1 → GoesOn result s0 r0 s2 r1
faulted-onward s0 s1 s2 None r1 result after fine onwards = tt
faulted-onward s0 s1 s2 (Some was) None result after fine onwards = absurd (none_left onwards.1)
faulted-onward s0 s1 s2 (Some was) (Some now) result after fine onwards =
    ((onwards.0.0, onwards.0.1, λ more. by_result result after more (onwards.0.2 more)), refl)
  where
    by_result : (r : Result (Option (ℕ × Entry)) RecordFault) → s2 ≡ record s1 { fault = lasting_fault r } → (more : List ℕ)
        → IsFirstOnward r (to_come s0 (onwards.0.0 ++ more)) (to_come s1 more) → IsFirstOnward r (to_come s0 (onwards.0.0 ++ more)) (to_come s2 more)
    by_result (Ok None) after more first = tt
    by_result (Ok (Some x)) after more first =
        let P : Result (Header × Entries) RecordFault → Type 0 = λ a. IsFirstOnward (Ok (Some x)) (to_come s0 (onwards.0.0 ++ more)) a in
        subst P (sym (kept_none s1 s2 more after fine)) first
    by_result (Err ReadFault) after more first = kept_none s1 s2 more after fine ∙ first
    by_result (Err Memory) after more first = kept_none s1 s2 more after fine ∙ first
    by_result (Err BadMagic) after more first = tt
    by_result (Err (BadKind kind offset)) after more first = tt
    by_result (Err (Cut offset)) after more first = tt
    by_result (Err (TooLong offset)) after more first = tt
    by_result (Err (TooManyEntries offset)) after more first = tt

-- a fault that was kept is answered again, and nothing is read
pub again-onward : (s : Reading) (r : Option (List ℕ)) (fault : RecordFault) → GoesOn (Err fault) s r s r
again-onward s None fault = tt
again-onward s (Some now) fault = (([], refl, λ more. by_fault fault more), refl)
  where
    by_fault : (f : RecordFault) (more : List ℕ) → IsFirstOnward (Err f) (to_come s more) (to_come s more)
    by_fault ReadFault more = refl
    by_fault Memory more = refl
    by_fault BadMagic more = tt
    by_fault (BadKind kind offset) more = tt
    by_fault (Cut offset) more = tt
    by_fault (TooLong offset) more = tt
    by_fault (TooManyEntries offset) more = tt
