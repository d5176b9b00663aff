-- What an answer of the reader says of what comes of a record.
use Rattle.std.proofs.Common.{◌≡◌, ℕ, zero, suc, false, List, [], ◌++◌, drop, Option, Some, None, Result, Ok, Err, refl, sym, ap, ◌∙◌, append-nil}
use Rattle.std.specs.Prelude.{IfSome, IsSome, MatchResult}
use Rattle.session_record.specs.Records.{Entries, entries_by, entries_from, entry_before, after_header, header_in, next_entry}
use Rattle.session_record.specs.Reading.{Reading, Answers, GoesOn, is_final, is_settled, is_settled_at, is_settled_header, no_entries, read_on, to_come}
use Rattle.session_record.specs.Written.{IsWritten}
use Rattle.session_record.specs.declared.header.Header.{Header}
use Rattle.session_record.specs.declared.entry.Entry.{Entry}
use Rattle.session_record.specs.declared.entry.RecordFault.{RecordFault}
use Rattle.session_record.specs.declared.entry.RecordFault.TheVariants.{BadMagic, BadKind, Cut, TooLong, TooManyEntries, ReadFault, Memory}
use Rattle.session_texts.specs.declared.problem.RecordProblem.{RecordProblem}
use Rattle.session_texts.specs.declared.problem.RecordProblem.TheVariants as problem
use Rattle.decommutator.specs.Standing.{Decommutation}
use Rattle.decommutator.specs.Following.{after_followed}
use Rattle.followed_records.specs.Told.{Told, told_text, told_problem}
use Rattle.followed_records.specs.Faults.{fault_of_reading}
use Rattle.followed_records.specs.Following.{told_end, told_entry, told_entries, told_rest, FollowsUntil}
use Rattle.followed_records.proofs.WrittenLemmas.{written_none, written_as, prefix_none}

pub none_told : IsSome {T = List ℕ} None → ⊥
none_told e = cc

-- octets without an entry in full bring nothing
no_blocks_end : (d : Decommutation) (fault : Option RecordFault) → (told_end d fault).blocks ≡ []
no_blocks_end d None = refl
no_blocks_end d (Some f) = refl

no_blocks_of : (d : Decommutation) (h : Header) (es : Entries) → es.list ≡ [] → (told_rest d (Ok (h, es))).blocks ≡ []
no_blocks_of d h es none = ap (λ list. (told_entries d list es.fault).blocks) none ∙ no_blocks_end d es.fault

entries_unfinished : (offset : ℕ) (next : Result (Option Entry) RecordFault) (rest : Entry → Entries) → is_final next ≡ false → (entries_by offset next rest).list ≡ []
entries_unfinished offset (Ok None) rest partly = refl
entries_unfinished offset (Ok (Some e)) rest partly = absurd (cc partly)
entries_unfinished offset (Err fault) rest partly = refl

unfinished : (room offset : ℕ) (octets : List ℕ) → is_final (next_entry room offset octets) ≡ false → (entries_from room offset octets).list ≡ []
unfinished zero offset octets partly = entries_unfinished offset (next_entry zero offset octets) _ partly
unfinished (suc room) offset octets partly = entries_unfinished offset (next_entry (suc room) offset octets) _ partly

unsettled_header : (d : Decommutation) (room offset : ℕ) (octets : List ℕ) (found : Option Header) → is_settled_header room offset octets found ≡ false
    → (told_rest d (after_header room offset octets found)).blocks ≡ []
unsettled_header d room offset octets None partly = refl
unsettled_header d room offset octets (Some h) partly = no_blocks_of d h (entries_from room offset (drop 8 octets)) (unfinished room offset (drop 8 octets) partly)

unsettled_at : (d : Decommutation) (header : Option Header) (room offset : ℕ) (octets : List ℕ) → is_settled_at header None room offset octets ≡ false
    → (told_rest d (read_on header None room offset octets)).blocks ≡ []
unsettled_at d None room offset octets partly = unsettled_header d room offset octets (header_in octets) partly
unsettled_at d (Some h) room offset octets partly = no_blocks_of d h (entries_from room offset octets) (unfinished room offset octets partly)

unsettled : (d : Decommutation) (r : Reading) → r.fault ≡ None → is_settled r ≡ false → (told_rest d (to_come r [])).blocks ≡ []
unsettled d r fine partly =
    ap (λ f. (told_rest d (read_on r.header f r.room r.offset (r.held ++ []))).blocks) fine
    ∙ ap (λ octets. (told_rest d (read_on r.header None r.room r.offset octets)).blocks) (append-nil r.held)
    ∙ unsettled_at d r.header r.room r.offset r.held (sym (ap (λ f. is_settled_at r.header f r.room r.offset r.held) fine) ∙ partly)

-- nothing more comes than a fault
fault_next : (d : Decommutation) (fault : RecordFault) (x : Result (Header × Entries) RecordFault) → MatchResult x (λ b. b.1 ≡ no_entries (Some fault)) (λ f. ⊥)
    → told_rest d x ≡ told_problem (problem.Format fault)
fault_next d fault (Ok b) h = ap (λ (es : Entries). told_entries d es.list es.fault) h
fault_next d fault (Err f) h = absurd h

-- nothing more comes than the end
pub end_next : (d : Decommutation) (x : Result (Header × Entries) RecordFault) → MatchResult x (λ b. b.1 ≡ no_entries None) (λ f. ⊥) → told_rest d x ≡ told_end d None
end_next d (Ok b) h = ap (λ (es : Entries). told_entries d es.list es.fault) h
end_next d (Err f) h = absurd h

-- an entry comes first
pub entry_next : (d : Decommutation) (x : ℕ × Entry) (before after : Result (Header × Entries) RecordFault)
    → MatchResult after (λ left. before ≡ Ok (left.0, entry_before x.0 x.1 left.1)) (λ f. ⊥) → told_rest d before ≡ told_entry d x.0 x.1 (told_rest (after_followed d x.1) after)
entry_next d x before (Ok left) h = ap (told_rest d) h
entry_next d x before (Err f) h = absurd h

-- nothing was written for a problem
problem_only : (x : Told) (found : RecordProblem) (now : Option (List ℕ)) → x ≡ told_problem found → (x.problem ≡ Some found) × IsWritten now (told_text x) now
problem_only x found now is = (ap (λ (y : Told). y.problem) is, written_as now now [] (told_text x) (ap told_text is) (written_none now))

-- where reading ends in a fault, nothing more is written
pub reading_ends : (T : List ℕ → Told) (D : List ℕ → Decommutation) (r s : Reading) (rest left now : Option (List ℕ)) (fault : RecordFault)
    → ((more : List ℕ) → T more ≡ told_rest (D more) (to_come r more)) → (fault ≡ ReadFault → s.fault ≡ None) → (fault ≡ ReadFault → is_settled s ≡ false)
    → Answers (Err fault) r rest s left → GoesOn (Err fault) r rest s left → IfSome rest (λ octets. FollowsUntil (fault_of_reading fault) T octets left now now)
reading_ends T D r s None left now fault is fine partly answers onward = tt
reading_ends T D r s (Some was) None now fault is fine partly answers onward = absurd (none_told answers.1)
reading_ends T D r s (Some was) (Some rest) now ReadFault is fine partly answers onward =
    let given = onward.0.0 in
    let same : to_come r given ≡ to_come s [] = sym (onward.0.2 [] ∙ ap (to_come r) (append-nil given)) in
    let none : (T given).blocks ≡ [] = ap (λ (x : Told). x.blocks) (is given ∙ ap (told_rest (D given)) same) ∙ unsettled (D given) s (fine refl) (partly refl) in
    (((given, onward.0.1, written_as now now [] (T given).blocks none (written_none now)), refl), prefix_none now (told_text (T was)))
reading_ends T D r s (Some was) (Some rest) now Memory is fine partly answers onward = prefix_none now (told_text (T was))
reading_ends T D r s (Some was) (Some rest) now BadMagic is fine partly answers onward =
    problem_only (T was) (problem.Format BadMagic) now (is was ∙ ap (told_rest (D was)) answers.0.1)
reading_ends T D r s (Some was) (Some rest) now (BadKind kind offset) is fine partly answers onward =
    problem_only (T was) (problem.Format (BadKind kind offset)) now (is was ∙ fault_next (D was) (BadKind kind offset) (to_come r was) answers.0.1)
reading_ends T D r s (Some was) (Some rest) now (Cut offset) is fine partly answers onward =
    problem_only (T was) (problem.Format (Cut offset)) now (is was ∙ fault_next (D was) (Cut offset) (to_come r was) answers.0.1)
reading_ends T D r s (Some was) (Some rest) now (TooLong offset) is fine partly answers onward =
    problem_only (T was) (problem.Format (TooLong offset)) now (is was ∙ fault_next (D was) (TooLong offset) (to_come r was) answers.0.1)
reading_ends T D r s (Some was) (Some rest) now (TooManyEntries offset) is fine partly answers onward =
    problem_only (T was) (problem.Format (TooManyEntries offset)) now (is was ∙ fault_next (D was) (TooManyEntries offset) (to_come r was) answers.0.1)
