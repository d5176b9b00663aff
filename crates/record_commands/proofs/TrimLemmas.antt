-- What is trimmed of a record stays what it is while its entries are read.
use Rattle.std.proofs.Common.{◌≡◌, ℕ, ◌+◌, false, List, [], ◌++◌, Option, Some, None, Result, Ok, Err, refl, sym, ap, subst, ◌∙◌}
use Rattle.std.specs.Prelude.{IfSome, IsSome, MatchResult}
use Rattle.std.proofs.lemmas.Bool.{both_ways}
use Rattle.std.proofs.lemmas.List.{append_assoc, append-nil}
use Rattle.session_record.specs.Records.{Entries, entry_octets, header_octets}
use Rattle.session_record.specs.Reading.{Reading, Answers, IsFirst, no_entries, reading_at_start, to_come}
use Rattle.session_record.specs.declared.header.Header.{Header}
use Rattle.session_record.specs.declared.entry.Entry.{Entry}
use Rattle.session_record.specs.declared.entry.RecordFault.{RecordFault}
use Rattle.session_record.specs.declared.entry.RecordFault.TheVariants.{BadMagic, BadKind, Cut, TooLong, TooManyEntries, ReadFault, Memory}
use Rattle.record_commands.specs.Trimming.{entries_octets, trimmed_by, trimmed_from, header_read, trimmed_octets, FailsWith, IsFirstWhole, TakesWhole, IsTrimmed, IsKept}
use Rattle.record_commands.proofs.ToComeLemmas.{none_told, header_of_rest}

-- an answer of the reader as an answer of this program
whole_of : (before after : Result (Header × Entries) RecordFault) (x : ℕ × Entry) → IsFirst (Ok (Some x)) before after → IsFirstWhole (Ok (Some x.1)) before after
whole_of before (Ok left) x h = (x.0, h)
whole_of before (Err f) x h = absurd h

kept_by : (fault : Option RecordFault) → ((octets : List ℕ) → trimmed_by fault octets ≡ Ok octets) → (before : Result (Header × Entries) RecordFault)
    → MatchResult before (λ b. b.1 ≡ record { list = []; fault = fault }) (λ f. ⊥) → (kept : List ℕ) → trimmed_from kept before ≡ Ok kept
kept_by fault free (Ok b) h kept = ap (λ es. trimmed_by es.fault (kept ++ entries_octets es.list)) h ∙ (ap (trimmed_by fault) (append-nil kept) ∙ free kept)
kept_by fault free (Err f) h kept = absurd h

ends_by : (fault : RecordFault) → ((octets : List ℕ) → trimmed_by (Some fault) octets ≡ Err fault) → (before : Result (Header × Entries) RecordFault)
    → MatchResult before (λ b. b.1 ≡ no_entries (Some fault)) (λ f. ⊥) → (kept : List ℕ) → trimmed_from kept before ≡ Err fault
ends_by fault free (Ok b) h kept = ap (λ es. trimmed_by es.fault (kept ++ entries_octets es.list)) h ∙ free (kept ++ [])
ends_by fault free (Err f) h kept = absurd h

-- the end, and a cut, end what is trimmed
end_of : (before after : Result (Header × Entries) RecordFault) → IsFirst (Ok None) before after → IsFirstWhole (Ok None) before after
end_of before after h = (h.0, kept_by None (λ octets. refl) before h.1)

cut_of : (offset : ℕ) (before after : Result (Header × Entries) RecordFault) → IsFirst (Err (Cut offset)) before after → IsFirstWhole (Ok None) before after
cut_of offset before after h = (h.0, kept_by (Some (Cut offset)) (λ octets. refl) before h.1)

-- every other fault ends the run
abbrev pub IsUncut : RecordFault → Type 0
IsUncut (Cut offset) = ⊥
IsUncut fault = Unit {0}

fault_of : (fault : RecordFault) (before after : Result (Header × Entries) RecordFault) → IsUncut fault → IsFirst (Err fault) before after → IsFirstWhole (Err fault) before after
fault_of BadMagic before after u h kept = subst (λ x. FailsWith BadMagic (trimmed_from kept x)) (sym h.1) refl
fault_of (BadKind k o) before after u h kept = subst (λ x. FailsWith (BadKind k o) x) (sym (ends_by (BadKind k o) (λ octets. refl) before h.1 kept)) refl
fault_of (Cut o) before after u h kept = absurd u
fault_of (TooLong o) before after u h kept = subst (λ x. FailsWith (TooLong o) x) (sym (ends_by (TooLong o) (λ octets. refl) before h.1 kept)) refl
fault_of (TooManyEntries o) before after u h kept = subst (λ x. FailsWith (TooManyEntries o) x) (sym (ends_by (TooManyEntries o) (λ octets. refl) before h.1 kept)) refl
fault_of ReadFault before after u h kept = tt
fault_of Memory before after u h kept = tt

pub takes_entry : (r s : Reading) (rest left : Option (List ℕ)) (x : ℕ × Entry) → Answers (Ok (Some x)) r rest s left → TakesWhole (Ok (Some x.1)) r rest s left
takes_entry r s None left x h = tt
takes_entry r s (Some was) None x h = absurd (none_told h.1)
takes_entry r s (Some was) (Some now) x h = (whole_of (to_come r was) (to_come s now) x h.0, refl)

pub takes_end : (r s : Reading) (rest left : Option (List ℕ)) → Answers (Ok None) r rest s left → TakesWhole (Ok None) r rest s left
takes_end r s None left h = tt
takes_end r s (Some was) None h = absurd (none_told h.1)
takes_end r s (Some was) (Some now) h = (end_of (to_come r was) (to_come s now) h.0, refl)

pub takes_cut : (offset : ℕ) (r s : Reading) (rest left : Option (List ℕ)) → Answers (Err (Cut offset)) r rest s left → TakesWhole (Ok None) r rest s left
takes_cut offset r s None left h = tt
takes_cut offset r s (Some was) None h = absurd (none_told h.1)
takes_cut offset r s (Some was) (Some now) h = (cut_of offset (to_come r was) (to_come s now) h.0, refl)

pub takes_fault : (fault : RecordFault) (r s : Reading) (rest left : Option (List ℕ)) → IsUncut fault → Answers (Err fault) r rest s left → TakesWhole (Err fault) r rest s left
takes_fault fault r s None left u h = tt
takes_fault fault r s (Some was) None u h = absurd (none_told h.1)
takes_fault fault r s (Some was) (Some now) u h = (fault_of fault (to_come r was) (to_come s now) u h.0, refl)

-- the next entry
next_of : (given : Result (List ℕ) RecordFault) (kept : List ℕ) (before after : Result (Header × Entries) RecordFault) (next : Option Entry)
    → trimmed_from kept before ≡ given → IsFirstWhole (Ok next) before after → IsTrimmed given kept next after
next_of given kept before (Ok left) (Some e) is h =
    ap (trimmed_by left.1.fault) (append_assoc kept (entry_octets e) (entries_octets left.1.list)) ∙ (sym (ap (trimmed_from kept) h.1) ∙ is)
next_of given kept before (Err f) (Some e) is h = absurd h
next_of given kept before after None is h = sym (h.1 kept) ∙ is

-- whatever is trimmed of the start is trimmed of what was kept since, the next entry and what is still to come
abbrev pub KeepsOn : Option (List ℕ) → List ℕ → Option Entry → Reading → Option (List ℕ) → List ℕ → Option Entry → Reading → Type 0
KeepsOn was before first r rest kept next s =
    IfSome was (λ a. IfSome rest (λ b. (given : Result (List ℕ) RecordFault) → IsTrimmed given before first (to_come r a) → IsTrimmed given kept next (to_come s b)) × IsSome rest)

pub keeps_on-start : (was : Option (List ℕ)) (before : List ℕ) (first : Option Entry) (r : Reading) → KeepsOn was before first r was before first r
keeps_on-start None before first r = tt
keeps_on-start (Some a) before first r = (λ given h. h, refl)

-- an entry was put to what is kept, and the next one read
pub keeps_on-next : (was rest left : Option (List ℕ)) (before kept more : List ℕ) (first next : Option Entry) (e : Entry) (r s u : Reading)
    → KeepsOn was before first r rest kept (Some e) s → more ≡ kept ++ entry_octets e → TakesWhole (Ok next) s rest u left → KeepsOn was before first r left more next u
keeps_on-next None rest left before kept more first next e r s u keeps put takes = tt
keeps_on-next (Some a) None left before kept more first next e r s u keeps put takes = absurd (none_told keeps.1)
keeps_on-next (Some a) (Some m) None before kept more first next e r s u keeps put takes = absurd (none_told takes.1)
keeps_on-next (Some a) (Some m) (Some b) before kept more first next e r s u keeps put takes =
    (λ given h. next_of given more (to_come s m) (to_come u b) next (ap (λ xs. trimmed_from xs (to_come s m)) put ∙ keeps.0 given h) takes.0, refl)

-- nothing whole comes any more
pub keeps_on-end : (was rest : Option (List ℕ)) (before kept : List ℕ) (first : Option Entry) (r s : Reading) → KeepsOn was before first r rest kept None s
    → IfSome was (λ a. (given : Result (List ℕ) RecordFault) → IsTrimmed given before first (to_come r a) → Ok kept ≡ given)
keeps_on-end None rest before kept first r s keeps = tt
keeps_on-end (Some a) None before kept first r s keeps = absurd (none_told keeps.1)
keeps_on-end (Some a) (Some b) before kept first r s keeps = keeps.0

-- the run ends by an answer
pub keeps_on-fault : (was rest left : Option (List ℕ)) (before kept more : List ℕ) (first : Option Entry) (e : Entry) (r s u : Reading) (fault : RecordFault)
    → KeepsOn was before first r rest kept (Some e) s → more ≡ kept ++ entry_octets e → TakesWhole (Err fault) s rest u left
    → IfSome was (λ a. (given : Result (List ℕ) RecordFault) → IsTrimmed given before first (to_come r a) → FailsWith fault given)
keeps_on-fault None rest left before kept more first e r s u fault keeps put takes = tt
keeps_on-fault (Some a) None left before kept more first e r s u fault keeps put takes = absurd (none_told keeps.1)
keeps_on-fault (Some a) (Some m) None before kept more first e r s u fault keeps put takes = absurd (none_told takes.1)
keeps_on-fault (Some a) (Some m) (Some b) before kept more first e r s u fault keeps put takes =
    λ given h. subst (λ o. FailsWith fault o) (ap (λ xs. trimmed_from xs (to_come s m)) put ∙ keeps.0 given h) (takes.0 more)

-- how many turns a loop over entries has at most
abbrev pub turns : Option Entry → ℕ → ℕ
turns None room = 0
turns (Some e) room = room + 1

first_by : (x after : Result (Header × Entries) RecordFault) (kept : List ℕ) (next : Option Entry) (h : Header) → ((b : Header × Entries) → after ≡ Ok b → b.0 ≡ h) → kept ≡ header_octets h
    → IsFirstWhole (Ok next) x after → IsTrimmed (trimmed_from (header_read x) x) kept next after
first_by x (Ok left) kept (Some e) h same put takes =
    let header : header_read x ≡ kept = ap header_read takes.1 ∙ (ap header_octets (same left refl) ∙ sym put) in
    subst (λ out. IsTrimmed (trimmed_from (header_read x) x) out (Some e) (Ok left)) header (next_of (trimmed_from (header_read x) x) (header_read x) x (Ok left) (Some e) refl takes)
first_by x (Err f) kept (Some e) h same put takes = absurd takes
first_by (Ok b) after kept None h same put takes =
    let header : header_octets b.0 ≡ kept = ap header_octets (same b takes.0) ∙ sym put in
    subst (λ out. Ok out ≡ trimmed_from (header_octets b.0) (Ok b)) header (sym (takes.1 (header_octets b.0)))
first_by (Err f) after kept None h same put takes = absurd (not_ok f kept (takes.1 kept))
  where
    not_ok : (fault : RecordFault) (out : List ℕ) → ◌≡◌ {A = Result (List ℕ) RecordFault} (Err fault) (Ok out) → ⊥
    not_ok fault out e = cc

-- the first entry was read, and the header before it put to what is kept
pub is_trimmed-first : (was left : Option (List ℕ)) (kept : List ℕ) (next : Option Entry) (s : Reading) (h : Header) → s.header ≡ Some h → kept ≡ header_octets h
    → TakesWhole (Ok next) reading_at_start was s left → IfSome was (λ octets. IfSome left (λ rest. IsTrimmed (trimmed_octets octets) kept next (to_come s rest)) × IsSome left)
unfolding trimmed_octets
is_trimmed-first None left kept next s h is put takes = tt
is_trimmed-first (Some octets) None kept next s h is put takes = absurd (none_told takes.1)
is_trimmed-first (Some octets) (Some a) kept next s h is put takes =
    (first_by (to_come reading_at_start octets) (to_come s a) kept next h (λ b e. header_of_rest s a b h is e) put takes.0, refl)

-- the run ends before any entry
pub fault_first : (was left : Option (List ℕ)) (kept : List ℕ) (r s : Reading) (fault : RecordFault) → r ≡ reading_at_start
    → TakesWhole (Err fault) r was s left → IfSome was (λ octets. FailsWith fault (trimmed_octets octets))
unfolding trimmed_octets
fault_first None left kept r s fault start takes = tt
fault_first (Some octets) None kept r s fault start takes = absurd (none_told takes.1)
fault_first (Some octets) (Some a) kept r s fault start takes =
    subst (λ u. FailsWith fault (trimmed_from (header_read (to_come u octets)) (to_come u octets))) start (takes.0 (header_read (to_come r octets)))

-- what was kept in the end is what is trimmed
pub kept_first : (was left : Option (List ℕ)) (begun : List ℕ) (kept : List ℕ) (first : Option Entry) (r s : Reading) (result : Result Unit RecordFault) (header : Option Header) → s.header ≡ header
    → r ≡ reading_at_start → IsSome header → IfSome header (λ h. begun ≡ header_octets h) → TakesWhole (Ok first) r was s left
    → IfSome left (λ rest. (given : Result (List ℕ) RecordFault) → IsTrimmed given begun first (to_come s rest) → IsKept given result kept)
    → IfSome was (λ octets. IsKept (trimmed_octets octets) result kept)
kept_first was left begun kept first r s result None is start some put takes keep = absurd (both_ways false refl some)
kept_first was left begun kept first r s result (Some h) is start some put takes keep =
    go was left (is_trimmed-first was left begun first s h is put (subst (λ u. TakesWhole (Ok first) u was s left) start takes)) keep
  where
    go : (o p : Option (List ℕ)) → IfSome o (λ octets. IfSome p (λ rest. IsTrimmed (trimmed_octets octets) begun first (to_come s rest)) × IsSome p)
        → IfSome p (λ rest. (given : Result (List ℕ) RecordFault) → IsTrimmed given begun first (to_come s rest) → IsKept given result kept)
        → IfSome o (λ octets. IsKept (trimmed_octets octets) result kept)
    go None p h k = tt
    go (Some octets) None h k = absurd (none_told h.1)
    go (Some octets) (Some rest) h k = k (trimmed_octets octets) h.0
