-- The longest first part of octets that is a record.
use Rattle.std.proofs.Common.{arith, ◌≡◌, ◌+◌, ◌-◌, ◌≤◌, ℕ, zero, suc, List, [], ◌∷◌, ◌++◌, length, take, drop, Bool, true, false, Option, Some, None, Result, Ok, Err, refl, sym, ap, subst, ◌∙◌, length-append}
use Rattle.std.specs.Prelude.{flat_map, map, nat_lt, ◌==◌, if◌then◌else◌}
use Rattle.std.proofs.lemmas.List.{drop-append-le, length-drop, length-take-le}
use Rattle.std.proofs.lemmas.Bool.Decides.{nat_tests}
use Rattle.hk_base.specs.Fields.{octets_of, number_of}
use Rattle.session_record.specs.Records.{Header, Entries, most_entries, most_octets, header_of, header_octets, header_in, after_header, read_record, fault_in, record_fault, FitIn, record_octets, whole_front, trimmed, entry_of_kind, entry_after_kind, entry_octets, entry_size, held_octets, next_entry, entry_before, entries_from}
use Rattle.session_record.specs.Reading.{is_final}
use Rattle.session_record.specs.declared.entry.Entry.{Entry}
use Rattle.session_record.specs.declared.entry.Entry.TheVariants.{Sent, Got, Line}
use Rattle.session_record.specs.declared.entry.RecordFault.{RecordFault}
use Rattle.session_record.specs.declared.entry.RecordFault.TheVariants.{Cut, TooLong}
use Rattle.session_record.proofs.RecordLemmas.{record-read}
use Rattle.session_record.proofs.NextLemmas.{header-long, header-more, next-more, first-entry, no-entry, faulty-entry}

-- the octets of the entries that were read
abbrev pub whole_octets : Entries → List ℕ
whole_octets entries = flat_map entry_octets (map (λ e. e.1) entries.list)

pub length-entry : (e : Entry) → length (entry_octets e) ≡ entry_size e
length-entry e = let sizes = length-append (octets_of 4 (length (held_octets e))) (held_octets e) in omega arith

-- an entry of a kind holds what it is made of
pub holds : (kind : ℕ) (make : List ℕ → Entry) → entry_of_kind kind ≡ Some make → (held : List ℕ) → held_octets (make held) ≡ held
holds kind make is held = by_sent (kind == 0x53) (kind == 0x47) (kind == 0x4a) is
  where
    by_sent : (a b c : Bool) → (if a then Some Sent else if b then Some Got else if c then Some Line else None) ≡ Some make → held_octets (make held) ≡ held
    by_sent true b c is = let same : Sent ≡ make = cc in ap (λ m. held_octets (m held)) (sym same)
    by_sent false true c is = let same : Got ≡ make = cc in ap (λ m. held_octets (m held)) (sym same)
    by_sent false false true is = let same : Line ≡ make = cc in ap (λ m. held_octets (m held)) (sym same)
    by_sent false false false is = absurd (cc is)

-- an entry that is found is within the octets
after-within : (offset kind : ℕ) (rest : List ℕ) (make : Option (List ℕ → Entry)) (e : Entry) → entry_of_kind kind ≡ make → entry_after_kind offset kind rest make ≡ Ok (Some e)
    → (entry_size e ≤ suc (length rest)) × (offset + entry_size e ≤ most_octets)
after-within offset kind rest None e is found = absurd (cc found)
after-within offset kind rest (Some make) e is found =
    by_tests (nat_lt (length rest) 4) (nat_lt most_octets (offset + 5 + number_of (take 4 rest))) (nat_lt (length rest) (4 + number_of (take 4 rest))) refl refl found
  where
    by_tests : (short long cut : Bool) → nat_lt most_octets (offset + 5 + number_of (take 4 rest)) ≡ long → nat_lt (length rest) (4 + number_of (take 4 rest)) ≡ cut
        → (if short then Err (Cut offset) else if long then Err (TooLong offset) else if cut then Err (Cut offset) else Ok (Some (make (take (number_of (take 4 rest)) (drop 4 rest))))) ≡ Ok (Some e)
        → (entry_size e ≤ suc (length rest)) × (offset + entry_size e ≤ most_octets)
    by_tests true long cut small enough found = absurd (cc found)
    by_tests false true cut small enough found = absurd (cc found)
    by_tests false false true small enough found = absurd (cc found)
    by_tests false false false small enough found =
        let size = number_of (take 4 rest) in
        let same : make (take size (drop 4 rest)) ≡ e = cc in
        let held : held_octets e ≡ take size (drop 4 rest) = ap held_octets (sym same) ∙ holds kind make is (take size (drop 4 rest)) in
        let whole : 4 + size ≤ length rest = grind (arith, nat_tests) in
        let left = length-drop 4 rest in
        let room : length (take size (drop 4 rest)) ≡ size = length-take-le size (drop 4 rest) (omega arith) in
        let few : offset + 5 + size ≤ most_octets = grind (arith, nat_tests) in
        let sizes = ap (λ (xs : List ℕ). length xs) held in
        (omega arith, omega arith)

-- no entry is found only where there are no octets
after-some : (offset kind : ℕ) (rest : List ℕ) (make : Option (List ℕ → Entry)) → entry_after_kind offset kind rest make ≡ Ok None → ⊥
after-some offset kind rest None found = cc found
after-some offset kind rest (Some make) found =
    by_tests (nat_lt (length rest) 4) (nat_lt most_octets (offset + 5 + number_of (take 4 rest))) (nat_lt (length rest) (4 + number_of (take 4 rest))) (make (take (number_of (take 4 rest)) (drop 4 rest))) found
  where
    by_tests : (short long cut : Bool) (e : Entry) → (if short then Err (Cut offset) else if long then Err (TooLong offset) else if cut then Err (Cut offset) else Ok (Some e)) ≡ Ok None → ⊥
    by_tests true long cut e found = cc found
    by_tests false true cut e found = cc found
    by_tests false false true e found = cc found
    by_tests false false false e found = cc found

pub none-found : (room offset : ℕ) (octets : List ℕ) → next_entry room offset octets ≡ Ok None → octets ≡ []
none-found room offset [] found = refl
none-found zero offset (kind ∷ rest) found = absurd (cc found)
none-found (suc room) offset (kind ∷ rest) found = absurd (after-some offset kind rest (entry_of_kind kind) found)

pub found-within : (room offset : ℕ) (octets : List ℕ) (e : Entry) → next_entry (suc room) offset octets ≡ Ok (Some e)
    → (entry_size e ≤ length octets) × (offset + entry_size e ≤ most_octets)
found-within room offset [] e found = absurd (cc found)
found-within room offset (kind ∷ rest) e found = after-within offset kind rest (entry_of_kind kind) e refl found

pub none-beyond : (offset : ℕ) (octets : List ℕ) (e : Entry) → next_entry zero offset octets ≡ Ok (Some e) → ⊥
none-beyond offset [] e found = cc found
none-beyond offset (kind ∷ rest) e found = cc found

-- a first part with no fault is within the entries that are whole
pub longest-entries : (room offset : ℕ) (part more : List ℕ) → (entries_from room offset part).fault ≡ None → length part ≤ length (whole_octets (entries_from room offset (part ++ more)))
longest-entries zero offset part more clean = by_next (next_entry zero offset part) refl
  where
    by_next : (n : Result (Option Entry) RecordFault) → next_entry zero offset part ≡ n → length part ≤ length (whole_octets (entries_from zero offset (part ++ more)))
    by_next (Ok None) is = omega (arith, ap (λ (xs : List ℕ). length xs) (none-found zero offset part is))
    by_next (Ok (Some e)) is = absurd (none-beyond offset part e is)
    by_next (Err fault) is = absurd (cc (sym (ap (λ (x : Entries). x.fault) (faulty-entry zero offset part fault is)) ∙ clean))
longest-entries (suc room) offset part more clean =
    by_next (next_entry (suc room) offset part) refl (λ e. longest-entries room (offset + entry_size e) (drop (entry_size e) part) more)
  where
    by_next : (n : Result (Option Entry) RecordFault) → next_entry (suc room) offset part ≡ n
        → ((e : Entry) → (entries_from room (offset + entry_size e) (drop (entry_size e) part)).fault ≡ None
        → length (drop (entry_size e) part) ≤ length (whole_octets (entries_from room (offset + entry_size e) (drop (entry_size e) part ++ more))))
        → length part ≤ length (whole_octets (entries_from (suc room) offset (part ++ more)))
    by_next (Ok None) is later = omega (arith, ap (λ (xs : List ℕ). length xs) (none-found (suc room) offset part is))
    by_next (Err fault) is later = absurd (cc (sym (ap (λ (x : Entries). x.fault) (faulty-entry (suc room) offset part fault is)) ∙ clean))
    by_next (Ok (Some e)) is later =
        let size = entry_size e in
        let within = (found-within room offset part e is).0 in
        let left : suc room - 1 ≡ room = omega arith in
        let inner : entries_from (suc room) offset part ≡ entry_before offset e (entries_from room (offset + size) (drop size part)) =
        first-entry (suc room) offset part e (omega arith) is ∙ ap (λ n. entry_before offset e (entries_from n (offset + size) (drop size part))) left in
        let fine : (entries_from room (offset + size) (drop size part)).fault ≡ None = sym (ap (λ (x : Entries). x.fault) inner) ∙ clean in
        let same : next_entry (suc room) offset (part ++ more) ≡ Ok (Some e) = next-more (suc room) offset part more (ap is_final is) ∙ is in
        let outer : entries_from (suc room) offset (part ++ more) ≡ entry_before offset e (entries_from room (offset + size) (drop size part ++ more)) =
        first-entry (suc room) offset (part ++ more) e (omega arith) same
        ∙ ap (λ n. entry_before offset e (entries_from n (offset + size) (drop size (part ++ more)))) left
        ∙ ap (λ xs. entry_before offset e (entries_from room (offset + size) xs)) (drop-append-le size part more within) in
        let whole : length (whole_octets (entries_from (suc room) offset (part ++ more))) ≡ size + length (whole_octets (entries_from room (offset + size) (drop size part ++ more))) =
        ap (λ (x : Entries). length (whole_octets x)) outer
        ∙ length-append (entry_octets e) (whole_octets (entries_from room (offset + size) (drop size part ++ more)))
        ∙ ap (λ n. n + length (whole_octets (entries_from room (offset + size) (drop size part ++ more)))) (length-entry e) in
        omega (arith, later e fine, whole, length-drop size part)

header-size : (h : Header) → length (header_octets h) ≡ 8
header-size h = go h.known h.long
  where
    go : (known long : Bool) → length (header_octets (header_of known long)) ≡ 8
    go true true = refl
    go true false = refl
    go false true = refl
    go false false = refl

-- what is trimmed, by its header
trimmed-size : (h : Header) (x : Entries) → length (record_octets h (map (λ e. e.1) x.list)) ≡ 8 + length (whole_octets x)
trimmed-size h x = length-append (header_octets h) (whole_octets x) ∙ ap (λ n. n + length (whole_octets x)) (header-size h)

-- a first part of octets that is a record is no longer than what is trimmed
pub no-longer : (part more front : List ℕ) → trimmed (part ++ more) ≡ Some front → record_fault part ≡ None → length part ≤ length front
no-longer part more front is clean = by_header (header_in part) refl
  where
    by_header : (o : Option Header) → header_in part ≡ o → length part ≤ length front
    by_header None at = absurd (cc (sym (ap (λ o. fault_in (after_header most_entries 8 part o)) at) ∙ clean))
    by_header (Some h) at =
        let long = header-long part h at in
        let read : read_record part ≡ Ok (h, entries_from most_entries 8 (drop 8 part)) = ap (after_header most_entries 8 part) at in
        let fine : (entries_from most_entries 8 (drop 8 part)).fault ≡ None = sym (ap fault_in read) ∙ clean in
        let whole : read_record (part ++ more) ≡ Ok (h, entries_from most_entries 8 (drop 8 part ++ more)) =
        ap (after_header most_entries 8 (part ++ more)) (header-more part more long ∙ at)
        ∙ ap (λ xs. Ok (h, entries_from most_entries 8 xs)) (drop-append-le 8 part more long) in
        let out : Some (record_octets h (map (λ e. e.1) (entries_from most_entries 8 (drop 8 part ++ more)).list)) ≡ Some front = sym (ap whole_front whole) ∙ is in
        let same : record_octets h (map (λ e. e.1) (entries_from most_entries 8 (drop 8 part ++ more)).list) ≡ front = cc in
        let within = longest-entries most_entries 8 (drop 8 part) more fine in
        omega (arith, within, trimmed-size h (entries_from most_entries 8 (drop 8 part ++ more)), ap (λ (xs : List ℕ). length xs) same, length-drop 8 part)

-- the entries that were read are those of a record
pub entries-fit : (room offset : ℕ) (octets : List ℕ) → FitIn room offset (map (λ e. e.1) (entries_from room offset octets).list)
entries-fit zero offset octets = by_next (next_entry zero offset octets) refl
  where
    by_next : (n : Result (Option Entry) RecordFault) → next_entry zero offset octets ≡ n → FitIn zero offset (map (λ e. e.1) (entries_from zero offset octets).list)
    by_next (Ok None) is = let P : Entries → Type 0 = λ x. FitIn zero offset (map (λ e. e.1) x.list) in subst P (sym (no-entry zero offset octets is)) tt
    by_next (Err fault) is = let P : Entries → Type 0 = λ x. FitIn zero offset (map (λ e. e.1) x.list) in subst P (sym (faulty-entry zero offset octets fault is)) tt
    by_next (Ok (Some e)) is = absurd (none-beyond offset octets e is)
entries-fit (suc room) offset octets = by_next (next_entry (suc room) offset octets) refl (λ e. entries-fit room (offset + entry_size e) (drop (entry_size e) octets))
  where
    by_next : (n : Result (Option Entry) RecordFault) → next_entry (suc room) offset octets ≡ n
        → ((e : Entry) → FitIn room (offset + entry_size e) (map (λ e. e.1) (entries_from room (offset + entry_size e) (drop (entry_size e) octets)).list))
        → FitIn (suc room) offset (map (λ e. e.1) (entries_from (suc room) offset octets).list)
    by_next (Ok None) is later = let P : Entries → Type 0 = λ x. FitIn (suc room) offset (map (λ e. e.1) x.list) in subst P (sym (no-entry (suc room) offset octets is)) tt
    by_next (Err fault) is later = let P : Entries → Type 0 = λ x. FitIn (suc room) offset (map (λ e. e.1) x.list) in subst P (sym (faulty-entry (suc room) offset octets fault is)) tt
    by_next (Ok (Some e)) is later =
        let P : Entries → Type 0 = λ x. FitIn (suc room) offset (map (λ e. e.1) x.list) in
        let left : suc room - 1 ≡ room = omega arith in
        let inner : entries_from (suc room) offset octets ≡ entry_before offset e (entries_from room (offset + entry_size e) (drop (entry_size e) octets)) =
        first-entry (suc room) offset octets e (omega arith) is ∙ ap (λ n. entry_before offset e (entries_from n (offset + entry_size e) (drop (entry_size e) octets))) left in
        subst P (sym inner) ((found-within room offset octets e is).1, later e)

-- what is trimmed is a record with no fault
pub trimmed-clean : (octets front : List ℕ) → trimmed octets ≡ Some front → record_fault front ≡ None
trimmed-clean octets front is = by_header (header_in octets) refl
  where
    by_header : (o : Option Header) → header_in octets ≡ o → record_fault front ≡ None
    by_header None at = absurd (cc (sym (ap (λ o. whole_front (after_header most_entries 8 octets o)) at) ∙ is))
    by_header (Some h) at =
        let out : Some (record_octets h (map (λ e. e.1) (entries_from most_entries 8 (drop 8 octets)).list)) ≡ Some front =
        sym (ap (λ o. whole_front (after_header most_entries 8 octets o)) at) ∙ is in
        let same : record_octets h (map (λ e. e.1) (entries_from most_entries 8 (drop 8 octets)).list) ≡ front = cc in
        ap record_fault (sym same)
        ∙ ap fault_in (record-read h (map (λ e. e.1) (entries_from most_entries 8 (drop 8 octets)).list) (entries-fit most_entries 8 (drop 8 octets)))
