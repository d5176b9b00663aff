-- What is held in full doesn't change by what follows.
use Rattle.std.proofs.Common.{arith, ◌≡◌, ◌+◌, ◌-◌, ◌<◌, ◌≤◌, ◌⊎◌, inl, inr, ℕ, zero, suc, List, [], ◌∷◌, ◌++◌, length, take, drop, Bool, true, false, Option, Some, None, Result, Ok, Err, refl, sym, ap, ◌∙◌, length-append}
use Rattle.std.specs.Prelude.{nat_lt, if◌then◌else◌}
use Rattle.std.proofs.lemmas.List.{take-append-le, drop-append-le}
use Rattle.std.proofs.lemmas.Bool.Decides.{nat_tests}
use Rattle.std.proofs.lemmas.Grind.{common_steps}
use Rattle.hk_base.specs.Fields.{number_of}
use Rattle.session_record.specs.Records.{Header, most_octets, header_spelled, header_in, entry_size, entry_of_kind, entry_after_kind, next_entry, entry_before, entries_by, entries_from}
use Rattle.session_record.specs.Reading.{is_final, no_entries}
use Rattle.session_record.specs.declared.entry.Entry.{Entry}
use Rattle.session_record.specs.declared.entry.RecordFault.{RecordFault}
use Rattle.session_record.specs.declared.entry.RecordFault.TheVariants.{Cut, TooLong}

-- a header has 8 octets
pub header-long : (octets : List ℕ) (h : Header) → header_in octets ≡ Some h → 8 ≤ length octets
header-long octets h e = grind (arith, common_steps)

-- the first 8 octets alone make the header
pub header-more : (octets more : List ℕ) → 8 ≤ length octets → header_in (octets ++ more) ≡ header_in octets
header-more octets more long = ap header_spelled (take-append-le 8 octets more long)

-- an entry, by what is wrong with it
abbrev chosen : Bool → Bool → Bool → ℕ → Entry → Result (Option Entry) RecordFault
chosen short long cut offset e = if short then Err (Cut offset) else if long then Err (TooLong offset) else if cut then Err (Cut offset) else Ok (Some e)

chosen-final : (short long cut : Bool) (offset : ℕ) (e : Entry) → is_final (chosen short long cut offset e) ≡ true
    → (short ≡ false) × ((long ≡ true) ⊎ ((long ≡ false) × (cut ≡ false)))
chosen-final true long cut offset e final = absurd (cc final)
chosen-final false true cut offset e final = (refl, inl refl)
chosen-final false false true offset e final = absurd (cc final)
chosen-final false false false offset e final = (refl, inr (refl, refl))

chosen-long : (short long cut : Bool) (offset : ℕ) (e : Entry) → short ≡ false → long ≡ true → chosen short long cut offset e ≡ Err (TooLong offset)
chosen-long short long cut offset e s l = rw (s, l) refl

chosen-whole : (short long cut : Bool) (offset : ℕ) (e : Entry) → short ≡ false → long ≡ false → cut ≡ false → chosen short long cut offset e ≡ Ok (Some e)
chosen-whole short long cut offset e s l c = rw (s, l, c) refl

not-shorter : (octets more : List ℕ) (n : ℕ) → nat_lt (length octets) n ≡ false → nat_lt (length (octets ++ more)) n ≡ false
not-shorter octets more n long = let sizes = length-append octets more in grind (arith, nat_tests)

long-enough : (octets : List ℕ) (n : ℕ) → nat_lt (length octets) n ≡ false → n ≤ length octets
long-enough octets n long = grind (arith, nat_tests)

same-held : (rest more : List ℕ) (size : ℕ) → 4 + size ≤ length rest → take size (drop 4 (rest ++ more)) ≡ take size (drop 4 rest)
same-held rest more size enough =
    ap (take size) (drop-append-le 4 rest more (omega arith)) ∙ take-append-le size (drop 4 rest) more (left rest enough)
  where
    left : (rest : List ℕ) → 4 + size ≤ length rest → size ≤ length (drop 4 rest)
    left rest enough = grind (arith, common_steps)

-- an entry that is there in full
after-more : (offset kind : ℕ) (rest more : List ℕ) (make : Option (List ℕ → Entry)) → is_final (entry_after_kind offset kind rest make) ≡ true
    → entry_after_kind offset kind (rest ++ more) make ≡ entry_after_kind offset kind rest make
after-more offset kind rest more None final = refl
after-more offset kind rest more (Some make) final =
    let size = number_of (take 4 rest) in
    let size' = number_of (take 4 (rest ++ more)) in
    let why = chosen-final (nat_lt (length rest) 4) (nat_lt most_octets (offset + 5 + size)) (nat_lt (length rest) (4 + size)) offset (make (take size (drop 4 rest))) final in
    let same : size' ≡ size = ap number_of (take-append-le 4 rest more (long-enough rest 4 why.0)) in
    by_length why.0 same why.1
  where
    by_length : nat_lt (length rest) 4 ≡ false → number_of (take 4 (rest ++ more)) ≡ number_of (take 4 rest)
        → (nat_lt most_octets (offset + 5 + number_of (take 4 rest)) ≡ true)
        ⊎ ((nat_lt most_octets (offset + 5 + number_of (take 4 rest)) ≡ false) × (nat_lt (length rest) (4 + number_of (take 4 rest)) ≡ false))
        → entry_after_kind offset kind (rest ++ more) (Some make) ≡ entry_after_kind offset kind rest (Some make)
    by_length long same (inl past) =
        chosen-long _ _ _ offset _ (not-shorter rest more 4 long) (ap (λ size. nat_lt most_octets (offset + 5 + size)) same ∙ past)
        ∙ sym (chosen-long _ _ _ offset _ long past)
    by_length long same (inr (within, whole)) =
        chosen-whole _ _ _ offset _ (not-shorter rest more 4 long) (ap (λ size. nat_lt most_octets (offset + 5 + size)) same ∙ within)
        (ap (λ size. nat_lt (length (rest ++ more)) (4 + size)) same ∙ not-shorter rest more (4 + number_of (take 4 rest)) whole)
        ∙ ap (λ held. Ok (Some (make held)))
        (ap (λ size. take size (drop 4 (rest ++ more))) same ∙ same-held rest more (number_of (take 4 rest)) (long-enough rest (4 + number_of (take 4 rest)) whole))
        ∙ sym (chosen-whole _ _ _ offset _ long within whole)

-- what comes next is there in full
pub next-more : (room offset : ℕ) (octets more : List ℕ) → is_final (next_entry room offset octets) ≡ true
    → next_entry room offset (octets ++ more) ≡ next_entry room offset octets
next-more zero offset [] more final = absurd (cc final)
next-more (suc room) offset [] more final = absurd (cc final)
next-more zero offset (kind ∷ rest) more final = refl
next-more (suc room) offset (kind ∷ rest) more final = after-more offset kind rest more (entry_of_kind kind) final

-- the entries begin with what comes next
pub first-entry : (room offset : ℕ) (octets : List ℕ) (e : Entry) → 0 < room → next_entry room offset octets ≡ Ok (Some e)
    → entries_from room offset octets ≡ entry_before offset e (entries_from (room - 1) (offset + entry_size e) (drop (entry_size e) octets))
first-entry zero offset octets e some next = absurd (omega arith)
first-entry (suc room) offset octets e some next =
    let left : room ≡ suc room - 1 = omega arith in
    ap (λ n. entries_by offset n (λ e. entries_from room (offset + entry_size e) (drop (entry_size e) octets))) next
    ∙ ap (λ n. entry_before offset e (entries_from n (offset + entry_size e) (drop (entry_size e) octets))) left

-- no entry is left
pub no-entry : (room offset : ℕ) (octets : List ℕ) → next_entry room offset octets ≡ Ok None → entries_from room offset octets ≡ no_entries None
no-entry zero offset octets next = ap (λ n. entries_by offset n (λ e. record { list = []; fault = None })) next
no-entry (suc room) offset octets next = ap (λ n. entries_by offset n (λ e. entries_from room (offset + entry_size e) (drop (entry_size e) octets))) next

-- a fault comes before the next entry
pub faulty-entry : (room offset : ℕ) (octets : List ℕ) (fault : RecordFault) → next_entry room offset octets ≡ Err fault
    → entries_from room offset octets ≡ no_entries (Some fault)
faulty-entry zero offset octets fault next = ap (λ n. entries_by offset n (λ e. record { list = []; fault = None })) next
faulty-entry (suc room) offset octets fault next = ap (λ n. entries_by offset n (λ e. entries_from room (offset + entry_size e) (drop (entry_size e) octets))) next
