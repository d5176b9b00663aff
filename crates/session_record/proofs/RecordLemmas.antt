-- A record is read back from its octets.
use Rattle.std.proofs.Common.{arith, ◌≡◌, refl, sym, ap, ◌∙◌, ℕ, zero, suc, ◌+◌, ◌≤◌, List, [], ◌∷◌, ◌++◌, length, length-append, Bool, true, false, Some, None, Ok}
use Rattle.std.specs.Prelude.{drop, nat_lt, flat_map}
use Rattle.std.proofs.Math.Seq.{drop-append_seam, take-append_seam}
use Rattle.std.proofs.Math.Nat.{mod-eq_of_lt}
use Rattle.std.proofs.lemmas.Bool.Decides.{nat_tests}
use Rattle.hk_base.specs.Fields.{octets_of, number_of}
use Rattle.hk_base.proofs.FieldLemmas.{number-digits}
use Rattle.session_record.specs.Records.{Header, most_entries, most_octets, header_of, header_octets, header_in, held_octets, kind_octet, entry_octets, entry_size, record_octets, entry_after_kind, next_entry, entries_from, after_header, read_record, located, FitIn}
use Rattle.session_record.specs.declared.entry.Entry.{Entry}
use Rattle.session_record.specs.declared.entry.Entry.TheVariants.{Sent, Got, Line}

-- what an entry holds, put under its kind again
held_again : (e : Entry) (rest : List ℕ) (offset : ℕ)
    → (make : List ℕ → Entry) → make (held_octets e) ≡ e
    → offset + entry_size e ≤ most_octets
    → entry_after_kind offset (kind_octet e) (octets_of 4 (length (held_octets e)) ++ held_octets e ++ rest) (Some make) ≡ Ok (Some e)
held_again e rest offset make same room =
    let held = held_octets e in
    let size : number_of (octets_of 4 (length held)) ≡ length held = number-digits 256 4 (length held) (omega arith) ∙ mod-eq_of_lt (omega arith) in
    let long_enough : nat_lt (length (octets_of 4 (length held) ++ held ++ rest)) 4 ≡ false = too_few held rest in
    let within : nat_lt most_octets (offset + 5 + length held) ≡ false = grind (arith, nat_tests) in
    let whole : nat_lt (length (octets_of 4 (length held) ++ held ++ rest)) (4 + length held) ≡ false = too_few_held held rest in
    rw (long_enough, size, within, whole, take-append_seam held rest, same) refl
  where
    too_few : (held rest : List ℕ) → nat_lt (length (octets_of 4 (length held) ++ held ++ rest)) 4 ≡ false
    too_few held rest = let sizes = length-append held rest in grind (arith, nat_tests)

    too_few_held : (held rest : List ℕ) → nat_lt (length (octets_of 4 (length held) ++ held ++ rest)) (4 + length held) ≡ false
    too_few_held held rest = let sizes = length-append held rest in grind (arith, nat_tests)

-- an entry stands at the front
pub next-entry : (e : Entry) (rest : List ℕ) (room offset : ℕ) → offset + entry_size e ≤ most_octets → next_entry (suc room) offset (entry_octets e ++ rest) ≡ Ok (Some e)
next-entry (Sent held) rest room offset fits = held_again (Sent held) rest offset Sent refl fits
next-entry (Got held) rest room offset fits = held_again (Got held) rest offset Got refl fits
next-entry (Line held) rest room offset fits = held_again (Line held) rest offset Line refl fits

length-entry : (e : Entry) → length (entry_octets e) ≡ entry_size e
length-entry e = let sizes = length-append (octets_of 4 (length (held_octets e))) (held_octets e) in omega arith

drop-entry : (e : Entry) (rest : List ℕ) → drop (entry_size e) (entry_octets e ++ rest) ≡ rest
drop-entry e rest = ap (λ n. drop n (entry_octets e ++ rest)) (sym (length-entry e)) ∙ drop-append_seam (entry_octets e) rest

-- entries are read back in order
pub entries-read : (entries : List Entry) (room offset : ℕ) → FitIn room offset entries
    → entries_from room offset (flat_map entry_octets entries) ≡ record { list = located offset entries; fault = None }
entries-read [] zero offset fits = refl
entries-read [] (suc room) offset fits = refl
entries-read (e ∷ es) (suc room) offset fits =
    rw (next-entry e (flat_map entry_octets es) room offset fits.0, drop-entry e (flat_map entry_octets es), entries-read es room (offset + entry_size e) fits.1) refl
entries-read (e ∷ es) zero offset fits = absurd fits

header-read : (h : Header) (rest : List ℕ) → header_in (header_octets h ++ rest) ≡ Some h
header-read h rest = go h.known h.long
  where
    go : (known long : Bool) → header_in (header_octets (header_of known long) ++ rest) ≡ Some (header_of known long)
    go true true = refl
    go true false = refl
    go false true = refl
    go false false = refl

after-header : (h : Header) (rest : List ℕ) → drop 8 (header_octets h ++ rest) ≡ rest
after-header h rest = go h.known h.long
  where
    go : (known long : Bool) → drop 8 (header_octets (header_of known long) ++ rest) ≡ rest
    go true true = refl
    go true false = refl
    go false true = refl
    go false false = refl

-- a record is read back from its octets
pub record-read : (h : Header) (entries : List Entry) → FitIn most_entries 8 entries
    → read_record (record_octets h entries) ≡ Ok (h, record { list = located 8 entries; fault = None })
record-read h entries fits =
    let rest = flat_map entry_octets entries in
    ap (after_header most_entries 8 (record_octets h entries)) (header-read h rest)
    ∙ ap (λ xs. Ok (h, entries_from most_entries 8 xs)) (after-header h rest)
    ∙ ap (λ read. Ok (h, read)) (entries-read entries most_entries 8 fits)
