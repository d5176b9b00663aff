-- What is trimmed of octets is a first part of them.
use Rattle.std.proofs.Common.{arith, ◌≡◌, ◌+◌, ◌-◌, ◌*◌, ◌/◌, ◌%◌, ◌^◌, ◌<◌, ◌≤◌, ℕ, zero, suc, List, [], ◌∷◌, ◌++◌, length, take, drop, Bool, true, false, Option, Some, None, Result, Ok, Err, refl, sym, ap, ap₂, ◌∙◌, append_assoc}
use Rattle.std.specs.Prelude.{map, nat_lt, ◌==◌, if◌then◌else◌}
use Rattle.std.specs.Str.{bytes_eq}
use Rattle.std.specs.List.{AllByRecursion}
use Rattle.std.specs.Int.Digits.{AllBelowBase}
use Rattle.std.proofs.lemmas.Int.Digits.{number_lt}
use Rattle.std.proofs.lemmas.Nat.{div-mul-add}
use Rattle.std.proofs.Math.Nat.{mod-eq_of_lt}
use Rattle.std.proofs.lemmas.List.{length-take-le, length-drop, take-append-drop, drop-drop}
use Rattle.std.proofs.lemmas.Slice.Eq.{bytes_eq-Decides}
use Rattle.std.proofs.lemmas.Bool.Decides.{nat_tests}
use Rattle.hk_base.specs.Fields.{digits, number, octets_of, number_of}
use Rattle.hk_base.proofs.Numbers.{number_is, digits_below}
use Rattle.session_record.specs.Records.{Header, Entries, most_entries, most_octets, header_of, header_octets, header_spelled, header_in, after_header, record_octets, whole_front, trimmed, entry_of_kind, entry_after_kind, entry_octets, entry_size, held_octets, kind_octet, next_entry, entry_before, entries_from}
use Rattle.session_record.specs.Reading.{no_entries}
use Rattle.session_record.specs.declared.entry.Entry.{Entry}
use Rattle.session_record.specs.declared.entry.Entry.TheVariants.{Sent, Got, Line}
use Rattle.session_record.specs.declared.entry.RecordFault.{RecordFault}
use Rattle.session_record.specs.declared.entry.RecordFault.TheVariants.{Cut, TooLong}
use Rattle.session_record.proofs.NextLemmas.{first-entry, no-entry, faulty-entry}
use Rattle.session_record.proofs.TrimLemmas.{whole_octets, none-beyond}

below-take : (n : ℕ) (octets : List ℕ) → AllBelowBase 256 octets → AllBelowBase 256 (take n octets)
below-take zero octets are = tt
below-take (suc n) [] are = tt
below-take (suc n) (x ∷ octets) are = (are.0, below-take n octets are.1)

below-drop : (n : ℕ) (octets : List ℕ) → AllBelowBase 256 octets → AllBelowBase 256 (drop n octets)
below-drop zero octets are = are
below-drop (suc n) [] are = tt
below-drop (suc n) (x ∷ octets) are = below-drop n octets are.1

below-all : (octets : List ℕ) → AllByRecursion (λ octet. octet < 256) octets → AllBelowBase 256 octets
below-all [] are = tt
below-all (x ∷ octets) are = (are.0, below-all octets are.1)

-- octets are those of their number
octets-again : (xs : List ℕ) → AllBelowBase 256 xs → octets_of (length xs) (number_of xs) ≡ xs
octets-again [] are = refl
octets-again (x ∷ xs) are =
    let bound : number 256 xs < 256 ^ length xs = rw (number_is 256 xs) (number_lt 256 xs are.1) in
    let head : (x * 256 ^ length xs + number 256 xs) / 256 ^ length xs % 256 ≡ x =
    ap (λ n. n % 256) (div-mul-add x (256 ^ length xs) (number 256 xs) bound) ∙ mod-eq_of_lt are.0 in
    let tail : digits 256 (length xs) (x * 256 ^ length xs + number 256 xs) ≡ xs = digits_below 256 (length xs) x (number 256 xs) (omega arith) ∙ octets-again xs are.1 in
    ap₂ (λ d ds. d ∷ ds) head tail

kind-of : (kind : ℕ) (make : List ℕ → Entry) → entry_of_kind kind ≡ Some make → (held : List ℕ) → (kind_octet (make held) ≡ kind) × (held_octets (make held) ≡ held)
kind-of kind make is held = by_sent (kind == 0x53) (kind == 0x47) (kind == 0x4a) refl refl refl is
  where
    by_sent : (a b c : Bool) → (kind == 0x53) ≡ a → (kind == 0x47) ≡ b → (kind == 0x4a) ≡ c
        → (if a then Some Sent else if b then Some Got else if c then Some Line else None) ≡ Some make → (kind_octet (make held) ≡ kind) × (held_octets (make held) ≡ held)
    by_sent true b c x y z is =
        let same : Sent ≡ make = cc in
        let number : 0x53 ≡ kind = grind (arith, nat_tests) in
        (ap (λ m. kind_octet (m held)) (sym same) ∙ number, ap (λ m. held_octets (m held)) (sym same))
    by_sent false true c x y z is =
        let same : Got ≡ make = cc in
        let number : 0x47 ≡ kind = grind (arith, nat_tests) in
        (ap (λ m. kind_octet (m held)) (sym same) ∙ number, ap (λ m. held_octets (m held)) (sym same))
    by_sent false false true x y z is =
        let same : Line ≡ make = cc in
        let number : 0x4a ≡ kind = grind (arith, nat_tests) in
        (ap (λ m. kind_octet (m held)) (sym same) ∙ number, ap (λ m. held_octets (m held)) (sym same))
    by_sent false false false x y z is = absurd (cc is)

-- the octets of a kind, a length and so many more, as an entry
pieces : (kind : ℕ) (rest : List ℕ) (size : ℕ) (e : Entry) → AllBelowBase 256 rest → size ≡ number_of (take 4 rest) → 4 + size ≤ length rest
    → kind_octet e ≡ kind → held_octets e ≡ take size (drop 4 rest) → kind ∷ rest ≡ entry_octets e ++ drop (entry_size e) (kind ∷ rest)
pieces kind rest size e are size_is whole kind_is held_is =
    let held = take size (drop 4 rest) in
    let left = length-drop 4 rest in
    let four : length (take 4 rest) ≡ 4 = length-take-le 4 rest (omega arith) in
    let many : length held ≡ size = length-take-le size (drop 4 rest) (omega arith) in
    let sizes : length (held_octets e) ≡ size = ap (λ (xs : List ℕ). length xs) held_is ∙ many in
    let front : octets_of 4 (length (held_octets e)) ≡ take 4 rest =
    ap (λ n. octets_of 4 n) (sizes ∙ size_is) ∙ (ap (λ n. octets_of n (number_of (take 4 rest))) (sym four) ∙ octets-again (take 4 rest) (below-take 4 rest are)) in
    let one_more : entry_size e ≡ suc (4 + size) = omega (arith, sizes) in
    let behind : drop (entry_size e) (kind ∷ rest) ≡ drop size (drop 4 rest) =
    ap (λ n. drop n (kind ∷ rest)) one_more ∙ sym (drop-drop size 4 rest) in
    let entry : entry_octets e ≡ kind ∷ (take 4 rest ++ held) = ap₂ (λ x xs. x ∷ xs) kind_is (ap₂ (λ xs ys. xs ++ ys) front held_is) in
    let split : (take 4 rest ++ held) ++ drop size (drop 4 rest) ≡ rest =
    append_assoc (take 4 rest) held (drop size (drop 4 rest)) ∙ (ap (λ xs. take 4 rest ++ xs) (take-append-drop size (drop 4 rest)) ∙ take-append-drop 4 rest) in
    sym (ap₂ (λ xs ys. xs ++ ys) entry behind ∙ ap (λ xs. kind ∷ xs) split)

entry-octets : (offset kind : ℕ) (rest : List ℕ) (make : Option (List ℕ → Entry)) (e : Entry) → AllBelowBase 256 rest → entry_of_kind kind ≡ make
    → entry_after_kind offset kind rest make ≡ Ok (Some e) → kind ∷ rest ≡ entry_octets e ++ drop (entry_size e) (kind ∷ rest)
entry-octets offset kind rest None e are is found = absurd (cc found)
entry-octets offset kind rest (Some make) e are is found =
    by_tests (nat_lt (length rest) 4) (nat_lt most_octets (offset + 5 + number_of (take 4 rest))) (nat_lt (length rest) (4 + number_of (take 4 rest))) refl found
  where
    by_tests : (short long cut : Bool) → nat_lt (length rest) (4 + number_of (take 4 rest)) ≡ cut
        → (if short then Err (Cut offset) else if long then Err (TooLong offset) else if cut then Err (Cut offset) else Ok (Some (make (take (number_of (take 4 rest)) (drop 4 rest))))) ≡ Ok (Some e)
        → kind ∷ rest ≡ entry_octets e ++ drop (entry_size e) (kind ∷ rest)
    by_tests true long cut enough found = absurd (cc found)
    by_tests false true cut enough found = absurd (cc found)
    by_tests false false true enough found = absurd (cc found)
    by_tests false false false enough found =
        let size = number_of (take 4 rest) in
        let same : make (take size (drop 4 rest)) ≡ e = cc in
        let whole : 4 + size ≤ length rest = grind (arith, nat_tests) in
        let k = kind-of kind make is (take size (drop 4 rest)) in
        pieces kind rest size e are refl whole (ap kind_octet (sym same) ∙ k.0) (ap held_octets (sym same) ∙ k.1)

-- octets begin with the entry that is found
pub found-octets : (room offset : ℕ) (octets : List ℕ) (e : Entry) → AllBelowBase 256 octets → next_entry (suc room) offset octets ≡ Ok (Some e)
    → octets ≡ entry_octets e ++ drop (entry_size e) octets
found-octets room offset [] e are found = absurd (cc found)
found-octets room offset (kind ∷ rest) e are found = entry-octets offset kind rest (entry_of_kind kind) e are.1 refl found

-- octets begin with others
abbrev pub BeginsWithOctets : List ℕ → List ℕ → Type 0
BeginsWithOctets octets front = (rest : List ℕ) × (octets ≡ front ++ rest)

begins-none : (octets : List ℕ) (x y : Entries) → x ≡ y → whole_octets y ≡ [] → BeginsWithOctets octets (whole_octets x)
begins-none octets x y same none = (octets, sym (ap (λ z. whole_octets z ++ octets) same ∙ ap (λ zs. zs ++ octets) none))

-- octets begin with those of the entries that were read
pub entries-octets : (room offset : ℕ) (octets : List ℕ) → AllBelowBase 256 octets → BeginsWithOctets octets (whole_octets (entries_from room offset octets))
entries-octets zero offset octets are = by_next (next_entry zero offset octets) refl
  where
    by_next : (n : Result (Option Entry) RecordFault) → next_entry zero offset octets ≡ n → BeginsWithOctets octets (whole_octets (entries_from zero offset octets))
    by_next (Ok None) is = begins-none octets (entries_from zero offset octets) (no_entries None) (no-entry zero offset octets is) refl
    by_next (Err fault) is = begins-none octets (entries_from zero offset octets) (no_entries (Some fault)) (faulty-entry zero offset octets fault is) refl
    by_next (Ok (Some e)) is = absurd (none-beyond offset octets e is)
entries-octets (suc room) offset octets are =
    by_next (next_entry (suc room) offset octets) refl (λ e. entries-octets room (offset + entry_size e) (drop (entry_size e) octets) (below-drop (entry_size e) octets are))
  where
    by_next : (n : Result (Option Entry) RecordFault) → next_entry (suc room) offset octets ≡ n
        → ((e : Entry) → BeginsWithOctets (drop (entry_size e) octets) (whole_octets (entries_from room (offset + entry_size e) (drop (entry_size e) octets))))
        → BeginsWithOctets octets (whole_octets (entries_from (suc room) offset octets))
    by_next (Ok None) is later = begins-none octets (entries_from (suc room) offset octets) (no_entries None) (no-entry (suc room) offset octets is) refl
    by_next (Err fault) is later = begins-none octets (entries_from (suc room) offset octets) (no_entries (Some fault)) (faulty-entry (suc room) offset octets fault is) refl
    by_next (Ok (Some e)) is later =
        let size = entry_size e in
        let left : suc room - 1 ≡ room = omega arith in
        let inner : entries_from (suc room) offset octets ≡ entry_before offset e (entries_from room (offset + size) (drop size octets)) =
        first-entry (suc room) offset octets e (omega arith) is ∙ ap (λ n. entry_before offset e (entries_from n (offset + size) (drop size octets))) left in
        let whole = whole_octets (entries_from room (offset + size) (drop size octets)) in
        let rest = later e in (
          rest.0,
          found-octets room offset octets e are is
              ∙ ap (λ xs. entry_octets e ++ xs) rest.1
              ∙ sym (append_assoc (entry_octets e) whole rest.0)
              ∙ sym (ap (λ x. whole_octets x ++ rest.0) inner),
        )

same-octets : (xs ys : List ℕ) → bytes_eq xs ys ≡ true → xs ≡ ys
same-octets xs ys is = grind (arith, nat_tests, bytes_eq-Decides xs ys)

-- the octets of a header are those that it is read from
header-octets : (first : List ℕ) (h : Header) → header_spelled first ≡ Some h → first ≡ header_octets h
header-octets first h is =
    by_tests (bytes_eq first (header_octets (header_of true false))) (bytes_eq first (header_octets (header_of false false)))
    (bytes_eq first (header_octets (header_of true true))) (bytes_eq first (header_octets (header_of false true))) refl refl refl refl is
  where
    spelled : (g : Header) → bytes_eq first (header_octets g) ≡ true → Some g ≡ Some h → first ≡ header_octets h
    spelled g e same = let both : g ≡ h = cc in same-octets first (header_octets g) e ∙ ap header_octets both

    by_tests : (a b c d : Bool) → bytes_eq first (header_octets (header_of true false)) ≡ a → bytes_eq first (header_octets (header_of false false)) ≡ b
        → bytes_eq first (header_octets (header_of true true)) ≡ c → bytes_eq first (header_octets (header_of false true)) ≡ d
        → (if a then Some (header_of true false) else if b then Some (header_of false false) else if c then Some (header_of true true) else if d then Some (header_of false true) else None) ≡ Some h
        → first ≡ header_octets h
    by_tests true b c d w x y z is = spelled (header_of true false) w is
    by_tests false true c d w x y z is = spelled (header_of false false) x is
    by_tests false false true d w x y z is = spelled (header_of true true) y is
    by_tests false false false true w x y z is = spelled (header_of false true) z is
    by_tests false false false false w x y z is = absurd (cc is)

-- what is trimmed of octets is a first part of them
pub trimmed-front : (octets front : List ℕ) → AllByRecursion (λ octet. octet < 256) octets → trimmed octets ≡ Some front → (rest : List ℕ) × (octets ≡ front ++ rest)
trimmed-front octets front are is = by_header (header_in octets) refl
  where
    by_header : (o : Option Header) → header_in octets ≡ o → (rest : List ℕ) × (octets ≡ front ++ rest)
    by_header None at = absurd (cc (sym (ap (λ o. whole_front (after_header most_entries 8 octets o)) at) ∙ is))
    by_header (Some h) at =
        let x : Entries = entries_from most_entries 8 (drop 8 octets) in
        let out : Some (record_octets h (map (λ e. e.1) x.list)) ≡ Some front = sym (ap (λ o. whole_front (after_header most_entries 8 octets o)) at) ∙ is in
        let same : record_octets h (map (λ e. e.1) x.list) ≡ front = cc in
        let behind = entries-octets most_entries 8 (drop 8 octets) (below-drop 8 octets (below-all octets are)) in (
          behind.0,
          sym (take-append-drop 8 octets)
              ∙ ap₂ (λ xs ys. xs ++ ys) (header-octets (take 8 octets) h at) behind.1
              ∙ sym (append_assoc (header_octets h) (whole_octets x) behind.0)
              ∙ ap (λ xs. xs ++ behind.0) same,
        )
