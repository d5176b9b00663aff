-- Readers read back what was spelled.
use Rattle.std.proofs.Common.{arith, ◌≡◌, refl, sym, ap, ◌∙◌, ℕ, ◌+◌, ◌^◌, ◌<◌, ◌≤◌, List, [], ◌∷◌, ◌++◌, length, length-append, append-nil, append_assoc, Bool, true, false, Option, None, Ok}
use Rattle.std.specs.Prelude.{◌==◌, nat_lt, flat_map}
use Rattle.std.proofs.Math.Seq.{drop-append_seam, take-append_seam}
use Rattle.std.proofs.Math.Nat.{mod-eq_of_lt}
use Rattle.std.proofs.lemmas.Bool.Decides.{nat_tests}
use Rattle.hk_base.specs.TailoringParts.{TailoringParts}
use Rattle.hk_base.specs.Fields.{octets_of, number_of}
use Rattle.body_fields.specs.Reading.{Read, then_read, with_check, fault_if, whole_body, octets_field, uint, list_of, count_fault, count_field, counted_list, flag_field}
use Rattle.body_fields.specs.Spelling.{Reads, AllRead, counted_octets, flag_octets}
use Rattle.body_fields.specs.declared.fault.BodyFault.{BodyFault}
use Rattle.body_fields.specs.declared.fault.BodyFault.TheVariants.{Status}
use Rattle.hk_base.proofs.FieldLemmas.{length-digits, number-digits}

-- nothing, and then the value
pub reads-end : {A : Type 0} (x : A) → Reads (λ octets. Ok (x, octets)) [] x
reads-end x rest = refl

-- one part after the other
pub reads-then : {A B : Type 0} (read : List ℕ → Read A) (next : A → List ℕ → Read B) (first second : List ℕ) (x : A) (y : B)
    → Reads read first x
    → Reads (next x) second y
    → Reads (λ octets. then_read (read octets) next) (first ++ second) y
reads-then read next first second x y reads_first reads_second rest =
    rw (append_assoc first second rest, reads_first (second ++ rest)) (reads_second rest)

-- a value that is made of the one that was read
pub reads-map : {A B : Type 0} (read : List ℕ → Read A) (f : A → B) (octets : List ℕ) (x : A)
    → Reads read octets x
    → Reads (λ o. then_read (read o) (λ a rest. Ok (f a, rest))) octets (f x)
reads-map read f octets x reads rest = rw (reads rest) refl

-- a value of which a check finds no fault
pub reads-check : {A : Type 0} (fault : A → Option BodyFault) (read : List ℕ → Read A) (octets : List ℕ) (x : A)
    → Reads read octets x
    → fault x ≡ None
    → Reads (λ o. with_check fault (read o)) octets x
reads-check fault read octets x reads fine rest = rw (reads rest, fine) refl

enough : (n m : ℕ) → nat_lt (n + m) n ≡ false
enough n m = grind (arith, nat_tests)

-- so many octets
pub reads-octets : (field : List ℕ) → Reads (octets_field (length field)) field field
reads-octets field rest = rw (length-append field rest, enough (length field) (length rest), take-append_seam field rest, drop-append_seam field rest) refl

-- a number in its octets
pub reads-uint : (places n : ℕ) → n < 256 ^ places → Reads (uint places) (octets_of places n) n
reads-uint places n fits rest =
    let size = length-digits 256 places n in
    let field : octets_field places (octets_of places n ++ rest) ≡ Ok (octets_of places n, rest) =
    ap (λ k. octets_field k (octets_of places n ++ rest)) (sym size) ∙ reads-octets (octets_of places n) rest in
    let value : number_of (octets_of places n) ≡ n = number-digits 256 places n (omega arith) ∙ mod-eq_of_lt fits in
    rw (field, value) refl

-- a flag
status_fault : ℕ → Option BodyFault
status_fault b = fault_if (nat_lt 1 b) (Status b)

reads-bit : (b : ℕ) → b < 256 ^ 1 → status_fault b ≡ None → Reads flag_field (octets_of 1 b) (b == 1)
unfolding status_fault
reads-bit b fits fine =
    reads-map (λ o. with_check status_fault (uint 1 o)) (λ n. n == 1) (octets_of 1 b) b
    (reads-check status_fault (uint 1) (octets_of 1 b) b (reads-uint 1 b fits) fine)

pub reads-flag : (b : Bool) → Reads flag_field (flag_octets b) b
unfolding status_fault
reads-flag true = reads-bit 1 (omega arith) refl
reads-flag false = reads-bit 0 (omega arith) refl

-- the members of a list
pub reads-list : {A : Type 0} (member : List A → List ℕ → Read A) (spell : A → List ℕ) (earlier xs : List A)
    → AllRead member spell earlier xs
    → Reads (list_of member (length xs) earlier) (flat_map spell xs) xs
reads-list member spell earlier [] all rest = refl
reads-list member spell earlier (x ∷ xs) all rest =
    rw (append_assoc (spell x) (flat_map spell xs) rest, all.0 (flat_map spell xs ++ rest), reads-list member spell (x ∷ earlier) xs all.1 rest) refl

-- a count of members that is allowed
pub count_is_fine : (least n : ℕ) → least ≤ n → n ≤ 255 → count_fault least n ≡ None
count_is_fine least n low high =
    let few : nat_lt n least ≡ false = grind (arith, nat_tests) in
    let many : nat_lt 255 n ≡ false = grind (arith, nat_tests) in
    rw (few, many) refl

-- a count, and then the members
pub reads-counted : {A : Type 0} (t : TailoringParts) (least : ℕ) (member : List A → List ℕ → Read A) (spell : A → List ℕ) (xs : List A)
    → least ≤ length xs
    → length xs ≤ 255
    → length xs < 256 ^ t.widths.count_octets
    → AllRead member spell [] xs
    → Reads (counted_list t least member) (counted_octets t spell xs) xs
reads-counted t least member spell xs low high fits all =
    reads-then (count_field t least) (λ n rest. list_of member n [] rest) (octets_of t.widths.count_octets (length xs)) (flat_map spell xs) (length xs) xs
    (reads-check (count_fault least) (uint t.widths.count_octets) (octets_of t.widths.count_octets (length xs)) (length xs)
    (reads-uint t.widths.count_octets (length xs) fits) (count_is_fine least (length xs) low high))
    (reads-list member spell [] xs all)

-- a whole body
pub whole-reads : {A : Type 0} (read : List ℕ → Read A) (octets : List ℕ) (x : A) → Reads read octets x → whole_body (read octets) ≡ Ok x
whole-reads read octets x reads = ap (λ o. whole_body (read o)) (sym (append-nil octets)) ∙ ap whole_body (reads [])
