-- What is read stood at the front of the octets, in its one spelling.
use Rattle.std.proofs.Common.{arith, ◌≡◌, refl, sym, ap, subst, ◌∙◌, ℕ, zero, suc, ◌+◌, ◌-◌, ◌*◌, ◌/◌, ◌%◌, ◌^◌, ◌<◌, ◌≤◌, List, [], ◌∷◌, ◌++◌, length, take, drop, append-nil, append_assoc, take-append-drop, Bool, true, false, Option, Some, None, Result, Ok, Err}
use Rattle.std.specs.Prelude.{◌==◌, ⊤, nat_lt, flat_map, find, option_map, if◌then◌else◌}
use Rattle.std.specs.List.{AllByRecursion}
use Rattle.std.specs.Option.{option_or}
use Rattle.std.proofs.Math.Nat.{mod-eq_of_lt, pow-suc, pow-zero}
use Rattle.std.proofs.lemmas.Nat.{div-mul-add, mul-add-lt}
use Rattle.std.proofs.lemmas.List.{length-take-le}
use Rattle.std.proofs.lemmas.Bool.Decides.{nat_tests, Decides-eqb}
use Rattle.std.proofs.lemmas.Option.{none-some, same_Some}
use Rattle.hk_base.specs.TailoringParts.{TailoringParts}
use Rattle.hk_base.specs.Fields.{digits, octets_of, number_of, signed_of, signed_octets_of}
use Rattle.body_fields.specs.Reading.{Read, then_read, with_check, fault_if, whole_body, octets_field, uint, list_of, count_fault, count_field, counted_list, flag_field, form_number, body_of}
use Rattle.body_fields.specs.Spelling.{AreOctets, AllAmong, IsCount, IsInOctets, counted_octets, flag_octets}
use Rattle.body_fields.specs.declared.fault.BodyFault.{BodyFault}
use Rattle.body_fields.specs.declared.fault.BodyFault.TheVariants.{Short, Status, ZeroCount, TooMany}
use Rattle.hk_base.specs.declared.types.Form.{Form}
use Rattle.hk_base.specs.declared.types.Form.TheVariants.{Unsigned, Signed, Enumerated, Boolean}
use Rattle.hk_base.proofs.Numbers.{digits_below, pow_of_octets, signed_of-below, signed_of-above}

-- what was read, and the text in front that it stood in
abbrev pub Took : {A : Type 0} → (A → List ℕ → Type 0) → List ℕ → Read A → Type 0
Took P octets (Ok x) = (text : List ℕ) × (octets ≡ text ++ x.1) × P x.0 text
Took P octets (Err fault) = ⊤

pub AreOctets-after : (text rest : List ℕ) → AreOctets (text ++ rest) → AreOctets rest
AreOctets-after [] rest are = are
AreOctets-after (o ∷ text) rest are = AreOctets-after text rest are.1

pub AreOctets-before : (text rest : List ℕ) → AreOctets (text ++ rest) → AreOctets text
AreOctets-before [] rest are = tt
AreOctets-before (o ∷ text) rest are = (are.0, AreOctets-before text rest are.1)

-- one part after the other
pub took-then : {A B : Type 0} (P : A → List ℕ → Type 0) (Q : B → List ℕ → Type 0) (octets : List ℕ) (r : Read A) (next : A → List ℕ → Read B)
    → AreOctets octets
    → Took P octets r
    → ((x : A) (text rest : List ℕ) → P x text → AreOctets rest → Took (λ y more. Q y (text ++ more)) rest (next x rest))
    → Took Q octets (then_read r next)
took-then P Q octets (Err fault) next are h f = tt
took-then P Q octets (Ok x) next are h f =
    join (next x.0 x.1) (f x.0 h.0 x.1 h.2 (AreOctets-after h.0 x.1 (subst AreOctets h.1 are)))
  where
    join : (s : Read _) → Took (λ y more. Q y (h.0 ++ more)) x.1 s → Took Q octets s
    join (Err fault) g = tt
    join (Ok y) g = (h.0 ++ g.0, h.1 ∙ ap (λ rest. h.0 ++ rest) g.1 ∙ sym (append_assoc h.0 g.0 y.1), g.2)

-- a value that is made of the one that was read
pub took-map : {A B : Type 0} (P : A → List ℕ → Type 0) (Q : B → List ℕ → Type 0) (octets : List ℕ) (r : Read A) (f : A → B)
    → Took P octets r
    → ((x : A) (text : List ℕ) → P x text → Q (f x) text)
    → Took Q octets (then_read r (λ x rest. Ok (f x, rest)))
took-map P Q octets (Err fault) f h g = tt
took-map P Q octets (Ok x) f h g = (h.0, h.1, g x.0 h.0 h.2)

-- what was read is so as well
pub took-weaken : {A : Type 0} (P Q : A → List ℕ → Type 0) (octets : List ℕ) (r : Read A) → Took P octets r → ((x : A) (text : List ℕ) → P x text → Q x text) → Took Q octets r
took-weaken P Q octets (Err fault) h g = tt
took-weaken P Q octets (Ok x) h g = (h.0, h.1, g x.0 h.0 h.2)

-- a value of which a check finds no fault
pub took-check : {A : Type 0} (P : A → List ℕ → Type 0) (fault : A → Option BodyFault) (octets : List ℕ) (r : Read A)
    → Took P octets r
    → Took (λ x text. P x text × (fault x ≡ None)) octets (with_check fault r)
took-check P fault octets (Err f) h = tt
took-check {A} P fault octets (Ok x) h = go (fault x.0) refl
  where
    go : (o : Option BodyFault) → fault x.0 ≡ o → Took (λ y text. P y text × (fault y ≡ None)) octets (with_check (λ y. o) (Ok x))
    go None e = (h.0, h.1, (h.2, e))
    go (Some f) e = tt

-- so many octets
pub took-octets : (count : ℕ) (octets : List ℕ) → AreOctets octets → Took (λ field text. (text ≡ field) × (length field ≡ count) × AreOctets field) octets (octets_field count octets)
took-octets count octets are = go (nat_lt (length octets) count) refl
  where
    go : (b : Bool) → nat_lt (length octets) count ≡ b
        → Took (λ field text. (text ≡ field) × (length field ≡ count) × AreOctets field) octets (if b then Err Short else Ok (take count octets, drop count octets))
    go true e = tt
    go false e =
        let enough : count ≤ length octets = grind (arith, nat_tests) in (
          take count octets,
          sym (take-append-drop count octets),
          (
            refl,
            length-take-le count octets enough,
            AreOctets-before (take count octets) (drop count octets) (subst AreOctets (sym (take-append-drop count octets)) are),
          ),
        )

-- octets make a number that they have room for
pub number-below : (octets : List ℕ) → AreOctets octets → number_of octets < 256 ^ length octets
number-below [] are = rw (pow-zero 256) (omega arith)
number-below (o ∷ octets) are =
    let rest = number-below octets are.1 in
    rw (pow-suc 256 (length octets)) (mul-add-lt o (256 ^ length octets) (number_of octets) 256 are.0 rest)

-- and it has these octets
pub octets-number : (octets : List ℕ) → AreOctets octets → octets_of (length octets) (number_of octets) ≡ octets
octets-number [] are = refl
octets-number (o ∷ octets) are =
    let p = 256 ^ length octets in
    let n = number_of octets in
    let head : (o * p + n) / p % 256 ≡ o = ap (λ k. k % 256) (div-mul-add o p n (number-below octets are.1)) ∙ mod-eq_of_lt are.0 in
    ap (λ d. d ∷ digits 256 (length octets) (o * p + n)) head
    ∙ ap (λ ds. o ∷ ds) (digits_below 256 (length octets) o n (omega arith) ∙ octets-number octets are.1)

pub octets-number-in : (count : ℕ) (octets : List ℕ) → length octets ≡ count → AreOctets octets → octets_of count (number_of octets) ≡ octets
octets-number-in count octets size are = ap (λ k. octets_of k (number_of octets)) (sym size) ∙ octets-number octets are

pub number-below-in : (count : ℕ) (octets : List ℕ) → length octets ≡ count → AreOctets octets → number_of octets < 256 ^ count
number-below-in count octets size are = subst (λ k. number_of octets < 256 ^ k) size (number-below octets are)

-- a number in its octets
abbrev pub IsSpelled : ℕ → ℕ → List ℕ → Type 0
IsSpelled places n text = (text ≡ octets_of places n) × (n < 256 ^ places)

pub took-uint : (places : ℕ) (octets : List ℕ) → AreOctets octets → Took (IsSpelled places) octets (uint places octets)
took-uint places octets are =
    took-map (λ field text. (text ≡ field) × (length field ≡ places) × AreOctets field) (IsSpelled places) octets (octets_field places octets) number_of
    (took-octets places octets are)
    (λ field text h. (h.0 ∙ sym (octets-number-in places field h.1 h.2), number-below-in places field h.1 h.2))

-- a flag
pub no_fault : (b : Bool) (fault : BodyFault) → fault_if b fault ≡ None → b ≡ false
no_fault false fault e = refl
no_fault true fault e = absurd (none-some fault (sym e))

bit_of : (b : ℕ) → nat_lt 1 b ≡ false → octets_of 1 b ≡ flag_octets (b == 1)
bit_of zero e = refl
bit_of (suc zero) e = refl
bit_of (suc (suc b)) e = let few : suc (suc b) ≤ 1 = grind (arith, nat_tests) in absurd (omega arith)

pub took-flag : (octets : List ℕ) → AreOctets octets → Took (λ b text. text ≡ flag_octets b) octets (flag_field octets)
took-flag octets are =
    took-map (λ b text. IsSpelled 1 b text × (fault_if (nat_lt 1 b) (Status b) ≡ None)) (λ b text. text ≡ flag_octets b) octets
    (with_check (λ b. fault_if (nat_lt 1 b) (Status b)) (uint 1 octets)) (λ b. b == 1)
    (took-check (IsSpelled 1) (λ b. fault_if (nat_lt 1 b) (Status b)) octets (uint 1 octets) (took-uint 1 octets are))
    (λ b text h. h.0.0 ∙ bit_of b (no_fault (nat_lt 1 b) (Status b) h.1))

-- a value is spelled in the octets that it was read from
pub value-spelled : (form : Form) (count : ℕ) (field : List ℕ) → length field ≡ count → AreOctets field
    → (signed_octets_of count (form_number form field) ≡ field) × IsInOctets form count (form_number form field)
value-spelled Unsigned count field size are = (octets-number-in count field size are, number-below-in count field size are)
value-spelled Boolean count field size are = (octets-number-in count field size are, number-below-in count field size are)
value-spelled (Enumerated values) count field size are = (octets-number-in count field size are, number-below-in count field size are)
value-spelled Signed count field size are =
    rw (size) (go (nat_lt (2 * number_of field) (2 ^ (8 * count))) refl)
  where
    go : (b : Bool) → nat_lt (2 * number_of field) (2 ^ (8 * count)) ≡ b
        → (signed_octets_of count (signed_of (8 * count) (number_of field)) ≡ field) × IsInOctets Signed count (signed_of (8 * count) (number_of field))
    go true e =
        let n = number_of field in
        let low : 2 * n < 2 ^ (8 * count) = grind (arith, nat_tests) in
        rw (signed_of-below (8 * count) n low) (octets-number-in count field size are, low)
    go false e =
        let n = number_of field in
        let high : 2 ^ (8 * count) ≤ 2 * n = grind (arith, nat_tests) in
        let room : n < 2 ^ (8 * count) = omega (arith, number-below-in count field size are, pow_of_octets count) in
        let back : 2 ^ (8 * count) - suc (2 ^ (8 * count) - suc n) ≡ n = omega arith in
        let within : 2 * suc (2 ^ (8 * count) - suc n) ≤ 2 ^ (8 * count) = omega arith in
        rw (signed_of-above (8 * count) n high) (ap (λ k. octets_of count k) back ∙ octets-number-in count field size are, within)

-- the members of a list
pub took-list : {A : Type 0} (member : List A → List ℕ → Read A) (spell : A → List ℕ) (Stands : List A → A → Type 0)
    → ((earlier : List A) (octets : List ℕ) → AreOctets octets → Took (λ x text. (text ≡ spell x) × Stands earlier x) octets (member earlier octets))
    → (n : ℕ) (earlier : List A) (octets : List ℕ) → AreOctets octets
    → Took (λ xs text. (text ≡ flat_map spell xs) × (length xs ≡ n) × AllAmong Stands earlier xs) octets (list_of member n earlier octets)
took-list member spell Stands each zero earlier octets are = ([], refl, (refl, refl, tt))
took-list {A} member spell Stands each (suc n) earlier octets are =
    took-then (λ x text. (text ≡ spell x) × Stands earlier x) (λ xs text. (text ≡ flat_map spell xs) × (length xs ≡ suc n) × AllAmong Stands earlier xs) octets
    (member earlier octets) (λ x rest. then_read (list_of member n (x ∷ earlier) rest) (λ xs end. Ok (x ∷ xs, end)))
    are (each earlier octets are)
    (λ x text rest h are_rest.
    took-map (λ xs more. (more ≡ flat_map spell xs) × (length xs ≡ n) × AllAmong Stands (x ∷ earlier) xs)
    (λ xs more. (text ++ more ≡ flat_map spell xs) × (length xs ≡ suc n) × AllAmong Stands earlier xs) rest
    (list_of member n (x ∷ earlier) rest) (λ xs. x ∷ xs)
    (took-list member spell Stands each n (x ∷ earlier) rest are_rest)
    (λ xs more g. (ap (λ a. a ++ more) h.0 ∙ ap (λ b. spell x ++ b) g.0, ap suc g.1, (h.1, g.2))))

-- a count that stands is one that a list can have
pub count_stands : (t : TailoringParts) (least n : ℕ) → n < 256 ^ t.widths.count_octets → count_fault least n ≡ None → IsCount t least n
count_stands t least n room e = go (nat_lt n least) refl (nat_lt 255 n) refl e
  where
    go : (a : Bool) → nat_lt n least ≡ a → (b : Bool) → nat_lt 255 n ≡ b
        → option_or (if a then Some ZeroCount else None) (if b then Some (TooMany n) else None) ≡ None → IsCount t least n
    go true few b many h = absurd (none-some ZeroCount (sym h))
    go false few true many h = absurd (none-some (TooMany n) (sym h))
    go false few false many h = (grind (arith, nat_tests), grind (arith, nat_tests), room)

-- a count, and then the members
pub took-counted : {A : Type 0} (t : TailoringParts) (least : ℕ) (member : List A → List ℕ → Read A) (spell : A → List ℕ) (Stands : List A → A → Type 0)
    → ((earlier : List A) (octets : List ℕ) → AreOctets octets → Took (λ x text. (text ≡ spell x) × Stands earlier x) octets (member earlier octets))
    → (octets : List ℕ) → AreOctets octets
    → Took (λ xs text. (text ≡ counted_octets t spell xs) × IsCount t least (length xs) × AllAmong Stands [] xs) octets (counted_list t least member octets)
took-counted t least member spell Stands each octets are =
    took-then (λ n text. IsSpelled t.widths.count_octets n text × (count_fault least n ≡ None))
    (λ xs text. (text ≡ counted_octets t spell xs) × IsCount t least (length xs) × AllAmong Stands [] xs) octets
    (count_field t least octets) (λ n rest. list_of member n [] rest)
    are (took-check (IsSpelled t.widths.count_octets) (count_fault least) octets (uint t.widths.count_octets octets) (took-uint t.widths.count_octets octets are))
    (λ n text rest h are_rest.
    took-weaken (λ xs more. (more ≡ flat_map spell xs) × (length xs ≡ n) × AllAmong Stands [] xs)
    (λ xs more. (text ++ more ≡ counted_octets t spell xs) × IsCount t least (length xs) × AllAmong Stands [] xs) rest
    (list_of member n [] rest)
    (took-list member spell Stands each n [] rest are_rest)
    (λ xs more g. (
      ap (λ a. a ++ more) h.0.0 ∙ ap (λ k. octets_of t.widths.count_octets k ++ more) (sym g.1) ∙ ap (λ b. octets_of t.widths.count_octets (length xs) ++ b) g.0,
      subst (IsCount t least) (sym g.1) (count_stands t least n h.0.1 h.1),
      g.2,
    )))

abbrev done : {A : Type 0} → A → Result A BodyFault
done x = Ok x

ok_is : {A : Type 0} (x y : A) → done x ≡ done y → x ≡ y
ok_is x y e = cc

-- a whole body is what was read, and all of its octets
pub whole-took : {A : Type 0} (P : A → List ℕ → Type 0) (octets : List ℕ) (r : Read A) (x : A) → Took P octets r → whole_body r ≡ Ok x → P x octets
whole-took P octets (Err fault) x h e = absurd cc
whole-took {A} P octets (Ok y) x h e = go y.1 h.1 e
  where
    go : (rest : List ℕ) → octets ≡ h.0 ++ rest → whole_body (Ok (y.0, rest)) ≡ Ok x → P x octets
    go [] parts same = subst (λ z. P z octets) (ok_is y.0 x same) (subst (P y.0) (sym (parts ∙ append-nil h.0)) h.2)
    go (o ∷ rest) parts same = absurd cc

-- what holds of each reader of a table, by its subtype, holds of what a body is read as
pub body-took : {A : Type 0} (P : ℕ → A → List ℕ → Type 0) (table : List (ℕ × (List ℕ → Read A))) (subtype : ℕ) (octets : List ℕ) (x : A)
    → AreOctets octets
    → AllByRecursion (λ row. (os : List ℕ) → AreOctets os → Took (P row.0) os (row.1 os)) table
    → body_of table subtype octets ≡ Some (Ok x)
    → P subtype x octets
body-took P [] subtype octets x are all e = absurd (none-some (Ok x) e)
body-took {A} P (row ∷ table) subtype octets x are all e = go (row.0 == subtype) refl (λ later. body-took P table subtype octets x are all.1 later) e
  where
    go : (b : Bool) → row.0 == subtype ≡ b
        → (body_of table subtype octets ≡ Some (Ok x) → P subtype x octets)
        → option_map (λ read. whole_body (read octets)) (option_map (λ (r : ℕ × (List ℕ → Read A)). r.1) (if b then Some row else find (λ r. r.0 == subtype) table)) ≡ Some (Ok x)
        → P subtype x octets
    go true same later h =
        subst (λ s. P s x octets) ((Decides-eqb row.0 subtype).0 same)
        (whole-took (P row.0) octets (row.1 octets) x (all.0 octets are) (same_Some (whole_body (row.1 octets)) (Ok x) h))
    go false same later h = later h
