-- Octets that are read as values are the payload of these values.
use Rattle.std.proofs.Common.{arith, ◌≡◌, ℕ, zero, suc, ◌+◌, ◌-◌, ◌*◌, ◌/◌, ◌%◌, ◌^◌, ◌<◌, ◌≤◌, refl, sym, ◌∙◌, ap, subst, List, [], ◌∷◌, ◌++◌, length, take, drop, Bool, true, false, cond, Option, Some, None, Ok, Err}
use Rattle.std.proofs.Math.Nat.{mod-eq_of_lt}
use Rattle.std.proofs.Math.Seq.{take-add}
use Rattle.std.proofs.lemmas.Nat.{div-mul-add}
use Rattle.std.proofs.lemmas.List.{length-take-le, length-drop, take-append-drop}
use Rattle.std.proofs.lemmas.List.Sums.{sum_by-cons}
use Rattle.std.proofs.lemmas.Bool.{both_ways}
use Rattle.std.proofs.lemmas.Bool.Decides.{nat_tests}
use Rattle.std.specs.Prelude.{not, zip, replicate, filter_map, flat_map, sum_by, option_map, is_some, IsTrue, ℤ, pos, negsuc, ◌==◌, nat_lt, if◌then◌else◌}
use Rattle.std.specs.Option.{option_or, option_map_or}
use Rattle.std.specs.List.{cons_option}
use Rattle.std.specs.Int.Digits.{AllBelowBase}
use Rattle.hk_base.specs.TailoringParts.{TailoringParts}
use Rattle.hk_base.specs.Definitions.{IsWellFormed}
use Rattle.hk_base.specs.Fields.{digits, number, twos_complement}
use Rattle.hk_base.specs.Parameters.{parameter, fits, value_of, value_bits, bits_value}
use Rattle.hk_base.specs.Payload.{Group, groups, places, group_params, group_octets, payload_size, payload_bits, values_bits, bits_values, bits_of, misfit, padded_bits, group_fault, groups_fault, payload_values, unless_fault, payload_fault, payload_read, AllFit, IsPayload}
use Rattle.hk_base.specs.declared.types.Form.{Form}
use Rattle.hk_base.specs.declared.types.Form.TheVariants.{Unsigned, Signed, Enumerated, Boolean}
use Rattle.hk_base.specs.declared.types.Param.{Param}
use Rattle.hk_base.specs.declared.types.Place.{Place}
use Rattle.hk_base.specs.declared.types.Definition.{Definition}
use Rattle.hk_base.specs.declared.types.PayloadFault.{PayloadFault}
use Rattle.hk_base.specs.declared.types.PayloadFault.TheVariants.{WrongSize, WrongValue, Padding}
use Rattle.hk_base.proofs.Numbers.{digits_below}
use Rattle.sample_slots.specs.Reading.{is_set}
use Rattle.sample_slots.proofs.BitsLemmas.{number-below, bits-below, parts-below, length-bits_of, take-take}
use Rattle.sample_slots.proofs.ReadingLemmas.{position-cons, length-bits_values, length-known}
use Rattle.sample_slots.proofs.Sampled.{HasAll}
use Rattle.sample_slots.proofs.CountLemmas.{AreKnownGroups, known-groups}
use Rattle.sample_slots.proofs.PayloadLaws.{placed, take-front, drop-front}

-- bits are those of the number that they make
digits-again : (bits : List ℕ) → AllBelowBase 2 bits → digits 2 (length bits) (number 2 bits) ≡ bits
digits-again [] are = refl
digits-again (b ∷ bits) are =
    let n = length bits in
    let low = number 2 bits in
    let head : (b * 2 ^ n + low) / 2 ^ n % 2 ≡ b = ap (λ x. x % 2) (div-mul-add b (2 ^ n) low (number-below bits are.1)) ∙ mod-eq_of_lt are.0 in
    let tail : digits 2 n (b * 2 ^ n + low) ≡ bits = digits_below 2 n b low (omega arith) ∙ digits-again bits are.1 in
    ap (λ d. d ∷ digits 2 n (b * 2 ^ n + low)) head ∙ ap (λ ds. b ∷ ds) tail

-- what a number stands for has it in two's complement
twos-again : (form : Form) (bits n : ℕ) → n < 2 ^ bits → twos_complement bits (value_of form bits n) ≡ n
twos-again Unsigned bits n small = refl
twos-again Signed bits n small = go (nat_lt (2 * n) (2 ^ bits))
  where
    go : (b : Bool) → twos_complement bits (if b then pos n else negsuc (2 ^ bits - suc n)) ≡ n
    go true = refl
    go false = omega (arith, small)
twos-again (Enumerated values) bits n small = refl
twos-again Boolean bits n small = refl

value-spelled : (p : Param) (bits : List ℕ) → AllBelowBase 2 bits → length bits ≡ p.bits → value_bits p (bits_value p bits) ≡ bits
value-spelled p bits are size =
    ap (λ n. digits 2 p.bits n) (twos-again p.form p.bits (number 2 bits) (omega (arith, number-below bits are, ap (λ k. 2 ^ k) size)))
    ∙ (ap (λ k. digits 2 k (number 2 bits)) (sym size) ∙ digits-again bits are)

values-spelled : (ps : List Param) (bits : List ℕ) → AllBelowBase 2 bits → sum_by (λ p. p.bits) ps ≤ length bits → values_bits ps (bits_values ps bits) ≡ take (sum_by (λ p. p.bits) ps) bits
values-spelled [] bits are enough = refl
values-spelled (p ∷ ps) bits are enough =
    let sum = sum_by-cons (λ (q : Param). q.bits) p ps in
    let parts = parts-below p.bits bits are in
    let size = length-take-le p.bits bits (omega (arith, sum, enough)) in
    ap (λ xs. xs ++ values_bits ps (bits_values ps (drop p.bits bits))) (value-spelled p (take p.bits bits) parts.0 size)
    ∙ (ap (λ xs. take p.bits bits ++ xs) (values-spelled ps (drop p.bits bits) parts.1 (omega (arith, sum, enough, length-drop p.bits bits)))
    ∙ (sym (take-add p.bits (sum_by (λ (q : Param). q.bits) ps) bits) ∙ ap (λ n. take n bits) (sym sum)))

-- no misfit, the first value apart
none-cons : (b : Bool) (m : Option ℕ) → cond (not b) (Some 0) (option_map suc m) ≡ None → (b ≡ true) × (m ≡ None)
none-cons true None e = (refl, refl)
none-cons true (Some i) e = absurd (let no : Some (suc i) ≡ None → ⊥ = λ e. cc in no e)
none-cons false m e = absurd (let no : Some 0 ≡ None → ⊥ = λ e. cc in no e)

-- values without a misfit fit at their places
all-fit : (t : TailoringParts) (slot : ℕ) (ids : List ℕ) (bits : List ℕ) (rest : List Place) (more : List ℤ) → HasAll t ids
    → misfit (filter_map (parameter t) ids) (bits_values (filter_map (parameter t) ids) bits) ≡ None → AllFit t rest more
    → AllFit t (placed slot ids ++ rest) (bits_values (filter_map (parameter t) ids) bits ++ more)
all-fit t slot [] bits rest more known none h = h
all-fit t slot (id ∷ ids) bits rest more known none h = go (parameter t id) refl known.0 none (λ later f. all-fit t slot ids later rest more known.1 f h)
  where
    go : (o : Option Param) → parameter t id ≡ o → IsTrue (is_some o)
        → misfit (cons_option o (filter_map (parameter t) ids)) (bits_values (cons_option o (filter_map (parameter t) ids)) bits) ≡ None
        → ((later : List ℕ) → misfit (filter_map (parameter t) ids) (bits_values (filter_map (parameter t) ids) later) ≡ None → AllFit t (placed slot ids ++ rest) (bits_values (filter_map (parameter t) ids) later ++ more))
        → AllFit t (placed slot (id ∷ ids) ++ rest) (bits_values (cons_option o (filter_map (parameter t) ids)) bits ++ more)
    go None e some fine ih = absurd (both_ways false refl some)
    go (Some p) e some fine ih =
        let ps = filter_map (parameter t) ids in
        let v = bits_value p (take p.bits bits) in
        let vs = bits_values ps (drop p.bits bits) in
        let parts = none-cons (fits p v) (misfit ps vs) (sym (position-cons (λ (q, w). not (fits q w)) (p, v) (zip ps vs)) ∙ fine) in
        (ap (λ o. option_map_or (λ q. fits q v) o false) e ∙ parts.0, ih (drop p.bits bits) parts.1)

-- bits of which none is 1
zeros : (bits : List ℕ) → AllBelowBase 2 bits → is_set bits ≡ false → bits ≡ replicate (length bits) 0
zeros [] are clean = refl
zeros (zero ∷ bits) are clean = ap (λ xs. 0 ∷ xs) (zeros bits are.1 clean)
zeros (suc zero ∷ bits) are clean = absurd (both_ways true clean refl)
zeros (suc (suc x) ∷ bits) are clean = absurd (omega (arith, are.0))

whole_octets : (s : ℕ) → s ≤ 8 * ((s + 7) / 8)
whole_octets s = omega arith

group-spelled : (t : TailoringParts) (g : Group) (bits : List ℕ) → AllBelowBase 2 bits → 8 * group_octets t g ≤ length bits
    → is_set (drop (sum_by (λ p. p.bits) (group_params t g)) (take (8 * group_octets t g) bits)) ≡ false
    → padded_bits (group_octets t g) (values_bits (group_params t g) (bits_values (group_params t g) bits)) ≡ take (8 * group_octets t g) bits
group-spelled t g bits are enough clean =
    ap (λ xs. xs ++ replicate (8 * group_octets t g - length xs) 0) (values-spelled (group_params t g) bits are (omega (arith, fill, enough)))
    ∙ (ap (λ n. take s bits ++ replicate n 0) size
    ∙ (ap (λ xs. take s bits ++ xs) (sym (zeros (drop s (take (8 * group_octets t g) bits)) (parts-below s (take (8 * group_octets t g) bits) (parts-below (8 * group_octets t g) bits are).0).1 clean))
    ∙ (ap (λ xs. xs ++ drop s (take (8 * group_octets t g) bits)) (sym (take-take s (8 * group_octets t g) bits fill))
    ∙ take-append-drop s (take (8 * group_octets t g) bits))))
  where
    s : ℕ
    s = sum_by (λ p. p.bits) (group_params t g)

    fill : sum_by (λ p. p.bits) (group_params t g) ≤ 8 * group_octets t g
    fill = whole_octets (sum_by (λ p. p.bits) (group_params t g))

    size : 8 * group_octets t g - length (take (sum_by (λ p. p.bits) (group_params t g)) bits) ≡ length (drop (sum_by (λ p. p.bits) (group_params t g)) (take (8 * group_octets t g) bits))
    size =
        omega
        (arith, fill, enough, length-take-le (sum_by (λ p. p.bits) (group_params t g)) bits (omega (arith, fill, enough)), length-drop (sum_by (λ p. p.bits) (group_params t g)) (take (8 * group_octets t g) bits), length-take-le (8 * group_octets t g) bits enough)

-- neither of two faults
neither : (a b : Option PayloadFault) → option_or a b ≡ None → (a ≡ None) × (b ≡ None)
neither None b e = (refl, e)
neither (Some f) b e = absurd (let no : Some f ≡ None → ⊥ = λ e. cc in no e)

no-fault : (f : ℕ → PayloadFault) (m : Option ℕ) → option_map f m ≡ None → m ≡ None
no-fault f None e = refl
no-fault f (Some i) e = absurd (let no : Some (f i) ≡ None → ⊥ = λ e. cc in no e)

not-so : (b : Bool) (f : PayloadFault) → (if b then Some f else None) ≡ None → b ≡ false
not-so true f e = absurd (let no : Some f ≡ None → ⊥ = λ e. cc in no e)
not-so false f e = refl

nothing : (bits : List ℕ) → length bits ≡ 0 → bits ≡ []
nothing [] e = refl
nothing (b ∷ bits) e = absurd (let no : suc (length bits) ≡ 0 → ⊥ = λ e. omega (arith, e) in no e)

groups-spelled : (t : TailoringParts) (last : ℕ) (gs : List Group) (place group : ℕ) (bits : List ℕ) → AreKnownGroups t gs → AllBelowBase 2 bits → length bits ≡ 8 * sum_by (group_octets t) gs → groups_fault t gs place group bits ≡ None
    → AllFit t (flat_map (λ g. placed (last - g.lag) g.params) gs) (payload_values t gs bits) × (bits ≡ payload_bits t gs (payload_values t gs bits))
groups-spelled t last [] place group bits known are size fine = (tt, nothing bits (size ∙ omega arith))
groups-spelled t last (g ∷ gs) place group bits known are size fine =
    let ps = group_params t g in
    let o = 8 * group_octets t g in
    let vs = bits_values ps bits in
    let rest = drop o bits in
    let ws = payload_values t gs rest in
    let sum = sum_by-cons (group_octets t) g gs in
    let enough : o ≤ length bits = omega (arith, size, sum) in
    let both = neither (group_fault t g place group bits) (groups_fault t gs (place + length g.params) (suc group) rest) fine in
    let own = neither (option_map (λ i. WrongValue (place + i)) (misfit ps vs)) (if is_set (drop (sum_by (λ (p : Param). p.bits) ps) (take o bits)) then Some (Padding group) else None) both.0 in
    let fit = no-fault (λ i. WrongValue (place + i)) (misfit ps vs) own.0 in
    let clean = not-so (is_set (drop (sum_by (λ (p : Param). p.bits) ps) (take o bits))) (Padding group) own.1 in
    let later = groups-spelled t last gs (place + length g.params) (suc group) rest known.1 (parts-below o bits are).1 (omega (arith, size, sum, length-drop o bits)) both.1 in
    let count : length vs ≡ length g.params = length-bits_values ps bits ∙ length-known t g.params known.0 in (
      all-fit t (last - g.lag) g.params bits (flat_map (λ x. placed (last - x.lag) x.params) gs) ws known.0 fit later.0,
      sym
          (ap (λ xs. padded_bits (group_octets t g) (values_bits ps xs) ++ payload_bits t gs (drop (length g.params) (vs ++ ws))) (take-front vs ws (length g.params) count)
          ∙ (ap (λ xs. padded_bits (group_octets t g) (values_bits ps vs) ++ payload_bits t gs xs) (drop-front vs ws (length g.params) count)
          ∙ (ap (λ xs. xs ++ payload_bits t gs ws) (group-spelled t g bits are enough clean)
          ∙ (ap (λ xs. take o bits ++ xs) (sym later.1) ∙ take-append-drop o bits)))),
    )

read-fine : (fault : Option PayloadFault) (values read : List ℤ) → unless_fault fault values ≡ Ok read → (fault ≡ None) × (values ≡ read)
read-fine None values read e = (refl, cc)
read-fine (Some f) values read e = absurd (let no : Err f ≡ Ok read → ⊥ = λ e. cc in no e)

size-fine : (b : Bool) (f : Option PayloadFault) (g : PayloadFault) → (if b then f else Some g) ≡ None → (b ≡ true) × (f ≡ None)
size-fine true f g e = (refl, e)
size-fine false f g e = absurd (let no : Some g ≡ None → ⊥ = λ e. cc in no e)

-- octets that are read as values are the payload of these values
pub read-payload : (t : TailoringParts) (d : Definition) (values : List ℤ) (octets : List ℕ) → IsWellFormed t d → payload_read t d octets ≡ Ok values → IsPayload t d values octets
read-payload t d values octets formed e =
    let fine = read-fine (payload_fault t d octets) (payload_values t (groups d) (bits_of octets)) values e in
    let whole = size-fine (payload_size t d == length octets) (groups_fault t (groups d) 0 0 (bits_of octets)) (WrongSize (payload_size t d) (length octets)) fine.0 in
    let same : payload_size t d ≡ length octets = grind (arith, nat_tests, whole.0) in
    let spelled = groups-spelled t d.interval (groups d) 0 0 (bits_of octets) (known-groups t d formed) (bits-below octets) (length-bits_of octets ∙ ap (λ n. 8 * n) (sym same)) whole.1 in
    record {
      fit = subst (λ vs. AllFit t (places d d.interval) vs) fine.1 spelled.0;
      bits = spelled.1 ∙ ap (λ vs. payload_bits t (groups d) vs) fine.1;
    }
