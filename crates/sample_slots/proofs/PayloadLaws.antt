-- A payload is read as the values that it is of.
use Rattle.std.proofs.Common.{arith, ◌≡◌, ℕ, zero, suc, ◌+◌, ◌-◌, ◌*◌, ◌/◌, ◌^◌, ◌<◌, ◌≤◌, refl, sym, ◌∙◌, ap, subst, List, [], ◌∷◌, ◌++◌, length, length-append, map, Bool, true, false, ◌==◌, ◌⊎◌, inl, inr, Option, Some, None, nat_lt, cond}
use Rattle.std.proofs.Math.Nat.{pow-suc, mod-eq_of_lt}
use Rattle.std.proofs.Math.Pow.{suc_ones}
use Rattle.std.proofs.Math.Seq.{take-append_seam, drop-append_seam}
use Rattle.std.proofs.lemmas.List.{append_assoc, length-replicate, take-append-drop}
use Rattle.std.proofs.lemmas.List.Sums.{sum_by-cons}
use Rattle.std.proofs.lemmas.Option.{same_Some}
use Rattle.std.proofs.lemmas.Bool.{and_parts, or_parts, eq-eqb, lt-ltb, le-ltb, or_cases, ltb-true, ltb-false, leb-true, both_ways}
use Rattle.std.specs.Prelude.{⊤, ◌||◌, not, take, drop, zip, replicate, filter_map, flat_map, sum_by, position, find, option_map, Ok, ℤ, pos, negsuc, ◌≤ℤ◌, ◌<ℤ◌, T, int_lt, int_le, if◌then◌else◌}
use Rattle.std.specs.Option.{option_or, option_map_or}
use Rattle.std.specs.Ordering.{int_eq, is_eq}
use Rattle.std.specs.declared.cmp.Ordering.TheVariants.{Less, Equal, Greater}
use Rattle.std.specs.List.{list_any, cons_option, position_or_len, AllByRecursion}
use Rattle.hk_base.specs.TailoringParts.{TailoringParts}
use Rattle.hk_base.specs.Payload.{Group, groups, places, group_params, group_octets, payload_size, payload_bits, values_bits, bits_values, bits_of, misfit, is_dirty, padded_bits, group_fault, groups_fault, payload_values, unless_fault, payload_read, AllFit, IsPayload}
use Rattle.hk_base.specs.declared.types.Place.{Place}
use Rattle.hk_base.specs.declared.types.Definition.{Definition}
use Rattle.hk_base.specs.declared.types.PayloadFault.TheVariants.{WrongSize, WrongValue, Padding}
use Rattle.hk_base.specs.Fields.{digits, number, twos_complement, signed_of}
use Rattle.hk_base.specs.Fit.{IsFitShape, IsFitForm, IsFitParam, IsFit}
use Rattle.hk_base.proofs.FieldLemmas.{length-digits, number-digits}
use Rattle.sample_slots.proofs.BitsLemmas.{length-bits_of}
use Rattle.hk_base.specs.Parameters.{parameter, fits, in_range, value_of, value_bits, bits_value}
use Rattle.hk_base.specs.declared.types.Form.{Form}
use Rattle.hk_base.specs.declared.types.Form.TheVariants.{Unsigned, Signed, Enumerated, Boolean}
use Rattle.hk_base.specs.declared.types.Param.{Param}
use Rattle.sample_slots.specs.Writing.{IsHeld}

two-positive : (p : ℕ) → 0 < 2 ^ p
two-positive p = let e = suc_ones p in omega (arith, e)

number-small : (places n : ℕ) → n < 2 ^ places → number 2 (digits 2 places n) ≡ n
number-small places n lt = number-digits 2 places n (omega arith) ∙ mod-eq_of_lt lt

lt-pos : (n m : ℕ) → int_lt (pos n) (pos m) ≡ true → n < m
lt-pos n m e = ltb-true n m e

no-negative : (n : ℕ) → int_le (pos 0) (negsuc n) ≡ true → ⊥
no-negative n e = cc

le-neg : (n m : ℕ) → int_le (negsuc m) (negsuc n) ≡ true → n ≤ m
le-neg n m e = leb-true n m e

neither-int : (a b : ℤ) → int_lt a b ≡ false → int_lt b a ≡ false → a ≡ b
neither-int (pos n) (pos m) p q = let x = ltb-false n m p in let y = ltb-false m n q in ap pos (omega (arith, x, y))
neither-int (pos n) (negsuc m) p q = cc
neither-int (negsuc n) (pos m) p q = cc
neither-int (negsuc n) (negsuc m) p q = let x = ltb-false m n p in let y = ltb-false n m q in ap negsuc (omega (arith, x, y))

same-int : (a b : ℤ) → int_eq a b ≡ true → a ≡ b
same-int a b e = go (int_lt a b) (int_lt b a) refl refl e
  where
    go : (x y : Bool) → int_lt a b ≡ x → int_lt b a ≡ y → is_eq (cond x Less (cond y Greater Equal)) ≡ true → a ≡ b
    go true y p q f = absurd (both_ways false refl f)
    go false true p q f = absurd (both_ways false refl f)
    go false false p q f = neither-int a b p q

-- values that fit, of parameters that are fit
abbrev pub FitAll : List Param → List ℤ → Type 0
FitAll [] [] = ⊤
FitAll (p ∷ ps) (v ∷ vs) = IsFitShape p × (fits p v ≡ true) × FitAll ps vs
FitAll [] (v ∷ vs) = ⊥
FitAll (p ∷ ps) [] = ⊥

small-bits : (bits n : ℕ) → 1 ≤ bits → n ≤ 1 → n < 2 ^ bits
small-bits zero n some le = absurd (omega (arith, some))
small-bits (suc b) n some le = let e = pow-suc 2 b in let p = two-positive b in omega (arith, e, p, le)

half : (bits : ℕ) → 1 ≤ bits → 2 ^ bits ≡ 2 * 2 ^ (bits - 1)
half zero some = absurd (omega (arith, some))
half (suc b) some = let e = pow-suc 2 b in let double : 2 ^ suc b ≡ 2 * 2 ^ b = omega (arith, e) in let same : b ≡ suc b - 1 = omega arith in double ∙ ap (λ x. 2 * 2 ^ x) same

-- what the bits of a value stand for is the value
unsigned-back : (bits n : ℕ) → n < 2 ^ bits → pos (number 2 (digits 2 bits n)) ≡ pos n
unsigned-back bits n lt = ap pos (number-small bits n lt)

-- the least value in two's complement
least_signed : (bits : ℕ) → 1 ≤ bits → signed_of bits (2 ^ (bits - 1)) ≡ negsuc (2 ^ bits - suc (2 ^ (bits - 1)))
least_signed bits some = ap (λ b. if b then pos (2 ^ (bits - 1)) else negsuc (2 ^ bits - suc (2 ^ (bits - 1)))) (le-ltb (2 * 2 ^ (bits - 1)) (2 ^ bits) (omega (arith, half bits some)))

signed-back : (bits : ℕ) (v : ℤ) → 1 ≤ bits → in_range Signed bits v ≡ true → signed_of bits (number 2 (digits 2 bits (twos_complement bits v))) ≡ v
signed-back bits (pos n) some e =
    let parts = and_parts (int_le (signed_of bits (2 ^ (bits - 1))) (pos n)) (int_lt (pos n) (pos (2 ^ (bits - 1)))) e in
    let lt : n < 2 ^ (bits - 1) = lt-pos n (2 ^ (bits - 1)) parts.1 in
    let h = half bits some in
    ap (λ x. signed_of bits x) (number-small bits n (omega (arith, lt, h)))
    ∙ ap (λ b. if b then pos n else negsuc (2 ^ bits - suc n)) (lt-ltb (2 * n) (2 ^ bits) (omega (arith, lt, h)))
signed-back bits (negsuc n) some e =
    let parts = and_parts (int_le (signed_of bits (2 ^ (bits - 1))) (negsuc n)) (int_lt (negsuc n) (pos (2 ^ (bits - 1)))) e in
    let h = half bits some in
    let least = least_signed bits some in
    let le : n ≤ 2 ^ bits - suc (2 ^ (bits - 1)) = le-neg n (2 ^ bits - suc (2 ^ (bits - 1))) (sym (ap (λ z. int_le z (negsuc n)) least) ∙ parts.0) in
    let positive = two-positive (bits - 1) in
    ap (λ x. signed_of bits x) (number-small bits (2 ^ bits - suc n) (omega (arith, le, h, positive)))
    ∙ ap (λ b. if b then pos (2 ^ bits - suc n) else negsuc (2 ^ bits - suc (2 ^ bits - suc n))) (le-ltb (2 * (2 ^ bits - suc n)) (2 ^ bits) (omega (arith, le, h, positive)))
    ∙ ap negsuc (omega (arith, le, h, positive))

is-so : (b : Bool) → T b → b ≡ true
is-so true t = refl
is-so false t = absurd t

enumerated-small : (bits : ℕ) (v : ℤ) (values : List ℤ) → AllByRecursion (λ x. (pos 0 ≤ℤ x) × (x <ℤ pos (2 ^ bits))) values → list_any (int_eq v) values ≡ true → (n : ℕ) × (v ≡ pos n) × (n < 2 ^ bits)
enumerated-small bits v [] h e = absurd (both_ways false refl e)
enumerated-small bits v (x ∷ xs) h e = go (or_cases (int_eq v x) (list_any (int_eq v) xs) e) (λ f. enumerated-small bits v xs h.1 f)
  where
    first : (z : ℤ) → v ≡ z → (pos 0 ≤ℤ z) × (z <ℤ pos (2 ^ bits)) → (n : ℕ) × (v ≡ pos n) × (n < 2 ^ bits)
    first (pos n) same within = (n, same, lt-pos n (2 ^ bits) (is-so (int_lt (pos n) (pos (2 ^ bits))) within.1.lt))
    first (negsuc n) same within = absurd (no-negative n (is-so (int_le (pos 0) (negsuc n)) within.0.le))

    go : (int_eq v x ≡ true) ⊎ (list_any (int_eq v) xs ≡ true) → (list_any (int_eq v) xs ≡ true → (n : ℕ) × (v ≡ pos n) × (n < 2 ^ bits)) → (n : ℕ) × (v ≡ pos n) × (n < 2 ^ bits)
    go (inl f) ih = first x (same-int v x f) h.0
    go (inr f) ih = ih f

-- a form's bits, of a value in its range, stand for it
form-back : (form : Form) (bits : ℕ) (v : ℤ) → IsFitForm form bits → 1 ≤ bits → in_range form bits v ≡ true → value_of form bits (number 2 (digits 2 bits (twos_complement bits v))) ≡ v
form-back Unsigned bits (pos n) fit some e =
    let parts = and_parts (int_le (pos 0) (pos n)) (int_lt (pos n) (pos (2 ^ bits))) e in
    unsigned-back bits n (lt-pos n (2 ^ bits) parts.1)
form-back Unsigned bits (negsuc n) fit some e =
    let parts = and_parts (int_le (pos 0) (negsuc n)) (int_lt (negsuc n) (pos (2 ^ bits))) e in
    absurd (no-negative n parts.0)
form-back Signed bits v fit some e = signed-back bits v some e
form-back (Enumerated values) bits v fit some e =
    let r = enumerated-small bits v values fit.1 e in
    ap (λ z. pos (number 2 (digits 2 bits (twos_complement bits z)))) r.1 ∙ unsigned-back bits r.0 r.2 ∙ sym r.1
form-back Boolean bits v fit some e = go (or_cases (int_eq v (pos 0)) (int_eq v (pos 1)) e)
  where
    go : (int_eq v (pos 0) ≡ true) ⊎ (int_eq v (pos 1) ≡ true) → pos (number 2 (digits 2 bits (twos_complement bits v))) ≡ v
    go (inl f) =
        let r = same-int v (pos 0) f in
        ap (λ z. pos (number 2 (digits 2 bits (twos_complement bits z)))) r ∙ unsigned-back bits 0 (small-bits bits 0 some (omega arith)) ∙ sym r
    go (inr f) =
        let r = same-int v (pos 1) f in
        ap (λ z. pos (number 2 (digits 2 bits (twos_complement bits z)))) r ∙ unsigned-back bits 1 (small-bits bits 1 some (omega arith)) ∙ sym r

-- so many bits hold a value in the range of its form
held-in : (form : Form) (bits : ℕ) (v : ℤ) → IsFitForm form bits → 1 ≤ bits → in_range form bits v ≡ true → IsHeld bits v
held-in Unsigned bits (pos n) fit some e = lt-pos n (2 ^ bits) (and_parts (int_le (pos 0) (pos n)) (int_lt (pos n) (pos (2 ^ bits))) e).1
held-in Unsigned bits (negsuc n) fit some e = absurd (no-negative n (and_parts (int_le (pos 0) (negsuc n)) (int_lt (negsuc n) (pos (2 ^ bits))) e).0)
held-in Signed bits (pos n) fit some e =
    let lt = lt-pos n (2 ^ (bits - 1)) (and_parts (int_le (signed_of bits (2 ^ (bits - 1))) (pos n)) (int_lt (pos n) (pos (2 ^ (bits - 1)))) e).1 in
    omega (arith, lt, half bits some)
held-in Signed bits (negsuc n) fit some e =
    let parts = and_parts (int_le (signed_of bits (2 ^ (bits - 1))) (negsuc n)) (int_lt (negsuc n) (pos (2 ^ (bits - 1)))) e in
    let le : n ≤ 2 ^ bits - suc (2 ^ (bits - 1)) = le-neg n (2 ^ bits - suc (2 ^ (bits - 1))) (sym (ap (λ z. int_le z (negsuc n)) (least_signed bits some)) ∙ parts.0) in
    omega (arith, le, half bits some, two-positive (bits - 1))
held-in (Enumerated values) bits v fit some e = let r = enumerated-small bits v values fit.1 e in subst (λ z. IsHeld bits z) (sym r.1) r.2
held-in Boolean bits v fit some e = go (or_cases (int_eq v (pos 0)) (int_eq v (pos 1)) e)
  where
    go : (int_eq v (pos 0) ≡ true) ⊎ (int_eq v (pos 1) ≡ true) → IsHeld bits v
    go (inl f) = subst (λ z. IsHeld bits z) (sym (same-int v (pos 0) f)) (small-bits bits 0 some (omega arith))
    go (inr f) = subst (λ z. IsHeld bits z) (sym (same-int v (pos 1) f)) (small-bits bits 1 some (omega arith))

-- the bits of a parameter hold a value that fits it
pub held : (p : Param) (v : ℤ) → IsFitShape p → fits p v ≡ true → IsHeld p.bits v
held p v shape e = held-in p.form p.bits v shape.form shape.bits.0 e

value-back : (p : Param) (v : ℤ) → IsFitShape p → fits p v ≡ true → bits_value p (value_bits p v) ≡ v
value-back p v fit e = form-back p.form p.bits v fit.form fit.bits.0 e

-- the bits of values that fit
values-length : (ps : List Param) (vs : List ℤ) → FitAll ps vs → length (values_bits ps vs) ≡ sum_by (λ p. p.bits) ps
values-length [] [] h = refl
values-length [] (v ∷ vs) h = absurd h
values-length (p ∷ ps) [] h = absurd h
values-length (p ∷ ps) (v ∷ vs) h =
    let a = length-append (value_bits p v) (values_bits ps vs) in
    let b = length-digits 2 p.bits (twos_complement p.bits v) in
    let c = values-length ps vs h.2 in
    let d = sum_by-cons (λ (q : Param). q.bits) p ps in
    omega (arith, a, b, c, d)

pub take-front : {X : Type 0} (xs ys : List X) (n : ℕ) → length xs ≡ n → take n (xs ++ ys) ≡ xs
take-front xs ys n e = ap (λ k. take k (xs ++ ys)) (sym e) ∙ take-append_seam xs ys

pub drop-front : {X : Type 0} (xs ys : List X) (n : ℕ) → length xs ≡ n → drop n (xs ++ ys) ≡ ys
drop-front xs ys n e = ap (λ k. drop k (xs ++ ys)) (sym e) ∙ drop-append_seam xs ys

values-back : (ps : List Param) (vs : List ℤ) (rest : List ℕ) → FitAll ps vs → bits_values ps (values_bits ps vs ++ rest) ≡ vs
values-back [] [] rest h = refl
values-back [] (v ∷ vs) rest h = absurd h
values-back (p ∷ ps) [] rest h = absurd h
values-back (p ∷ ps) (v ∷ vs) rest h =
    let size = length-digits 2 p.bits (twos_complement p.bits v) in
    let e = append_assoc (value_bits p v) (values_bits ps vs) rest in
    ap (λ bits. bits_values (p ∷ ps) bits) e
    ∙ ap (λ x. bits_value p x ∷ bits_values ps (drop p.bits (value_bits p v ++ (values_bits ps vs ++ rest)))) (take-front (value_bits p v) (values_bits ps vs ++ rest) p.bits size)
    ∙ ap (λ x. bits_value p (value_bits p v) ∷ bits_values ps x) (drop-front (value_bits p v) (values_bits ps vs ++ rest) p.bits size)
    ∙ ap (λ x. x ∷ bits_values ps (values_bits ps vs ++ rest)) (value-back p v h.0 h.1)
    ∙ ap (λ (xs : List ℤ). v ∷ xs) (values-back ps vs rest h.2)

-- none of values that fit is a misfit
none-passes : {X : Type 0} (test : X → Bool) (xs : List X) → list_any test xs ≡ false → position test xs ≡ None
none-passes {X = X} test xs e = ap (λ n. cond (nat_lt n (length xs)) (Some n) None) (go xs e) ∙ ap (λ b. cond b (Some (length xs)) None) (le-ltb (length xs) (length xs) (omega arith))
  where
    one : (n : ℕ) → 1 + n ≡ suc n
    one n = omega arith

    go : (ys : List X) → list_any test ys ≡ false → position_or_len test ys ≡ length ys
    go [] f = refl
    go (y ∷ ys) f = let parts = or_parts (test y) (list_any test ys) f in ap (λ b. cond (not b) (1 + position_or_len test ys) 0) parts.0 ∙ ap (λ n. 1 + n) (go ys parts.1) ∙ one (length ys)

no-misfits : (ps : List Param) (vs : List ℤ) → FitAll ps vs → list_any (λ (p, v). not (fits p v)) (zip ps vs) ≡ false
no-misfits [] [] h = refl
no-misfits [] (v ∷ vs) h = absurd h
no-misfits (p ∷ ps) [] h = absurd h
no-misfits (p ∷ ps) (v ∷ vs) h = ap (λ b. not b || list_any (λ (p, v). not (fits p v)) (zip ps vs)) h.1 ∙ no-misfits ps vs h.2

zeros-clean : (n : ℕ) → list_any (λ bit. bit == 1) (replicate n 0) ≡ false
zeros-clean zero = refl
zeros-clean (suc n) = zeros-clean n

-- what is found has what all have
find-all : (P : Param → Type 0) (test : Param → Bool) (xs : List Param) (p : Param) → AllByRecursion P xs → find test xs ≡ Some p → P p
find-all P test [] p h e = absurd (let no : None ≡ Some p → ⊥ = λ e. cc in no e)
find-all P test (x ∷ xs) p h e = go (test x) e (find-all P test xs p h.1)
  where
    go : (b : Bool) → cond b (Some x) (find test xs) ≡ Some p → (find test xs ≡ Some p → P p) → P p
    go true f ih = subst P (same_Some x p f) h.0
    go false f ih = ih f

-- the places of parameters that are sampled together
abbrev pub placed : ℕ → List ℕ → List Place
placed slot ids = map (λ id. record { param = id; slot = slot }) ids

module _ (t : TailoringParts) (fit : AllByRecursion (IsFitParam t.widths) t.params) where
  -- the values of a group, and those of the rest
  split-fit : (slot : ℕ) (ids : List ℕ) (rest : List Place) (values : List ℤ) → AllFit t (placed slot ids ++ rest) values
      → FitAll (filter_map (parameter t) ids) (take (length ids) values) × AllFit t rest (drop (length ids) values)
  split-fit slot [] rest values h = (tt, h)
  split-fit slot (id ∷ ids) rest [] h = absurd h
  split-fit slot (id ∷ ids) rest (v ∷ vs) h = go (parameter t id) refl h.0 (split-fit slot ids rest vs h.1)
    where
      go : (o : Option Param) → parameter t id ≡ o → option_map_or (λ p. fits p v) o false ≡ true
          → FitAll (filter_map (parameter t) ids) (take (length ids) vs) × AllFit t rest (drop (length ids) vs)
          → FitAll (cons_option o (filter_map (parameter t) ids)) (v ∷ take (length ids) vs) × AllFit t rest (drop (length ids) vs)
      go None e f ih = absurd (both_ways false refl f)
      go (Some p) e f ih = (((find-all (IsFitParam t.widths) (λ q. q.id == id) t.params p fit e).shape, f, ih.0), ih.1)

  -- the bits of a group are whole octets
  padded-length : (g : Group) (vs : List ℤ) → FitAll (group_params t g) vs → length (padded_bits (group_octets t g) (values_bits (group_params t g) vs)) ≡ 8 * group_octets t g
  padded-length g vs h =
      let v = values_bits (group_params t g) vs in
      let a = length-append v (replicate (8 * group_octets t g - length v) 0) in
      let b = length-replicate (8 * group_octets t g - length v) 0 in
      let c = values-length (group_params t g) vs h in
      fit_in (length (padded_bits (group_octets t g) v)) (length v) (sum_by (λ p. p.bits) (group_params t g)) (length (replicate (8 * group_octets t g - length v) 0)) a b c
    where
      fit_in : (n l s z : ℕ) → n ≡ l + z → z ≡ 8 * ((s + 7) / 8) - l → l ≡ s → n ≡ 8 * ((s + 7) / 8)
      fit_in n l s z a b c = omega (arith, a, b, c)

  -- a group of values that fit has no fault
  group-clean : (g : Group) (vs : List ℤ) (rest : List ℕ) (place group : ℕ) → FitAll (group_params t g) vs
      → group_fault t g place group (padded_bits (group_octets t g) (values_bits (group_params t g) vs) ++ rest) ≡ None
  group-clean g vs rest place group h =
      ap (λ o. option_or (option_map (λ i. WrongValue (place + i)) o) (if is_dirty ps (group_octets t g) bits then Some (Padding group) else None)) right
      ∙ ap (λ b. if b then Some (Padding group) else None) clean
    where
      ps : List Param
      ps = group_params t g

      v : List ℕ
      v = values_bits (group_params t g) vs

      zeros : List ℕ
      zeros = replicate (8 * group_octets t g - length (values_bits (group_params t g) vs)) 0

      bits : List ℕ
      bits = padded_bits (group_octets t g) (values_bits (group_params t g) vs) ++ rest

      right : misfit (group_params t g) (bits_values (group_params t g) (padded_bits (group_octets t g) (values_bits (group_params t g) vs) ++ rest)) ≡ None
      right =
          ap (λ x. misfit (group_params t g) (bits_values (group_params t g) x)) (append_assoc v zeros rest)
          ∙ ap (λ x. misfit (group_params t g) x) (values-back (group_params t g) vs (zeros ++ rest) h)
          ∙ none-passes (λ (p, v). not (fits p v)) (zip (group_params t g) vs) (no-misfits (group_params t g) vs h)

      clean : is_dirty (group_params t g) (group_octets t g) (padded_bits (group_octets t g) (values_bits (group_params t g) vs) ++ rest) ≡ false
      clean =
          ap (λ x. list_any (λ bit. bit == 1) (drop (sum_by (λ p. p.bits) (group_params t g)) x)) (take-front (v ++ zeros) rest (8 * group_octets t g) (padded-length g vs h))
          ∙ ap (λ x. list_any (λ bit. bit == 1) x) (drop-front v zeros (sum_by (λ p. p.bits) (group_params t g)) (values-length (group_params t g) vs h))
          ∙ zeros-clean (8 * group_octets t g - length (values_bits (group_params t g) vs))

  -- groups of values that fit have no fault
  groups-clean : (last : ℕ) (gs : List Group) (values : List ℤ) (place group : ℕ) → AllFit t (flat_map (λ g. placed (last - g.lag) g.params) gs) values
      → groups_fault t gs place group (payload_bits t gs values) ≡ None
  groups-clean last [] values place group h = refl
  groups-clean last (g ∷ gs) values place group h =
      let parts = split-fit (last - g.lag) g.params (flat_map (λ x. placed (last - x.lag) x.params) gs) values h in
      let vs = take (length g.params) values in
      let rest = payload_bits t gs (drop (length g.params) values) in
      let own = padded_bits (group_octets t g) (values_bits (group_params t g) vs) in
      ap (λ o. option_or o (groups_fault t gs (place + length g.params) (suc group) (drop (8 * group_octets t g) (own ++ rest)))) (group-clean g vs rest place group parts.0)
      ∙ ap (λ x. groups_fault t gs (place + length g.params) (suc group) x) (drop-front own rest (8 * group_octets t g) (padded-length g vs parts.0))
      ∙ groups-clean last gs (drop (length g.params) values) (place + length g.params) (suc group) parts.1

  payload-length : (last : ℕ) (gs : List Group) (values : List ℤ) → AllFit t (flat_map (λ g. placed (last - g.lag) g.params) gs) values
      → length (payload_bits t gs values) ≡ 8 * sum_by (group_octets t) gs
  payload-length last [] values h = refl
  payload-length last (g ∷ gs) values h =
      let parts = split-fit (last - g.lag) g.params (flat_map (λ x. placed (last - x.lag) x.params) gs) values h in
      let vs = take (length g.params) values in
      let rest = payload_bits t gs (drop (length g.params) values) in
      let own = padded_bits (group_octets t g) (values_bits (group_params t g) vs) in
      let a = length-append own rest in
      let b = padded-length g vs parts.0 in
      let c = payload-length last gs (drop (length g.params) values) parts.1 in
      let d = sum_by-cons (group_octets t) g gs in
      add (length (own ++ rest)) (length own) (length rest) (group_octets t g) (sum_by (group_octets t) gs) (sum_by (group_octets t) (g ∷ gs)) a b c d
    where
      add : (n l r o s z : ℕ) → n ≡ l + r → l ≡ 8 * o → r ≡ 8 * s → z ≡ o + s → n ≡ 8 * z
      add n l r o s z a b c d = omega (arith, a, b, c, d)

  -- groups of values that fit are read
  values-again : (last : ℕ) (gs : List Group) (values : List ℤ) → AllFit t (flat_map (λ g. placed (last - g.lag) g.params) gs) values → payload_values t gs (payload_bits t gs values) ≡ values
  values-again last [] [] h = refl
  values-again last [] (v ∷ vs) h = absurd h
  values-again last (g ∷ gs) values h =
      let parts = split-fit (last - g.lag) g.params (flat_map (λ x. placed (last - x.lag) x.params) gs) values h in
      let front = take (length g.params) values in
      let back = drop (length g.params) values in
      let rest = payload_bits t gs back in
      let bits = values_bits (group_params t g) front in
      let zeros = replicate (8 * group_octets t g - length bits) 0 in
      ap (λ x. bits_values (group_params t g) x ++ payload_values t gs (drop (8 * group_octets t g) ((bits ++ zeros) ++ rest))) (append_assoc bits zeros rest)
      ∙ ap (λ xs. xs ++ payload_values t gs (drop (8 * group_octets t g) ((bits ++ zeros) ++ rest))) (values-back (group_params t g) front (zeros ++ rest) parts.0)
      ∙ ap (λ x. front ++ payload_values t gs x) (drop-front (bits ++ zeros) rest (8 * group_octets t g) (padded-length g front parts.0))
      ∙ ap (λ xs. front ++ xs) (values-again last gs back parts.1)
      ∙ take-append-drop (length g.params) values

-- what is a payload of values is read as them
pub payload-read : (t : TailoringParts) (d : Definition) (values : List ℤ) (octets : List ℕ) → IsFit t → IsPayload t d values octets → payload_read t d octets ≡ Ok values
payload-read t d values octets fit is =
    ap (λ f. unless_fault f (payload_values t (groups d) (bits_of octets)))
    (ap (λ b. if b then groups_fault t (groups d) 0 0 (bits_of octets) else Some (WrongSize (payload_size t d) (length octets))) size
    ∙ ap (λ x. groups_fault t (groups d) 0 0 x) is.bits
    ∙ groups-clean t fit.params d.interval (groups d) values 0 0 is.fit)
    ∙ ap (λ x. Ok (payload_values t (groups d) x)) is.bits
    ∙ ap Ok (values-again t fit.params d.interval (groups d) values is.fit)
  where
    same : (n m : ℕ) → 8 * n ≡ 8 * m → m ≡ n
    same n m e = omega (arith, e)

    size : (payload_size t d == length octets) ≡ true
    size =
        eq-eqb (payload_size t d) (length octets)
        (same (length octets) (payload_size t d) (sym (length-bits_of octets) ∙ ap length is.bits ∙ payload-length t fit.params d.interval (groups d) values is.fit))
