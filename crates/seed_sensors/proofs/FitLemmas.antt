-- What is read of a parameter fits it.
use Rattle.std.proofs.Common.{arith, ◌≡◌, ◌-◌, ◌*◌, ◌%◌, ◌^◌, ◌<◌, ◌≤◌, ℕ, zero, suc, Bool, true, false, List, [], ◌∷◌, length, refl, sym, ap, subst, ◌∙◌}
use Rattle.std.specs.Prelude.{◌&&◌, ◌||◌, IsTrue, ℤ, pos, negsuc, ◌-ℤ◌, int_le, int_lt, slice_get, unwrap_or}
use Rattle.std.specs.List.{list_any}
use Rattle.std.specs.Ordering.{int_eq}
use Rattle.std.proofs.lemmas.Bool.Decides.{nat_tests, Decides-int_eq}
use Rattle.std.proofs.lemmas.Nat.{pow_pos}
use Rattle.hk_base.specs.Fit.{IsFitShape, IsFitForm}
use Rattle.hk_base.specs.Fields.{signed_of}
use Rattle.hk_base.specs.Parameters.{fits, in_range}
use Rattle.hk_base.specs.declared.types.Form.{Form}
use Rattle.hk_base.specs.declared.types.Form.TheVariants.{Unsigned, Signed, Enumerated, Boolean}
use Rattle.hk_base.specs.declared.types.Param.{Param}
use Rattle.hk_base.proofs.Numbers.{signed_of-above}
use Rattle.seed_sensors.specs.Readings.{used_bits, picked, value_of_word}
use Rattle.std.proofs.Math.Nat.{pow-le-pow_right, pow-succ'}
use Rattle.std.proofs.lemmas.Nat.{mod_below}
use Rattle.std.proofs.lemmas.Int.{ints}

-- half of what the bits can be
half_of_bits : (bits : ℕ) → 1 ≤ bits → 2 ^ bits ≡ 2 * 2 ^ (bits - 1)
half_of_bits bits some = let next : bits ≡ suc (bits - 1) = omega (arith, some) in ap (λ b. 2 ^ b) next ∙ pow-succ' 2 (bits - 1)

int_eq_self : (v : ℤ) → int_eq v v ≡ true
int_eq_self v = (Decides-int_eq v v).1 refl

used-some : (bits : ℕ) → 1 ≤ bits → 1 ≤ used_bits bits
used-some bits some = omega (arith, some)

used-within : (bits : ℕ) → used_bits bits ≤ bits
used-within bits = omega arith

unsigned_fits : (bits w : ℕ) → IsTrue (in_range Unsigned bits (value_of_word Unsigned bits w))
unsigned_fits bits w =
    let room : 2 ^ used_bits bits ≤ 2 ^ bits = pow-le-pow_right {n = 2} (omega arith) {i = used_bits bits} {j = bits} (used-within bits) in
    let below : w % 2 ^ used_bits bits < 2 ^ bits = omega (arith, room, mod_below w (2 ^ used_bits bits) (pow_pos (used_bits bits))) in
    in_bounds (w % 2 ^ used_bits bits) (2 ^ bits) below
  where
    in_bounds : (n m : ℕ) → n < m → IsTrue (int_le (pos 0) (pos n) && int_lt (pos n) (pos m))
    in_bounds n m below = grind (arith, nat_tests)

boolean_fits : (bits w : ℕ) → IsTrue (in_range Boolean bits (value_of_word Boolean bits w))
boolean_fits bits w = go (w % 2) (mod_below w 2 (omega arith))
  where
    go : (n : ℕ) → n < 2 → IsTrue (int_eq (pos n) (pos 0) || int_eq (pos n) (pos 1))
    go zero below = refl
    go (suc zero) below = refl
    go (suc (suc n)) below = absurd (omega (arith, below))

-- a difference of two numbers, the second at most half of what the first is below
within : (z : ℤ) (n h half : ℕ) → z ≡ pos n -ℤ pos h → n < 2 * h → 1 ≤ h → h ≤ half → IsTrue (int_le (negsuc (half - 1)) z && int_lt z (pos half))
within (pos m) n h half e below some room = let low : m < half = omega (arith, ints, e, below, some, room) in grind (arith, nat_tests)
within (negsuc m) n h half e below some room = let low : m ≤ half - 1 = omega (arith, ints, e, below, some, room) in grind (arith, nat_tests)

signed_fits : (bits w : ℕ) → 1 ≤ bits → IsTrue (in_range Signed bits (value_of_word Signed bits w))
signed_fits bits w some =
    let u : ℕ = used_bits bits in
    let half_used : 2 ^ u ≡ 2 * 2 ^ (u - 1) = half_of_bits u (used-some bits some) in
    let half : 2 ^ bits ≡ 2 * 2 ^ (bits - 1) = half_of_bits bits some in
    let room : 2 ^ (u - 1) ≤ 2 ^ (bits - 1) = pow-le-pow_right {n = 2} (omega arith) {i = u - 1} {j = bits - 1} (omega (arith, used-within bits)) in
    let below : w % 2 ^ u < 2 * 2 ^ (u - 1) = omega (arith, half_used, mod_below w (2 ^ u) (pow_pos u)) in
    let least : signed_of bits (2 ^ (bits - 1)) ≡ negsuc (2 ^ bits - suc (2 ^ (bits - 1))) = signed_of-above bits (2 ^ (bits - 1)) (omega (arith, half)) in
    let least_is : negsuc (2 ^ (bits - 1) - 1) ≡ signed_of bits (2 ^ (bits - 1)) =
    ap (λ (n : ℕ). negsuc n) (omega (arith, half)) ∙ sym least in
    let z : ℤ = pos (w % 2 ^ u) -ℤ pos (2 ^ (u - 1)) in
    subst (λ (low : ℤ). IsTrue (int_le low z && int_lt z (pos (2 ^ (bits - 1))))) least_is
    (within z (w % 2 ^ u) (2 ^ (u - 1)) (2 ^ (bits - 1)) refl below (omega (arith, pow_pos (u - 1))) room)

or_right : (a b : Bool) → b ≡ true → (a || b) ≡ true
or_right true b e = refl
or_right false b e = e

or_left : (a b : Bool) → a ≡ true → (a || b) ≡ true
or_left a b e = rw e refl

picked_in : (values : List ℤ) (i : ℕ) → i < length values → list_any (int_eq (unwrap_or (slice_get values i) (pos 0))) values ≡ true
picked_in [] i below = absurd (omega (arith, below))
picked_in (v ∷ values) zero below = or_left (int_eq v v) (list_any (int_eq v) values) (int_eq_self v)
picked_in (v ∷ values) (suc i) below =
    let x : ℤ = unwrap_or (slice_get values i) (pos 0) in
    or_right (int_eq x v) (list_any (int_eq x) values) (picked_in values i (omega (arith, below)))

picked_fits : (values : List ℤ) (w bits : ℕ) → 1 ≤ length values → IsTrue (in_range (Enumerated values) bits (picked values w))
picked_fits values w bits some = picked_in values (w % length values) (mod_below w (length values) (omega (arith, some)))

pub word_fits : (p : Param) (w : ℕ) → IsFitShape p → IsTrue (fits p (value_of_word p.form p.bits w))
word_fits p w shape = go p.form shape.form
  where
    go : (form : Form) → IsFitForm form p.bits → IsTrue (in_range form p.bits (value_of_word form p.bits w))
    go Unsigned fit = unsigned_fits p.bits w
    go Signed fit = signed_fits p.bits w shape.bits.0
    go (Enumerated values) fit = picked_fits values w p.bits fit.0.0
    go Boolean fit = boolean_fits p.bits w
