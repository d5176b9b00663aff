-- The mean of values lies between them, and so it has room in its octets.
use Rattle.std.proofs.Common.{arith, ◌≡◌, ℕ, zero, suc, ◌<◌, ◌≤◌, ◌+◌, ◌-◌, ◌*◌, ◌/◌, ◌^◌, refl, sym, ◌∙◌, ap, subst, List, [], ◌∷◌, length, Bool, true, false, ℤ, pos, negsuc, ◌+ℤ◌, ◌*ℤ◌, ◌≤ℤ◌}
use Rattle.std.specs.List.{AllByRecursion}
use Rattle.std.proofs.lemmas.Int.{ints}
use Rattle.std.proofs.Math.Nat.{suc-mul, mul_assoc, mul_comm, mul-le-mul_right, mul-le-mul_left, div-le_of_le-mul, div-lt_iff_lt-mul}
use Rattle.std.proofs.Math.IntN.{neg_ℤ}
use Rattle.std.proofs.lemmas.Nat.{pow-add}
use Rattle.hk_base.proofs.FieldLemmas.{pow_pos}
use Rattle.hk_base.proofs.Numbers.{pow_of_octets}
use Rattle.hk_base.specs.declared.types.Form.TheVariants.{Unsigned, Signed}
use Rattle.body_fields.specs.Spelling.{IsInOctets}
use Rattle.statistics.specs.Summaries.{Sample, sum_of, floor_div}

-- a value from minus one number up to another
abbrev pub IsBetween : ℕ → ℕ → ℤ → Type 0
IsBetween low high v = (pos 0 ≤ℤ (v +ℤ pos low)) × (v ≤ℤ pos high)

-- the sum of such values
pub sum-between : (low high : ℕ) (samples : List Sample) → AllByRecursion (λ x. IsBetween low high x.value) samples
    → IsBetween (length samples * low) (length samples * high) (sum_of samples)
sum-between low high [] h = (omega (arith, ints), omega (arith, ints))
sum-between low high (x ∷ xs) h =
    let rest = sum-between low high xs h.1 in
    let a : length (x ∷ xs) * low ≡ length xs * low + low = suc-mul (length xs) low in
    let b : length (x ∷ xs) * high ≡ length xs * high + high = suc-mul (length xs) high in
    (omega (arith, ints, a, h.0.0, rest.0), omega (arith, ints, b, h.0.1, rest.1))

-- a quotient of naturals
quotient-low : (s n high f : ℕ) → s ≤ n * high → (s * f) / n ≤ high * f
quotient-low s n high f h = div-le_of_le-mul n (subst (λ k. s * f ≤ k) (mul_assoc n high f) (mul-le-mul_right f h))

quotient-below : (m n low f k : ℕ) → 1 ≤ n → suc k ≤ n * low → suc k * f ≡ suc m → m / n < low * f
quotient-below m n low f k some h e =
    let a : suc k * f ≤ n * low * f = mul-le-mul_right f h in
    let b : m < low * f * n = omega (arith, a, e, mul_assoc n low f, mul_comm n (low * f)) in
    (div-lt_iff_lt-mul (omega (arith, some))).1 b

-- the mean of such values in parts of one
pub mean-between : (low high f n : ℕ) (sum : ℤ) → 1 ≤ n → 1 ≤ f → IsBetween (n * low) (n * high) sum → IsBetween (low * f) (high * f) (floor_div (sum *ℤ pos f) n)
mean-between low high f n (pos s) some parts h =
    let most : s ≤ n * high = omega (arith, ints, h.1) in
    let q = quotient-low s n high f most in
    (omega (arith, ints), omega (arith, ints, q))
mean-between low high f n (negsuc k) some parts h = go (suc k * f) refl
  where
    least : suc k ≤ n * low
    least = omega (arith, ints, h.0)

    go : (p : ℕ) → suc k * f ≡ p → IsBetween (low * f) (high * f) (floor_div (neg_ℤ (pos (suc k * f))) n)
    go zero e = absurd (let up : suc k * 1 ≤ suc k * f = mul-le-mul_left (suc k) parts in omega (arith, up, e))
    go (suc m) e =
        let q = quotient-below m n low f k some least e in
        subst (λ z. IsBetween (low * f) (high * f) (floor_div (neg_ℤ (pos z)) n)) (sym e) (omega (arith, ints, q), omega (arith, ints))

-- values in so many octets: unsigned ones below a power, signed ones below half of one
pub unsigned-between : (octets : ℕ) (v : ℤ) → IsInOctets Unsigned octets v → IsBetween 0 (256 ^ octets - 1) v
unsigned-between octets (pos n) h = (omega (arith, ints), omega (arith, ints, h))
unsigned-between octets (negsuc n) h = absurd h

pub signed-between : (octets half : ℕ) (v : ℤ) → 2 ^ (8 * octets) ≡ 2 * half → 1 ≤ half → IsInOctets Signed octets v → IsBetween half (half - 1) v
signed-between octets half (pos n) e some h = (omega (arith, ints), omega (arith, ints, h, e))
signed-between octets half (negsuc n) e some h = (omega (arith, ints, h, e), omega (arith, ints))

one-less : (a b : ℕ) → 1 ≤ a → (a - 1) * b + b ≡ a * b
one-less zero b h = absurd (omega (arith, h))
one-less (suc a) b h =
    let e : suc a - 1 ≡ a = omega arith in
    ap (λ k. k * b + b) e ∙ sym (suc-mul a b)

wide : (octets more half : ℕ) → 2 ^ (8 * octets) ≡ 2 * half → 2 ^ (8 * (octets + more)) ≡ 2 * (half * 256 ^ more)
wide octets more half e =
    sym (pow_of_octets (octets + more)) ∙ pow-add 256 octets more ∙ ap (λ k. k * 256 ^ more) (pow_of_octets octets ∙ e) ∙ mul_assoc 2 half (256 ^ more)

-- and back, in more octets
pub between-unsigned : (octets more : ℕ) (v : ℤ) → IsBetween (0 * 256 ^ more) ((256 ^ octets - 1) * 256 ^ more) v → IsInOctets Unsigned (octets + more) v
between-unsigned octets more (pos n) h =
    let top : n ≤ (256 ^ octets - 1) * 256 ^ more = omega (arith, ints, h.1) in
    let some : 1 ≤ 256 ^ octets = pow_pos 256 octets (omega arith) in
    let parts : 1 ≤ 256 ^ more = pow_pos 256 more (omega arith) in
    let split : 256 ^ (octets + more) ≡ 256 ^ octets * 256 ^ more = pow-add 256 octets more in
    let less : (256 ^ octets - 1) * 256 ^ more + 256 ^ more ≡ 256 ^ octets * 256 ^ more = one-less (256 ^ octets) (256 ^ more) some in
    omega (arith, top, parts, split, less)
between-unsigned octets more (negsuc n) h = absurd (omega (arith, ints, h.0))

pub between-signed : (octets more half : ℕ) (v : ℤ) → 2 ^ (8 * octets) ≡ 2 * half → 1 ≤ half → IsBetween (half * 256 ^ more) ((half - 1) * 256 ^ more) v → IsInOctets Signed (octets + more) v
between-signed octets more half (pos n) e some h =
    let top : n ≤ (half - 1) * 256 ^ more = omega (arith, ints, h.1) in
    let parts : 1 ≤ 256 ^ more = pow_pos 256 more (omega arith) in
    let whole : 2 ^ (8 * (octets + more)) ≡ 2 * (half * 256 ^ more) = wide octets more half e in
    let less : (half - 1) * 256 ^ more + 256 ^ more ≡ half * 256 ^ more = one-less half (256 ^ more) some in
    omega (arith, top, parts, whole, less)
between-signed octets more half (negsuc n) e some h =
    let low : suc n ≤ half * 256 ^ more = omega (arith, ints, h.0) in
    let whole : 2 ^ (8 * (octets + more)) ≡ 2 * (half * 256 ^ more) = wide octets more half e in
    omega (arith, low, whole)
