-- Numbers as bits behind other bits.
use Rattle.std.proofs.Common.{◌≡◌, ◌+◌, ◌-◌, ◌*◌, ◌/◌, ◌%◌, ◌^◌, ◌<◌, ◌≤◌, ℕ, zero, suc, ℤ, pos, negsuc, List, ◌∷◌, ◌++◌, refl, sym, ap, subst, ◌∙◌, arith, append_assoc}
use Rattle.std.specs.Prelude.{replicate}
use Rattle.std.specs.Int.{cast_unsigned, w128}
use Rattle.std.proofs.lemmas.Nat.{pow-add, div-mul-add, mod-mul-add, mul-add-lt, div-add-mod'}
use Rattle.std.proofs.lemmas.Grind.{flat_map-append}
use Rattle.std.proofs.Math.Nat.{div-div-eq-div-mul, zero-div, div-lt_iff_lt-mul, mod-eq_of_lt}
use Rattle.hk_base.specs.Fields.{digits, octets_of, twos_complement}
use Rattle.hk_base.specs.Payload.{bits_of}
use Rattle.hk_base.proofs.FieldLemmas.{pow_pos}
use Rattle.hk_base.proofs.Numbers.{digits_below, bits_of_octets}
use Rattle.sample_slots.specs.Writing.{Keeps, IsHeld}

commuted : (a b : ℕ) → a * b ≡ b * a
commuted a b = omega arith

-- the digits of a number, the upper ones and the lower ones
pub digits-append : (b k m n : ℕ) → digits b (k + m) n ≡ digits b k (n / b ^ m) ++ digits b m n
digits-append b zero m n = ap (λ i. digits b i n) (omega arith)
digits-append b (suc k) m n =
    let head : n / b ^ (k + m) ≡ n / b ^ m / b ^ k = ap (λ p. n / p) (pow-add b k m ∙ commuted (b ^ k) (b ^ m)) ∙ sym (div-div-eq-div-mul n (b ^ m) (b ^ k)) in
    let next : suc k + m ≡ suc (k + m) = omega arith in
    ap (λ i. digits b i n) next
    ∙ (ap (λ q. q % b ∷ digits b (k + m) n) head ∙ ap (λ ds. n / b ^ m / b ^ k % b ∷ ds) (digits-append b k m n))

-- digits know nothing of what lies above them
pub digits-mod : (b k n : ℕ) → 0 < b → digits b k (n % b ^ k) ≡ digits b k n
digits-mod b k n base = sym (digits_below b k (n / b ^ k) (n % b ^ k) base) ∙ ap (λ m. digits b k m) (div-add-mod' n (b ^ k))

-- the bits of a number's octets
pub bits-octets_of : (k n : ℕ) → bits_of (octets_of k n) ≡ digits 2 (8 * k) n
bits-octets_of zero n = refl
bits-octets_of (suc k) n =
    let size : 8 + 8 * k ≡ 8 * suc k = omega arith in
    ap (λ bits. bits ++ bits_of (octets_of k n)) (digits-mod 2 8 (n / 256 ^ k) (omega arith))
    ∙ (ap (λ bits. digits 2 8 (n / 256 ^ k) ++ bits) (bits-octets_of k n)
    ∙ (ap (λ p. digits 2 8 (n / p) ++ digits 2 (8 * k) n) (sym (bits_of_octets k))
    ∙ (sym (digits-append 2 8 (8 * k) n) ∙ ap (λ i. digits 2 i n) size)))

-- a number behind bits that wait, as octets and as bits that wait
pub packed : (old new : List ℕ) (held count value width whole octets behind : ℕ) → value < 2 ^ width → whole ≡ held * 2 ^ width + value → count + width ≡ 8 * octets + behind → new ≡ old ++ octets_of octets (whole / 2 ^ behind)
    → bits_of new ++ digits 2 behind (whole % 2 ^ behind) ≡ (bits_of old ++ digits 2 count held) ++ digits 2 width value
packed old new held count value width whole octets behind fits is size put =
    let upper : whole / 2 ^ width ≡ held = ap (λ n. n / 2 ^ width) is ∙ div-mul-add held (2 ^ width) value fits in
    let lower : digits 2 width whole ≡ digits 2 width value = ap (λ n. digits 2 width n) is ∙ digits_below 2 width held value (omega arith) in
    let high = whole / 2 ^ behind in
    ap (λ xs. bits_of xs ++ digits 2 behind (whole % 2 ^ behind)) put
    ∙ (ap (λ xs. xs ++ digits 2 behind (whole % 2 ^ behind)) (flat_map-append (digits 2 8) old (octets_of octets high) ∙ ap (λ xs. bits_of old ++ xs) (bits-octets_of octets high))
    ∙ (ap (λ xs. (bits_of old ++ digits 2 (8 * octets) high) ++ xs) (digits-mod 2 behind whole (omega arith))
    ∙ (append_assoc (bits_of old) (digits 2 (8 * octets) high) (digits 2 behind whole)
    ∙ (ap (λ xs. bits_of old ++ xs) (sym (digits-append 2 (8 * octets) behind whole) ∙ (ap (λ k. digits 2 k whole) (sym size) ∙ digits-append 2 count width whole))
    ∙ (ap (λ n. bits_of old ++ (digits 2 count n ++ digits 2 width whole)) upper
    ∙ (ap (λ xs. bits_of old ++ (digits 2 count held ++ xs)) lower
    ∙ sym (append_assoc (bits_of old) (digits 2 count held) (digits 2 width value))))))))

-- the number of all the bits
pub whole-small : (held count value width : ℕ) → held < 2 ^ count → value < 2 ^ width → held * 2 ^ width + value < 2 ^ (count + width)
whole-small held count value width small fits =
    subst (λ p. held * 2 ^ width + value < p) (commuted (2 ^ width) (2 ^ count) ∙ sym (pow-add 2 count width)) (mul-add-lt held (2 ^ width) value (2 ^ count) small fits)

-- its octets
pub high-fits : (whole octets behind all : ℕ) → whole < 2 ^ all → all ≡ 8 * octets + behind → whole / 2 ^ behind < 256 ^ octets
high-fits whole octets behind all small size =
    (div-lt_iff_lt-mul {k = 2 ^ behind} {x = whole} {y = 256 ^ octets} (pow_pos 2 behind (omega arith))).1
    (subst (λ p. whole < p) (ap (λ k. 2 ^ k) size ∙ (pow-add 2 (8 * octets) behind ∙ ap (λ p. p * 2 ^ behind) (bits_of_octets octets))) small)

-- the digits of zero
pub digits-zero : (k : ℕ) → digits 2 k 0 ≡ replicate k 0
digits-zero zero = refl
digits-zero (suc k) = ap (λ q. q % 2 ∷ digits 2 k 0) (zero-div (2 ^ k)) ∙ ap (λ ds. 0 ∷ ds) (digits-zero k)

less : (m b n : ℕ) → suc n ≤ b → m + b - suc n ≡ m + (b - suc n)
less m b n le = omega arith

one_row : (a b : ℕ) → suc a * b ≡ a * b + b
one_row a b = omega arith

split_wide : (a b n : ℕ) → 0 < a → suc n ≤ b → a * b - suc n ≡ (a - 1) * b + (b - suc n)
split_wide zero b n some le = absurd (omega (arith, some))
split_wide (suc a) b n some le = ap (λ m. m - suc n) (one_row a b) ∙ (less (a * b) b n le ∙ ap (λ k. k * b + (b - suc n)) (omega arith))

-- the last bits of a value of 128 bits
pub masked : (bits : ℕ) (v : ℤ) → bits ≤ 64 → IsHeld bits v → (cast_unsigned w128 v % 2 ^ bits ≡ twos_complement bits v) × (twos_complement bits v < 2 ^ bits)
masked bits (pos n) most held = (mod-eq_of_lt held, held)
masked bits (negsuc n) most held =
    let size : 128 ≡ 128 - bits + bits = omega (arith, most) in
    let parts : 2 ^ 128 ≡ 2 ^ (128 - bits) * 2 ^ bits = ap (λ k. 2 ^ k) size ∙ pow-add 2 (128 - bits) bits in
    let small : 2 ^ bits - suc n < 2 ^ bits = omega (arith, held) in (
      ap (λ p. (p - suc n) % 2 ^ bits) parts
          ∙ (ap (λ m. m % 2 ^ bits) (split_wide (2 ^ (128 - bits)) (2 ^ bits) n (pow_pos 2 (128 - bits) (omega arith)) held)
          ∙ mod-mul-add (2 ^ (128 - bits) - 1) (2 ^ bits) (2 ^ bits - suc n) small),
      small,
    )

-- what keeps the octets in front, step after step
pub keeps-on : (old mid new : List ℕ) → Keeps old mid → Keeps mid new → Keeps old new
keeps-on old mid new first second = (first.0 ++ second.0, second.1 ∙ (ap (λ xs. xs ++ second.0) first.1 ∙ append_assoc old first.0 second.0))
