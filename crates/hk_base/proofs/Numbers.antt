-- Numbers of octets, and halves of powers of two.
use Rattle.std.proofs.Common.{◌≡◌, ◌<◌, ◌≤◌, ◌+◌, ◌-◌, ◌*◌, ◌/◌, ◌^◌, ◌%◌, ℕ, zero, suc, ℤ, pos, negsuc, true, false, List, [], ◌∷◌, length, take, drop, get_or, refl, sym, ap, subst, arith, ◌∙◌}
use Rattle.std.specs.Prelude.{nat_lt}
use Rattle.std.specs.Int.{bytes_high_first, cast_unsigned, w128}
use Rattle.std.specs.Int.Digits.{number_from_digits, number_from_digits_after, AllBelowBase}
use Rattle.std.proofs.lemmas.Int.Digits.{number_lt, number_more}
use Rattle.std.proofs.lemmas.Nat.{one_shl, pow-add}
use Rattle.std.proofs.lemmas.Bool.Decides.{nat_tests}
use Rattle.std.proofs.Math.Nat.{pow-le-pow_right, pow-zero, pow-suc, pow-succ', mul-add-div_right, mul-add-mod_self_right}
use Rattle.std.proofs.lemmas.List.{length-take, take_all, length-take-le}
use Rattle.hk_base.specs.Fields.{FitsSignedOctets, digits, number, number_of, octets_of, signed_octets_of, signed_of, twos_complement}
use Rattle.hk_base.proofs.FieldLemmas.{pow_pos}

-- each is an octet
abbrev pub IsBytes : List ℕ → Type 0
IsBytes bytes = (i : ℕ) → get_or bytes i 0 < 256

pub IsBytes-below : (bytes : List ℕ) → IsBytes bytes → AllBelowBase 256 bytes
IsBytes-below [] are = tt
IsBytes-below (b ∷ bytes) are = (are 0, IsBytes-below bytes (λ i. are (suc i)))

pub IsBytes-take : (n : ℕ) (bytes : List ℕ) → IsBytes bytes → IsBytes (take n bytes)
IsBytes-take zero bytes are i = omega arith
IsBytes-take (suc n) [] are i = omega arith
IsBytes-take (suc n) (b ∷ bytes) are zero = are 0
IsBytes-take (suc n) (b ∷ bytes) are (suc i) = IsBytes-take n bytes (λ k. are (suc k)) i

carry : (n b d p m : ℕ) → (n * b + d) * p + m ≡ n * (p * b) + (d * p + m)
carry n b d p m = omega arith

-- the number of digits, onto a number before them
pub number_after : (b n : ℕ) (ds : List ℕ) → number_from_digits_after b n ds ≡ n * b ^ length ds + number b ds
number_after b n [] = rw (pow-zero b) (omega arith)
number_after b n (d ∷ ds) =
    number_after b (n * b + d) ds ∙ (carry n b d (b ^ length ds) (number b ds) ∙ ap (λ k. n * k + (d * b ^ length ds + number b ds)) (sym (pow-suc b (length ds))))

-- the number of digits, as the library has it
pub number_is : (b : ℕ) (ds : List ℕ) → number b ds ≡ number_from_digits b ds
number_is b ds = sym (number_after b 0 ds ∙ omega arith)

-- octets of a number, as the library has them
pub octets_are : (n v : ℕ) → octets_of n v ≡ bytes_high_first n v
octets_are zero v = refl
octets_are (suc zero) v = ap (λ k. k % 256 ∷ []) (omega arith)
octets_are (suc (suc n)) v = ap (λ xs. v / 256 ^ suc n % 256 ∷ xs) (octets_are (suc n) v)

pub number_bound : (n : ℕ) (bytes : List ℕ) → IsBytes bytes → length bytes ≤ n → number_of bytes < 256 ^ n
number_bound n bytes are le =
    omega (arith, number_is 256 bytes, number_lt 256 bytes (IsBytes-below bytes are), pow-le-pow_right {n = 256} (omega arith) le)

-- one more octet
pub number_of_more : (bytes : List ℕ) (i : ℕ) → i < length bytes → number_of (take (i + 1) bytes) ≡ number_of (take i bytes) * 256 + get_or bytes i 0
number_of_more bytes i h =
    number_is 256 (take (i + 1) bytes) ∙ (number_more 256 bytes i h ∙ ap (λ n. n * 256 + get_or bytes i 0) (sym (number_is 256 (take i bytes))))

-- one more octet fits 128 bits
pub one_more_fits : (bytes : List ℕ) (i : ℕ) → IsBytes bytes → length bytes ≤ 16 → i < length bytes → number_of (take i bytes) * 256 + get_or bytes i 0 < 2 ^ 128
one_more_fits bytes i are le h =
    rw (← number_of_more bytes i h) (number_bound 16 (take (i + 1) bytes) (IsBytes-take (i + 1) bytes are) (omega (arith, length-take (i + 1) bytes)))

-- the last n of m octets
pub drop-bytes_high_first : (k m n v : ℕ) → m ≡ k + n → drop k (bytes_high_first m v) ≡ bytes_high_first n v
drop-bytes_high_first zero m n v e = ap (λ i. bytes_high_first i v) (omega (arith, e))
drop-bytes_high_first (suc k) zero n v e = absurd (omega arith)
drop-bytes_high_first (suc k) (suc m) n v e = drop-bytes_high_first k m n v (omega (arith, e))

length-bytes_high_first : (n v : ℕ) → length (bytes_high_first n v) ≡ n
length-bytes_high_first zero v = refl
length-bytes_high_first (suc n) v = ap suc (length-bytes_high_first n v)

-- the last octets of the 16 of a number
pub last_octets : (octets value : ℕ) (all : List ℕ) → octets ≤ 16 → all ≡ bytes_high_first 16 value → take (16 - (16 - octets)) (drop (16 - octets) all) ≡ octets_of octets value
last_octets octets value all le e =
    let last : drop (16 - octets) all ≡ bytes_high_first octets value = ap (λ xs. drop (16 - octets) xs) e ∙ drop-bytes_high_first (16 - octets) 16 octets value (omega (arith, le)) in
    ap (λ xs. take (16 - (16 - octets)) xs) last
    ∙ (take_all (16 - (16 - octets)) (bytes_high_first octets value) (omega (arith, le, length-bytes_high_first octets value)) ∙ sym (octets_are octets value))

-- half of what so many bits can be
pub record IsHalf (bits shifted : ℕ) : Type 0 where
  pub half : shifted ≡ 2 ^ (bits - 1)
  pub whole : 2 ^ bits ≡ 2 * shifted
  pub small : shifted ≤ 2 ^ 127

pub half_of : (bits : ℕ) → 1 ≤ bits → bits ≤ 128 → IsHalf bits (1 * 2 ^ (bits - 1) % 2 ^ 128)
half_of bits low high =
    let shl = one_shl (bits - 1) 128 (omega (arith, low, high)) in
    let next : bits ≡ suc (bits - 1) = omega (arith, low) in
    record {
      half = shl;
      whole = ap (λ b. 2 ^ b) next ∙ (pow-succ' 2 (bits - 1) ∙ ap (λ x. 2 * x) (sym shl));
      small = subst (λ x. x ≤ 2 ^ 127) (sym shl) (pow-le-pow_right {n = 2} (omega arith) {i = bits - 1} {j = 127} (omega (arith, high)));
    }

pub pow_of_octets : (n : ℕ) → 256 ^ n ≡ 2 ^ (8 * n)
pow_of_octets zero = refl
pow_of_octets (suc n) = pow-suc 256 n ∙ (ap (λ x. x * 256) (pow_of_octets n) ∙ (sym (pow-add 2 (8 * n) 8) ∙ ap (λ x. 2 ^ x) (omega arith)))

-- eight bits an octet
pub bits_of_octets : (n : ℕ) → 2 ^ (8 * n) ≡ 256 ^ n
bits_of_octets n = sym (pow_of_octets n)

pub signed_of-below : (bits number : ℕ) → 2 * number < 2 ^ bits → signed_of bits number ≡ pos number
signed_of-below bits number below = let low : nat_lt (2 * number) (2 ^ bits) ≡ true = grind (arith, nat_tests) in rw low refl

pub signed_of-above : (bits number : ℕ) → 2 ^ bits ≤ 2 * number → signed_of bits number ≡ negsuc (2 ^ bits - suc number)
signed_of-above bits number above = let high : nat_lt (2 * number) (2 ^ bits) ≡ false = grind (arith, nat_tests) in rw high refl

-- so many octets are so long
pub length-take_within : (n : ℕ) (bytes : List ℕ) → n ≤ length bytes → length (take n bytes) ≡ n
length-take_within n bytes h = length-take-le n bytes h

widen : (q b p n : ℕ) → q * (p * b) + n ≡ q * b * p + n
widen q b p n = omega arith

-- what lies above the digits makes no difference to them
pub digits_below : (b k q n : ℕ) → 0 < b → digits b k (q * b ^ k + n) ≡ digits b k n
digits_below b zero q n base = refl
digits_below b (suc k) q n base =
    let whole : q * b ^ suc k + n ≡ q * b * b ^ k + n = ap (λ p. q * p + n) (pow-suc b k) ∙ widen q b (b ^ k) n in
    let head : (q * b * b ^ k + n) / b ^ k % b ≡ n / b ^ k % b = ap (λ x. x % b) (mul-add-div_right (pow_pos b k base) (q * b) n) ∙ mul-add-mod_self_right q b (n / b ^ k) in
    ap (λ m. m / b ^ k % b ∷ digits b k m) whole ∙ (ap (λ d. d ∷ digits b k (q * b * b ^ k + n)) head ∙ ap (λ ds. n / b ^ k % b ∷ ds) (digits_below b k (q * b) n base))

-- a number of 128 bits in two's complement
cast_is : (z : ℤ) → cast_unsigned w128 z ≡ twos_complement 128 z
cast_is (pos n) = refl
cast_is (negsuc n) = refl

one_row : (a b : ℕ) → suc a * b ≡ a * b + b
one_row a b = omega arith

less : (m b n : ℕ) → suc n ≤ b → m + b - suc n ≡ m + (b - suc n)
less m b n le = omega arith

split_wide : (a b n : ℕ) → 0 < a → suc n ≤ b → a * b - suc n ≡ (a - 1) * b + (b - suc n)
split_wide zero b n some le = absurd (omega arith)
split_wide (suc a) b n some le = ap (λ m. m - suc n) (one_row a b) ∙ (less (a * b) b n le ∙ ap (λ k. k * b + (b - suc n)) (omega arith))

sixteen : (octets : ℕ) → octets ≤ 16 → 2 ^ 128 ≡ 256 ^ (16 - octets) * 256 ^ octets
sixteen octets le = let e : 16 ≡ 16 - octets + octets = omega (arith, le) in ap (λ k. 256 ^ k) e ∙ pow-add 256 (16 - octets) octets

-- the octets of a signed number are the same however wide it is
pub narrow : (octets : ℕ) (z : ℤ) → octets ≤ 16 → FitsSignedOctets octets z → octets_of octets (cast_unsigned w128 z) ≡ signed_octets_of octets z
narrow octets (pos n) le fits = refl
narrow octets (negsuc n) le fits =
    let within : suc n ≤ 256 ^ octets = omega (arith, fits, pow_of_octets octets) in
    let high = 256 ^ (16 - octets) in
    let wide : 2 ^ 128 - suc n ≡ (high - 1) * 256 ^ octets + (256 ^ octets - suc n) = ap (λ m. m - suc n) (sixteen octets le) ∙ split_wide high (256 ^ octets) n (pow_pos 256 (16 - octets) (omega arith)) within in
    ap (λ m. octets_of octets m) wide ∙ (digits_below 256 octets (high - 1) (256 ^ octets - suc n) (omega arith) ∙ ap (λ m. octets_of octets (m - suc n)) (pow_of_octets octets))
