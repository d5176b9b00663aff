-- Words of numbers, read as those numbers.
use Rattle.std.proofs.Common.{◌≡◌, ℕ, suc, ◌+◌, ◌-◌, ◌/◌, ◌%◌, ◌^◌, ◌<◌, ◌≤◌, ℤ, pos, negsuc, neg_ℤ, Bool, true, false, List, [], ◌∷◌, ◌++◌, length, refl, ap, ◌∙◌, arith}
use Rattle.std.specs.Prelude.{◌==◌, nat_lt, if◌then◌else◌, nat_abs}
use Rattle.std.specs.List.{AllByRecursion}
use Rattle.std.specs.Int.{IsInRange}
use Rattle.std.specs.Fmt.{decimal, signed_decimal}
use Rattle.std.proofs.lemmas.Fmt.{decimal_by_steps_wide, decimal_is_IsNumeral_wide}
use Rattle.std.proofs.lemmas.Str.Parse.{IsDigitsTest, IsNumeralModel, numerals_by_value}
use Rattle.std.specs.Str.Parse.{digits_value}
use Rattle.std.proofs.lemmas.Bool.Decides.{nat_tests}
use Rattle.hk_base.specs.Fields.{FitsSignedOctets}
use Rattle.message_words.specs.Words.{hex, hex_digit}
use Rattle.message_words.specs.Numbers.{with_digit, number_from, number_in, wide_number_in, value_in, hex_value}

-- octets that are decimal digits
abbrev pub AreDigits : List ℕ → Type 0
AreDigits ds = AllByRecursion (λ c. IsInRange 48 57 c) ds

tells_digits : IsDigitsTest AreDigits
tells_digits = record { empty = tt; parts = λ c cs h. (h.0, h.1); more = λ c cs one all. (one, all) }

digits_model : IsNumeralModel AreDigits (digits_value 10)
digits_model = numerals_by_value AreDigits tells_digits

-- a number's text is of digits
pub decimal-digits : (n : ℕ) → n < 10 ^ 64 → AreDigits (decimal n)
decimal-digits n l = digits_model.from (decimal n) (decimal_is_IsNumeral_wide n l).0.1

number_from-append : (most n : ℕ) (xs ys : List ℕ) → number_from most n (xs ++ ys) ≡ number_from most (number_from most n xs) ys
number_from-append most n [] ys = refl
number_from-append most n (x ∷ xs) ys = number_from-append most (with_digit most n x) xs ys

first_digit : (most n : ℕ) → n ≤ most → with_digit most 0 (48 + n) ≡ n
first_digit most n l = omega arith

next_digit : (most n : ℕ) → n ≤ most → with_digit most (n / 10) (48 + n % 10) ≡ n
next_digit most n l = omega arith

number_from-decimal : (most n : ℕ) → n ≤ most → n < 10 ^ 64 → number_from most 0 (decimal n) ≡ n
number_from-decimal most n few l =
    decimal_by_steps_wide (λ k ds. k ≤ most → number_from most 0 ds ≡ k)
    (λ k low h. first_digit most k h)
    (λ k ds high ih h.
    number_from-append most 0 ds ((48 + k % 10) ∷ []) ∙ ap (λ front. with_digit most front (48 + k % 10)) (ih (omega arith)) ∙ next_digit most k h)
    n l few

-- a number of 32 bits is read from its text
pub number_in-decimal : (n : ℕ) → n < 2 ^ 32 → number_in (decimal n) ≡ n
number_in-decimal n l = number_from-decimal (2 ^ 32 - 1) n (omega arith) (omega arith)

-- a number of 64 bits is read from its text
pub wide_number_in-decimal : (n : ℕ) → n < 2 ^ 64 → wide_number_in (decimal n) ≡ n
wide_number_in-decimal n l = number_from-decimal (2 ^ 64 - 1) n (omega arith) (omega arith)

value_in-digits : (ds : List ℕ) → AreDigits ds → 0 < length ds → value_in ds ≡ pos (number_from (2 ^ 127 - 1) 0 ds)
value_in-digits [] are l = absurd (omega arith)
value_in-digits (c ∷ cs) are l =
    let other : (c == 45) ≡ false = grind (arith, are.0) in
    ap (λ (b : Bool). if b then neg_ℤ (pos (number_from (2 ^ 127) 0 cs)) else pos (number_from (2 ^ 127 - 1) 0 (c ∷ cs))) other

-- a value of 128 bits is read from its text
pub value_in-text : (v : ℤ) → FitsSignedOctets 16 v → value_in (signed_decimal v) ≡ v
value_in-text (pos n) fits =
    let few : n < 10 ^ 64 = omega (arith, fits) in
    value_in-digits (decimal n) (decimal-digits n few) (decimal_is_IsNumeral_wide n few).0.0
    ∙ ap pos (number_from-decimal (2 ^ 127 - 1) n (omega (arith, fits)) few)
value_in-text (negsuc n) fits = ap (λ k. neg_ℤ (pos k)) (number_from-decimal (2 ^ 127) (suc n) (omega (arith, fits)) (omega (arith, fits)))

small_fits : (v : ℤ) → nat_abs v < 2 ^ 64 → FitsSignedOctets 16 v
small_fits (pos n) l = omega arith
small_fits (negsuc n) l = omega arith

-- a value whose magnitude has 64 bits is read from its text
pub value_in-decimal : (v : ℤ) → nat_abs v < 2 ^ 64 → value_in (signed_decimal v) ≡ v
value_in-decimal v l = value_in-text v (small_fits v l)

hex_low : (n : ℕ) (b : Bool) → b ≡ true → (if b then 48 + n - 48 else 48 + n - 87) ≡ n
hex_low n b e = ap (λ (b : Bool). if b then 48 + n - 48 else 48 + n - 87) e ∙ omega arith

hex_high : (n : ℕ) (b : Bool) → b ≡ false → (if b then 87 + n - 48 else 87 + n - 87) ≡ n
hex_high n b e = ap (λ (b : Bool). if b then 87 + n - 48 else 87 + n - 87) e ∙ omega arith

hex_by : (n : ℕ) (b : Bool) → nat_lt n 10 ≡ b → n < 16 → hex_value ((if b then 48 + n else 87 + n) ∷ []) ≡ n
hex_by n true e l = hex_low n (nat_lt (48 + n) 58) (grind (arith, nat_tests))
hex_by n false e l = hex_high n (nat_lt (87 + n) 58) (grind (arith, nat_tests))

-- a digit to the base 16 is read from its text
pub hex_value-hex : (n : ℕ) → n < 16 → hex_value (hex 1 n) ≡ n
hex_value-hex n l =
    let same : n / 1 % 16 ≡ n = omega arith in
    ap (λ k. hex_value (hex_digit k ∷ [])) same ∙ hex_by n (nat_lt n 10) refl l
