-- The bits of octets.
use Rattle.std.proofs.Common.{◌≡◌, ◌+◌, ◌*◌, ◌/◌, ◌%◌, ◌^◌, ◌<◌, ◌≤◌, ℕ, zero, suc, List, [], ◌∷◌, ◌++◌, length, take, drop, false, refl, sym, ap, subst, ◌∙◌, arith}
use Rattle.std.specs.Prelude.{◌==◌, not}
use Rattle.std.specs.Int.Digits.{AllBelowBase}
use Rattle.std.proofs.lemmas.Int.Digits.{number_lt}
use Rattle.std.proofs.lemmas.List.{length-append, take-append-drop, drop-take, length-take-le, length-drop}
use Rattle.std.proofs.Math.Seq.{drop-nil}
use Rattle.std.proofs.lemmas.Bool.Decides.{nat_tests}
use Rattle.std.proofs.lemmas.Nat.{pow-add, div-mul-add, mod-mul-add}
use Rattle.std.proofs.Math.Nat.{mod-lt, mod-eq_of_lt}
use Rattle.hk_base.specs.Fields.{digits, number, number_of}
use Rattle.hk_base.specs.Payload.{bits_of}
use Rattle.sample_slots.specs.Reading.{is_set}
use Rattle.hk_base.proofs.FieldLemmas.{number-digits, pow_pos}
use Rattle.hk_base.proofs.Membership.{AllByRecursion-append, AllByRecursion-parts}
use Rattle.hk_base.proofs.Numbers.{IsBytes, IsBytes-take, number_is}
use Rattle.hk_base.proofs.Numbers.{bits_of_octets}

regroup : (d p q a b : ℕ) → d * (p * q) + (a * q + b) ≡ (d * p + a) * q + b
regroup d p q a b = omega arith

-- the number of digits one after the other
pub number-append : (b : ℕ) (xs ys : List ℕ) → number b (xs ++ ys) ≡ number b xs * b ^ length ys + number b ys
number-append b [] ys = omega arith
number-append b (x ∷ xs) ys =
    ap (λ k. x * b ^ k + number b (xs ++ ys)) (length-append xs ys)
    ∙ (ap (λ p. x * p + number b (xs ++ ys)) (pow-add b (length xs) (length ys))
    ∙ (ap (λ n. x * (b ^ length xs * b ^ length ys) + n) (number-append b xs ys)
    ∙ regroup x (b ^ length xs) (b ^ length ys) (number b xs) (number b ys)))

pub number-below : (bits : List ℕ) → AllBelowBase 2 bits → number 2 bits < 2 ^ length bits
number-below bits are = subst (λ n. n < 2 ^ length bits) (sym (number_is 2 bits)) (number_lt 2 bits are)

digits-below : (places n : ℕ) → AllBelowBase 2 (digits 2 places n)
digits-below zero n = tt
digits-below (suc places) n = (mod-lt (n / 2 ^ places) (omega arith), digits-below places n)

pub bits-below : (octets : List ℕ) → AllBelowBase 2 (bits_of octets)
bits-below [] = tt
bits-below (x ∷ xs) = AllByRecursion-append _ (digits 2 8 x) (bits_of xs) (digits-below 8 x) (bits-below xs)

pub length-bits_of : (octets : List ℕ) → length (bits_of octets) ≡ 8 * length octets
length-bits_of [] = refl
length-bits_of (x ∷ xs) = omega (arith, length-bits_of xs)

eight : (n : ℕ) → 8 * suc n ≡ suc (suc (suc (suc (suc (suc (suc (suc (8 * n))))))))
eight n = omega arith

-- whole octets of bits are the bits of whole octets
pub take-bits_of : (n : ℕ) (octets : List ℕ) → take (8 * n) (bits_of octets) ≡ bits_of (take n octets)
take-bits_of zero octets = refl
take-bits_of (suc n) [] = ap (λ k. take {A = ℕ} k []) (eight n)
take-bits_of (suc n) (x ∷ xs) = ap (λ k. take k (bits_of (x ∷ xs))) (eight n) ∙ ap (λ bits. digits 2 8 x ++ bits) (take-bits_of n xs)

pub drop-bits_of : (n : ℕ) (octets : List ℕ) → drop (8 * n) (bits_of octets) ≡ bits_of (drop n octets)
drop-bits_of zero octets = refl
drop-bits_of (suc n) [] = ap (λ k. drop {A = ℕ} k []) (eight n)
drop-bits_of (suc n) (x ∷ xs) = ap (λ k. drop k (bits_of (x ∷ xs))) (eight n) ∙ drop-bits_of n xs

pub IsBytes-drop : (n : ℕ) (octets : List ℕ) → IsBytes octets → IsBytes (drop n octets)
IsBytes-drop zero octets are = are
IsBytes-drop (suc n) [] are = are
IsBytes-drop (suc n) (x ∷ xs) are = IsBytes-drop n xs (λ i. are (suc i))

-- bits make the number that their octets make
pub number-bits_of : (octets : List ℕ) → IsBytes octets → number 2 (bits_of octets) ≡ number_of octets
number-bits_of [] are = refl
number-bits_of (x ∷ xs) are =
    number-append 2 (digits 2 8 x) (bits_of xs)
    ∙ (ap (λ n. n * 2 ^ length (bits_of xs) + number 2 (bits_of xs)) (number-digits 2 8 x (omega arith) ∙ mod-eq_of_lt (are 0))
    ∙ (ap (λ n. x * 2 ^ n + number 2 (bits_of xs)) (length-bits_of xs)
    ∙ (ap (λ n. x * n + number 2 (bits_of xs)) (bits_of_octets (length xs))
    ∙ ap (λ n. x * 256 ^ length xs + n) (number-bits_of xs (λ i. are (suc i))))))

pub drop-sum : {X : Type 0} (m n k : ℕ) (xs : List X) → k ≡ m + n → drop k xs ≡ drop n (drop m xs)
drop-sum zero n k xs e = ap (λ i. drop i xs) (omega (arith, e))
drop-sum (suc m) n zero xs e = absurd (omega (arith, e))
drop-sum (suc m) n (suc k) [] e = sym (drop-nil n)
drop-sum (suc m) n (suc k) (x ∷ xs) e = drop-sum m n k xs (omega (arith, e))

pub take-take : {X : Type 0} (w m : ℕ) (xs : List X) → w ≤ m → take w (take m xs) ≡ take w xs
take-take zero m xs le = refl
take-take (suc w) zero xs le = absurd (omega (arith, le))
take-take (suc w) (suc m) [] le = refl
take-take (suc w) (suc m) (x ∷ xs) le = ap (λ ys. x ∷ ys) (take-take w m xs (omega (arith, le)))

pub parts-below : (n : ℕ) (bits : List ℕ) → AllBelowBase 2 bits → AllBelowBase 2 (take n bits) × AllBelowBase 2 (drop n bits)
parts-below n bits are = AllByRecursion-parts _ (take n bits) (drop n bits) (subst (λ bs. AllBelowBase 2 bs) (sym (take-append-drop n bits)) are)

joined : (a b c p q : ℕ) → a * (p * q) + (b * q + c) ≡ (a * p + b) * q + c
joined a b c p q = omega arith

-- the number of bits between others, by division
between : (before width behind : ℕ) (bits : List ℕ) → AllBelowBase 2 bits → length bits ≡ before + (width + behind)
    → number 2 (take width (drop before bits)) ≡ number 2 bits / 2 ^ behind % 2 ^ width
between before width behind bits are size = sym (ap (λ n. n / 2 ^ behind % 2 ^ width) whole ∙ (ap (λ n. n % 2 ^ width) (div-mul-add (number 2 (take before bits) * 2 ^ width + number 2 (take width (drop before bits))) (2 ^ behind) (number 2 (drop width (drop before bits))) small_c) ∙ mod-mul-add (number 2 (take before bits)) (2 ^ width) (number 2 (take width (drop before bits))) small_b))
  where
    length-rest : length (drop before bits) ≡ width + behind
    length-rest = omega (arith, length-drop before bits, size)

    length-b : length (take width (drop before bits)) ≡ width
    length-b = length-take-le width (drop before bits) (omega (arith, length-rest))

    length-c : length (drop width (drop before bits)) ≡ behind
    length-c = omega (arith, length-drop width (drop before bits), length-rest)

    small_b : number 2 (take width (drop before bits)) < 2 ^ width
    small_b = subst (λ k. number 2 (take width (drop before bits)) < 2 ^ k) length-b (number-below (take width (drop before bits)) (parts-below width (drop before bits) (parts-below before bits are).1).0)

    small_c : number 2 (drop width (drop before bits)) < 2 ^ behind
    small_c = subst (λ k. number 2 (drop width (drop before bits)) < 2 ^ k) length-c (number-below (drop width (drop before bits)) (parts-below width (drop before bits) (parts-below before bits are).1).1)

    inner : number 2 (drop before bits) ≡ number 2 (take width (drop before bits)) * 2 ^ behind + number 2 (drop width (drop before bits))
    inner =
        ap (λ bs. number 2 bs) (sym (take-append-drop width (drop before bits)))
        ∙ (number-append 2 (take width (drop before bits)) (drop width (drop before bits))
        ∙ ap (λ k. number 2 (take width (drop before bits)) * 2 ^ k + number 2 (drop width (drop before bits))) length-c)

    whole : number 2 bits ≡ (number 2 (take before bits) * 2 ^ width + number 2 (take width (drop before bits))) * 2 ^ behind + number 2 (drop width (drop before bits))
    whole =
        ap (λ bs. number 2 bs) (sym (take-append-drop before bits))
        ∙ (number-append 2 (take before bits) (drop before bits)
        ∙ (ap (λ k. number 2 (take before bits) * 2 ^ k + number 2 (drop before bits)) length-rest
        ∙ (ap (λ p. number 2 (take before bits) * p + number 2 (drop before bits)) (pow-add 2 width behind)
        ∙ (ap (λ n. number 2 (take before bits) * (2 ^ width * 2 ^ behind) + n) inner
        ∙ joined (number 2 (take before bits)) (number 2 (take width (drop before bits))) (number 2 (drop width (drop before bits))) (2 ^ width) (2 ^ behind)))))

-- the number of bits of octets, from the octets in which they lie
pub number-between : (octets : List ℕ) (q before width behind count : ℕ) → IsBytes octets → count ≤ length (drop q octets) → 8 * count ≡ before + (width + behind)
    → number 2 (take width (drop (8 * q + before) (bits_of octets))) ≡ number_of (take count (drop q octets)) / 2 ^ behind % 2 ^ width
number-between octets q before width behind count are enough size =
    ap (λ bs. number 2 (take width bs)) (drop-sum (8 * q) before (8 * q + before) (bits_of octets) refl ∙ ap (λ bs. drop before bs) (drop-bits_of q octets))
    ∙ (ap (λ bs. number 2 bs) (sym (take-take width (width + behind) (drop before (bits_of field)) (omega arith)))
    ∙ (ap (λ bs. number 2 (take width bs)) (sym (drop-take before (width + behind) (bits_of field)))
    ∙ (ap (λ k. number 2 (take width (drop before (take k (bits_of field))))) (sym size)
    ∙ (ap (λ bs. number 2 (take width (drop before bs))) (take-bits_of count field)
    ∙ (between before width behind (bits_of (take count field)) (bits-below (take count field)) (length-bits_of (take count field) ∙ (ap (λ k. 8 * k) (length-take-le count field enough) ∙ size))
    ∙ ap (λ n. n / 2 ^ behind % 2 ^ width) (number-bits_of (take count field) (IsBytes-take count field (IsBytes-drop q octets are))))))))
  where
    field : List ℕ
    field = drop q octets

pub positive : (n : ℕ) → 0 < n → (n == 0) ≡ false
positive n h = grind (arith, nat_tests)

-- bits of which one is 1 make a number above 0
pub is_set-number : (bits : List ℕ) → AllBelowBase 2 bits → is_set bits ≡ not (number 2 bits == 0)
is_set-number [] are = refl
is_set-number (zero ∷ bits) are = is_set-number bits are.1 ∙ ap (λ n. not (n == 0)) (omega arith)
is_set-number (suc zero ∷ bits) are = sym (ap not (positive (1 * 2 ^ length bits + number 2 bits) (omega (arith, pow_pos 2 (length bits) (omega arith)))))
is_set-number (suc (suc x) ∷ bits) are = absurd (omega (arith, are.0))
