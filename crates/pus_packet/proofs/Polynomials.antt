-- Division of polynomials over two elements, by a part of the bits at a time.
use Rattle.std.proofs.Common.{arith, ◌≡◌, refl, sym, ap, ◌∙◌, ℕ, zero, suc, ◌+◌, ◌/◌, ◌%◌, ◌^◌, ◌<◌, ◌≤◌, List, [], ◌∷◌, ◌++◌, length, Bool, true, false, replicate, take, drop, zero-add}
use Rattle.std.specs.Prelude.{◌==◌, if◌then◌else◌, bit_xor}
use Rattle.std.specs.Int.Digits.{AllBelowBase}
use Rattle.std.proofs.lemmas.List.{length-drop}
use Rattle.std.proofs.lemmas.Nat.{mod_below}
use Rattle.std.proofs.lemmas.Nat.Bits.{bit_at_xor}
use Rattle.hk_base.specs.Fields.{digits}
use Rattle.pus_packet.specs.Packets.{sum_onto, generator, remainder}

-- the front of a sum, and what follows it
pub sum-append : (g xs ys : List ℕ) → sum_onto g (xs ++ ys) ≡ sum_onto (take (length xs) g) xs ++ sum_onto (drop (length xs) g) ys
sum-append g [] ys = refl
sum-append [] (x ∷ xs) ys = refl
sum-append (g ∷ gs) (x ∷ xs) ys = ap (λ zs. (g + x) % 2 ∷ zs) (sum-append gs xs ys)

pub length-sum : (xs ys : List ℕ) → length (sum_onto xs ys) ≡ length ys
length-sum [] ys = refl
length-sum (x ∷ xs) [] = refl
length-sum (x ∷ xs) (y ∷ ys) = ap suc (length-sum xs ys)

regroup : (x y z : ℕ) → (x + (y + z) % 2) % 2 ≡ ((x + y) % 2 + z) % 2
regroup x y z = omega arith

pub sum-sum : (xs ys zs : List ℕ) → length xs ≤ length ys → sum_onto xs (sum_onto ys zs) ≡ sum_onto (sum_onto xs ys) zs
sum-sum [] ys zs le = refl
sum-sum (x ∷ xs) [] zs le = absurd (omega (arith, le))
sum-sum (x ∷ xs) (y ∷ ys) [] le = refl
sum-sum (x ∷ xs) (y ∷ ys) (z ∷ zs) le = rw (regroup x y z, sum-sum xs ys zs (omega (arith, le))) refl

-- the digits of two numbers sum up to those of their exclusive or
pub sum-digits : (n a b : ℕ) → sum_onto (digits 2 n a) (digits 2 n b) ≡ digits 2 n (bit_xor a b)
sum-digits zero a b = refl
sum-digits (suc n) a b = rw (bit_at_xor a b n, sum-digits n a b) refl

pub bits-digits : (n a : ℕ) → AllBelowBase 2 (digits 2 n a)
bits-digits zero a = tt
bits-digits (suc n) a = (mod_below (a / 2 ^ n) 2 (omega arith), bits-digits n a)

pub bits-append : (xs ys : List ℕ) → AllBelowBase 2 xs → AllBelowBase 2 ys → AllBelowBase 2 (xs ++ ys)
bits-append [] ys are also = also
bits-append (x ∷ xs) ys are also = (are.0, bits-append xs ys are.1 also)

bit-again : (x : ℕ) → x < 2 → (0 + x) % 2 ≡ x
bit-again x small = omega (arith, small)

-- nothing is added to bits
pub sum-zeros : (n : ℕ) (bits : List ℕ) → AllBelowBase 2 bits → sum_onto (replicate n 0) bits ≡ bits
sum-zeros zero bits are = refl
sum-zeros (suc n) [] are = refl
sum-zeros (suc n) (x ∷ bits) are = rw (bit-again x are.0, sum-zeros n bits are.1) refl

-- the bits behind one that is divided off
abbrev pub divided_off : Bool → List ℕ → List ℕ
divided_off one bits = if one then sum_onto generator bits else bits

length-divided_off : (one : Bool) (bits : List ℕ) → length (divided_off one bits) ≡ length bits
length-divided_off false bits = refl
length-divided_off true bits = length-sum generator bits

one_more : (one : Bool) (n : ℕ) (front a tail : List ℕ)
    → length front ≤ 16
    → length a ≡ 16
    → ((f c : List ℕ) → length f ≡ length front → length c ≡ 16 → remainder n (f ++ sum_onto c tail) ≡ sum_onto (remainder n (f ++ c)) tail)
    → remainder n (divided_off one (front ++ sum_onto a tail)) ≡ sum_onto (remainder n (divided_off one (front ++ a))) tail
one_more false n front a tail short al again = again front a refl al
one_more true n front a tail short al again =
    let k = length front in
    let behind : sum_onto (drop k generator) (sum_onto a tail) ≡ sum_onto (sum_onto (drop k generator) a) tail =
    sum-sum (drop k generator) a tail (omega (arith, al, length-drop k generator)) in
    ap (remainder n) (sum-append generator front (sum_onto a tail) ∙ ap (λ zs. sum_onto (take k generator) front ++ zs) behind)
    ∙ (again (sum_onto (take k generator) front) (sum_onto (drop k generator) a) (length-sum (take k generator) front) (length-sum (drop k generator) a ∙ al)
    ∙ ap (λ zs. sum_onto (remainder n zs) tail) (sym (sum-append generator front a)))

-- What is left of a front doesn't depend on what is added behind it.
pub remainder-sum : (n : ℕ) (front a tail : List ℕ) → length front ≡ n → n ≤ 16 → length a ≡ 16
    → remainder n (front ++ sum_onto a tail) ≡ sum_onto (remainder n (front ++ a)) tail
remainder-sum zero [] a tail fl small al = refl
remainder-sum zero (x ∷ front) a tail fl small al = absurd (omega (arith, fl))
remainder-sum (suc n) [] a tail fl small al = absurd (omega (arith, fl))
remainder-sum (suc n) (x ∷ front) a tail fl small al =
    one_more (x == 1) n front a tail (omega (arith, fl, small)) al
    (λ f c e l. remainder-sum n f c tail (e ∙ omega (arith, fl)) (omega (arith, small)) l)

remainder-nil : (n : ℕ) → remainder n [] ≡ []
remainder-nil zero = refl
remainder-nil (suc n) = refl

next : (m n : ℕ) → suc m + n ≡ suc (m + n)
next m n = omega arith

-- a division in two parts
pub remainder-add : (m n : ℕ) (bits : List ℕ) → remainder (m + n) bits ≡ remainder n (remainder m bits)
remainder-add zero n bits = ap (λ k. remainder k bits) (zero-add n)
remainder-add (suc m) n [] = remainder-nil (suc m + n) ∙ sym (remainder-nil n)
remainder-add (suc m) n (x ∷ bits) = ap (λ k. remainder k (x ∷ bits)) (next m n) ∙ remainder-add m n (divided_off (x == 1) bits)
