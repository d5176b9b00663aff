-- A checksum has 16 bits, and stands behind the octets that it is of.
use Rattle.std.proofs.Common.{arith, ◌≡◌, refl, sym, ap, ◌∙◌, ℕ, zero, suc, ◌+◌, ◌-◌, ◌*◌, ◌%◌, ◌^◌, ◌<◌, List, [], ◌∷◌, ◌++◌, length, Bool, true, false, None, length-append, take, replicate}
use Rattle.std.specs.Prelude.{◌==◌}
use Rattle.std.specs.Int.Digits.{AllBelowBase}
use Rattle.std.proofs.lemmas.Int.Digits.{number_lt}
use Rattle.std.proofs.lemmas.Bool.Decides.{nat_tests}
use Rattle.std.proofs.Math.Seq.{take-append_seam, drop-append_seam}
use Rattle.std.proofs.Math.Nat.{mod-eq_of_lt}
use Rattle.std.proofs.lemmas.List.{take_all}
use Rattle.std.proofs.lemmas.List.Concat.{flat_map-cons}
use Rattle.hk_base.specs.Fields.{digits, number_of, octets_of}
use Rattle.hk_base.specs.Payload.{bits_of}
use Rattle.hk_base.proofs.FieldLemmas.{number-digits}
use Rattle.hk_base.proofs.Numbers.{number_is}
use Rattle.pus_packet.specs.Packets.{sum_onto, generator, remainder, crc, word_at, checksum_fault, checked_part}
use Rattle.pus_packet.proofs.Polynomials.{bits-append, length-sum, divided_off}
use Rattle.pus_packet.proofs.Registers.{bits-octets, bits-zeros}

bit_below : (n : ℕ) → n % 2 < 2
bit_below n = omega arith

bits-sum : (xs ys : List ℕ) → AllBelowBase 2 ys → AllBelowBase 2 (sum_onto xs ys)
bits-sum [] ys are = are
bits-sum (x ∷ xs) [] are = tt
bits-sum (x ∷ xs) (y ∷ ys) are = (bit_below (x + y), bits-sum xs ys are.1)

-- so many bits
record AreBits (n : ℕ) (list : List ℕ) : Type 0 where
  bits : AllBelowBase 2 list
  count : length list ≡ n

divided_bits : (one : Bool) (n : ℕ) (list : List ℕ) → AreBits n list → AreBits n (divided_off one list)
divided_bits false n list are = are
divided_bits true n list are = record { bits = bits-sum generator list are.bits; count = length-sum generator list ∙ are.count }

remainder-bits : (n m : ℕ) (list : List ℕ) → AreBits (n + m) list → AreBits m (remainder n list)
remainder-bits zero m list are = record { bits = are.bits; count = are.count ∙ omega arith }
remainder-bits (suc n) m [] are = absurd (omega (arith, are.count))
remainder-bits (suc n) m (x ∷ list) are =
    remainder-bits n m (divided_off (x == 1) list) (divided_bits (x == 1) (n + m) list (record { bits = are.bits.1; count = omega (arith, are.count) }))

length-bits : (octets : List ℕ) → length (bits_of octets) ≡ 8 * length octets
length-bits [] = refl
length-bits (x ∷ octets) =
    let rest = length-bits octets in
    ap length (flat_map-cons (digits 2 8) x octets) ∙ omega (arith, rest)

pub crc-below : (octets : List ℕ) → crc octets < 2 ^ 16
crc-below octets =
    let whole = sum_onto (replicate 16 1) (bits_of octets ++ replicate 16 0) in
    let are : AreBits (8 * length octets + 16) whole =
    record {
      bits = bits-sum (replicate 16 1) (bits_of octets ++ replicate 16 0) (bits-append (bits_of octets) (replicate 16 0) (bits-octets octets) (bits-zeros 16));
      count = length-sum (replicate 16 1) (bits_of octets ++ replicate 16 0) ∙ omega (arith, length-append (bits_of octets) (replicate 16 0), length-bits octets);
    } in
    let left : AreBits 16 (remainder (8 * length octets) whole) = remainder-bits (8 * length octets) 16 whole are in
    let below = number_lt 2 (remainder (8 * length octets) whole) left.bits in
    let bound : 2 ^ length (remainder (8 * length octets) whole) ≡ 2 ^ 16 = ap (λ n. 2 ^ n) left.count in
    omega (arith, number_is 2 (remainder (8 * length octets) whole), below, bound)

-- two octets behind others
pub front-again : (octets behind : List ℕ) → length behind ≡ 2 → take (length (octets ++ behind) - 2) (octets ++ behind) ≡ octets
front-again octets behind two =
    ap (λ n. take n (octets ++ behind)) (omega (arith, two, length-append octets behind)) ∙ take-append_seam octets behind

pub word-again : (octets behind : List ℕ) → length behind ≡ 2 → word_at (length (octets ++ behind) - 2) (octets ++ behind) ≡ number_of behind
word-again octets behind two =
    let place : length (octets ++ behind) - 2 ≡ length octets = omega (arith, two, length-append octets behind) in
    ap (λ n. word_at n (octets ++ behind)) place
    ∙ (ap (λ xs. number_of (take (length octets + 2 - length octets) xs)) (drop-append_seam octets behind) ∙ ap number_of (take_all (length octets + 2 - length octets) behind (omega (arith, two))))

same : (a b : ℕ) → a ≡ b → (a == b) ≡ true
same a b e = grind (arith, nat_tests)

-- octets with their checksum have no fault in it
pub checksum-again : (octets : List ℕ) → checksum_fault true (octets ++ octets_of 2 (crc octets)) ≡ None
checksum-again octets =
    let all = octets ++ octets_of 2 (crc octets) in
    let field : word_at (length all - 2) all ≡ crc octets =
    word-again octets (octets_of 2 (crc octets)) refl ∙ (number-digits 256 2 (crc octets) (omega arith) ∙ mod-eq_of_lt (crc-below octets)) in
    let computed : crc (checked_part true all) ≡ crc octets = ap crc (front-again octets (octets_of 2 (crc octets)) refl) in
    rw (same (word_at (length all - 2) all) (crc (checked_part true all)) (field ∙ sym computed)) refl
