-- A register of 16 bits holds what is to be added to the octets that come.
use Rattle.std.proofs.Common.{arith, ◌≡◌, refl, sym, ap, ◌∙◌, ℕ, zero, suc, ◌+◌, ◌*◌, ◌/◌, ◌%◌, ◌^◌, ◌<◌, List, [], ◌∷◌, ◌++◌, length, get_or, replicate, take, append_assoc, subst, lit<, lit≤}
use Rattle.std.specs.Prelude.{bit_xor}
use Rattle.std.specs.Int.Digits.{AllBelowBase}
use Rattle.std.specs.Int.Bits.{xor_zero_r}
use Rattle.std.proofs.lemmas.Nat.{xor_comm, xor_of_8}
use Rattle.std.proofs.lemmas.List.Concat.{flat_map-cons}
use Rattle.std.proofs.Math.Nat.{mod-eq_of_lt}
use Rattle.hk_base.specs.Fields.{digits, number}
use Rattle.hk_base.specs.Payload.{bits_of}
use Rattle.hk_base.proofs.FieldLemmas.{number-digits}
use Rattle.pus_packet.specs.Packets.{sum_onto, remainder, crc}
use Rattle.pus_packet.proofs.Polynomials.{sum-sum, sum-append, sum-digits, bits-digits, bits-append, sum-zeros, remainder-sum, remainder-add}
use Rattle.pus_packet.proofs.Table.{table-row}
use Rattle.pus_packet.specs.declared.checksum.TheConstants.{TABLE}

-- what is left of octets, with a register added to their first bits
pub left_by : ℕ → List ℕ → ℕ
left_by register octets = number 2 (remainder (8 * length octets) (sum_onto (digits 2 16 register) (bits_of octets ++ replicate 16 0)))

pub left-start : (octets : List ℕ) → left_by 0xffff octets ≡ crc octets
unfolding left_by
left-start octets = refl

-- a register with nothing added
sum-nothing : (register : ℕ) → sum_onto (digits 2 16 register) (replicate 16 0) ≡ digits 2 16 register
sum-nothing register = sum-digits 16 register 0 ∙ ap (digits 2 16) (xor_zero_r register)

pub left-end : (register : ℕ) → register < 2 ^ 16 → left_by register [] ≡ register
unfolding left_by
left-end register fits = ap (number 2) (sum-nothing register) ∙ (number-digits 2 16 register (omega arith) ∙ mod-eq_of_lt fits)

pub both : {x y : ℕ} {xs ys : List ℕ} → x ≡ y → xs ≡ ys → x ∷ xs ≡ y ∷ ys
both p q = rw (p, q) refl

-- the high half of a register
high : (register : ℕ) → take 8 (digits 2 16 register) ≡ digits 2 8 (register / 256)
high register = both (omega arith) (both (omega arith) (both (omega arith) (both (omega arith) (both (omega arith) (both (omega arith) (both (omega arith) (both (omega arith) refl)))))))

-- a register moved up by an octet
low : (register : ℕ) → sum_onto (digits 2 8 register) (replicate 16 0) ≡ digits 2 16 (register * 256 % 65536)
low register = both (omega arith) (both (omega arith) (both (omega arith) (both (omega arith) (both (omega arith) (both (omega arith) (both (omega arith) (both (omega arith) (both (omega arith) (both (omega arith) (both (omega arith) (both (omega arith) (both (omega arith) (both (omega arith) (both (omega arith) (both (omega arith) refl)))))))))))))))

-- a register with an octet added to its high half, which is moved out
abbrev pub next_register : ℕ → ℕ → ℕ
next_register register octet = bit_xor (register * 256 % 65536) (get_or TABLE (bit_xor (register / 256) octet) 0)

-- an octet in front, and a register on it and on what follows
front-of : (register octet : ℕ) (bits : List ℕ) → AllBelowBase 2 bits
    → sum_onto (digits 2 16 register) (digits 2 8 octet ++ bits) ≡ digits 2 8 (bit_xor (register / 256) octet) ++ sum_onto (digits 2 16 (register * 256 % 65536)) bits
front-of register octet bits are =
    let behind : sum_onto (digits 2 8 register) bits ≡ sum_onto (digits 2 16 (register * 256 % 65536)) bits =
    ap (sum_onto (digits 2 8 register)) (sym (sum-zeros 16 bits are))
    ∙ (sum-sum (digits 2 8 register) (replicate 16 0) bits (lit≤ tt) ∙ ap (λ xs. sum_onto xs bits) (low register)) in
    let front : sum_onto (take 8 (digits 2 16 register)) (digits 2 8 octet) ≡ digits 2 8 (bit_xor (register / 256) octet) =
    ap (λ xs. sum_onto xs (digits 2 8 octet)) (high register) ∙ sum-digits 8 (register / 256) octet in
    sum-append (digits 2 16 register) (digits 2 8 octet) bits
    ∙ (ap (λ xs. xs ++ sum_onto (digits 2 8 register) bits) front ∙ ap (λ ys. digits 2 8 (bit_xor (register / 256) octet) ++ ys) behind)

-- an octet that is divided off leaves the next register
divided : (register octet n : ℕ) (bits : List ℕ) → register < 2 ^ 16 → octet < 256 → AllBelowBase 2 bits
    → remainder (8 + n) (sum_onto (digits 2 16 register) (digits 2 8 octet ++ bits)) ≡ remainder n (sum_onto (digits 2 16 (next_register register octet)) bits)
divided register octet n bits fits small are =
    let index = bit_xor (register / 256) octet in
    let moved = register * 256 % 65536 in
    let entry = get_or TABLE index 0 in
    let row : remainder 8 (digits 2 8 index ++ replicate 16 0) ≡ digits 2 16 entry =
    table-row index (xor_of_8 (register / 256) octet (omega (arith, fits)) small) in
    let apart : remainder 8 (digits 2 8 index ++ digits 2 16 moved) ≡ digits 2 16 (bit_xor moved entry) =
    ap (λ xs. remainder 8 (digits 2 8 index ++ xs)) (sym (sum-zeros 16 (digits 2 16 moved) (bits-digits 16 moved)))
    ∙ (remainder-sum 8 (digits 2 8 index) (replicate 16 0) (digits 2 16 moved) refl (lit≤ tt) refl
    ∙ (ap (λ xs. sum_onto xs (digits 2 16 moved)) row ∙ (sum-digits 16 entry moved ∙ ap (digits 2 16) (xor_comm entry moved)))) in
    ap (remainder (8 + n)) (front-of register octet bits are)
    ∙ (remainder-add 8 n (digits 2 8 index ++ sum_onto (digits 2 16 moved) bits)
    ∙ ap (remainder n) (remainder-sum 8 (digits 2 8 index) (digits 2 16 moved) bits refl (lit≤ tt) refl ∙ ap (λ xs. sum_onto xs bits) apart))

pub bits-zeros : (n : ℕ) → AllBelowBase 2 (replicate n 0)
bits-zeros zero = tt
bits-zeros (suc n) = (lit< tt, bits-zeros n)

pub bits-octets : (octets : List ℕ) → AllBelowBase 2 (bits_of octets)
bits-octets [] = tt
bits-octets (x ∷ octets) = subst (AllBelowBase 2) (sym (flat_map-cons (digits 2 8) x octets)) (bits-append (digits 2 8 x) (bits_of octets) (bits-digits 8 x) (bits-octets octets))

one_octet : (octets : List ℕ) → 8 * suc (length octets) ≡ 8 + 8 * length octets
one_octet octets = omega arith

pub left-more : (register octet : ℕ) (octets : List ℕ) → register < 2 ^ 16 → octet < 256 → left_by register (octet ∷ octets) ≡ left_by (next_register register octet) octets
unfolding left_by
left-more register octet octets fits small =
    let bits = bits_of octets ++ replicate 16 0 in
    let apart : bits_of (octet ∷ octets) ++ replicate 16 0 ≡ digits 2 8 octet ++ bits =
    ap (λ xs. xs ++ replicate 16 0) (flat_map-cons (digits 2 8) octet octets) ∙ append_assoc (digits 2 8 octet) (bits_of octets) (replicate 16 0) in
    ap (number 2)
    (ap (λ n. remainder n (sum_onto (digits 2 16 register) (bits_of (octet ∷ octets) ++ replicate 16 0))) (one_octet octets)
    ∙ (ap (λ xs. remainder (8 + 8 * length octets) (sum_onto (digits 2 16 register) xs)) apart
    ∙ divided register octet (8 * length octets) bits fits small (bits-append (bits_of octets) (replicate 16 0) (bits-octets octets) (bits-zeros 16))))
