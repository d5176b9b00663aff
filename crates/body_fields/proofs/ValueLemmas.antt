-- Values are read back from their octets.
use Rattle.std.proofs.Common.{arith, ◌≡◌, refl, sym, ap, ◌∙◌, ℕ, suc, ◌-◌, ◌*◌, ◌^◌, ◌<◌, ◌≤◌, List, ◌++◌, length, true, false, ℤ, pos, negsuc}
use Rattle.std.specs.Prelude.{nat_lt}
use Rattle.std.proofs.Math.Nat.{mod-eq_of_lt}
use Rattle.std.proofs.lemmas.Bool.Decides.{nat_tests}
use Rattle.hk_base.specs.Fields.{octets_of, number_of, twos_complement, signed_of, signed_octets_of, signed_number_of}
use Rattle.hk_base.specs.Parameters.{fits}
use Rattle.body_fields.specs.Reading.{octets_field, form_number, value_field}
use Rattle.body_fields.specs.Spelling.{Reads, IsInOctets}
use Rattle.hk_base.specs.declared.types.Form.{Form}
use Rattle.hk_base.specs.declared.types.Form.TheVariants.{Unsigned, Signed, Enumerated, Boolean}
use Rattle.hk_base.specs.declared.types.Param.{Param}
use Rattle.hk_base.proofs.FieldLemmas.{length-digits, number-digits}
use Rattle.hk_base.proofs.Numbers.{bits_of_octets}
use Rattle.body_fields.proofs.ReadingLemmas.{reads-octets}

number_again : (n k : ℕ) → k < 256 ^ n → number_of (octets_of n k) ≡ k
number_again n k small = number-digits 256 n k (omega arith) ∙ mod-eq_of_lt small

signed_low : (bits n : ℕ) → 2 * n < 2 ^ bits → signed_of bits n ≡ pos n
signed_low bits n low = let below : nat_lt (2 * n) (2 ^ bits) ≡ true = grind (arith, nat_tests) in rw below refl

signed_high : (bits n : ℕ) → 2 * suc n ≤ 2 ^ bits → signed_of bits (2 ^ bits - suc n) ≡ negsuc n
signed_high bits n high =
    let above : nat_lt (2 * (2 ^ bits - suc n)) (2 ^ bits) ≡ false = grind (arith, nat_tests) in
    let back : 2 ^ bits - suc (2 ^ bits - suc n) ≡ n = omega arith in
    rw (above, back) refl

signed_by : (octets : List ℕ) (n value : ℕ) → length octets ≡ n → number_of octets ≡ value → signed_number_of octets ≡ signed_of (8 * n) value
signed_by octets n value size number_is = rw (size, number_is) refl

-- a value is read back from its octets
pub value-again : (form : Form) (n : ℕ) (v : ℤ) → IsInOctets form n v → form_number form (signed_octets_of n v) ≡ v
value-again Unsigned n (pos k) is = ap pos (number_again n k is)
value-again Boolean n (pos k) is = ap pos (number_again n k is)
value-again (Enumerated values) n (pos k) is = ap pos (number_again n k is)
value-again Signed n (pos k) is =
    let bits = bits_of_octets n in
    let small : k < 256 ^ n = omega (arith, bits) in
    signed_by (octets_of n k) n k (length-digits 256 n k) (number_again n k small) ∙ signed_low (8 * n) k is
value-again Signed n (negsuc k) is =
    let bits = bits_of_octets n in
    let small : 2 ^ (8 * n) - suc k < 256 ^ n = omega (arith, bits) in
    signed_by (octets_of n (2 ^ (8 * n) - suc k)) n (2 ^ (8 * n) - suc k) (length-digits 256 n (2 ^ (8 * n) - suc k)) (number_again n (2 ^ (8 * n) - suc k) small)
    ∙ signed_high (8 * n) k is
value-again Unsigned n (negsuc k) is = absurd is
value-again Boolean n (negsuc k) is = absurd is
value-again (Enumerated values) n (negsuc k) is = absurd is

pub length-value : (n : ℕ) (v : ℤ) → length (signed_octets_of n v) ≡ n
length-value n v = length-digits 256 n (twos_complement (8 * n) v)

pub reads-field : (n : ℕ) (field : List ℕ) → length field ≡ n → Reads (octets_field n) field field
reads-field n field size rest = ap (λ k. octets_field k (field ++ rest)) (sym size) ∙ reads-octets field rest

-- a value that fits its parameter
pub reads-value : (p : Param) (v : ℤ) → fits p v ≡ true → IsInOctets p.form p.octets v → Reads (value_field p) (signed_octets_of p.octets v) v
reads-value p v fit is rest =
    let octets = signed_octets_of p.octets v in
    let field = reads-field p.octets octets (length-value p.octets v) rest in
    rw (field, value-again p.form p.octets v is, fit) refl
