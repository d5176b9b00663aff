-- The octets that the words of a body stand for are the spelling of the body.
use Rattle.std.proofs.Common.{◌≡◌, ℕ, ◌^◌, ◌<◌, ◌≤◌, Bool, true, List, [], ◌∷◌, ◌++◌, map, flat_map, length, refl, ap, ◌∙◌, arith}
use Rattle.std.specs.Prelude.{nat_lt, if◌then◌else◌}
use Rattle.std.specs.List.{AllByRecursion}
use Rattle.std.specs.Fmt.{decimal}
use Rattle.std.proofs.Math.Nat.{pow-le-pow_right}
use Rattle.hk_base.specs.TailoringParts.{TailoringParts}
use Rattle.hk_base.specs.Fields.{octets_of}
use Rattle.body_fields.specs.Spelling.{AllFit, counted_octets}
use Rattle.message_words.specs.Numbers.{number_in}
use Rattle.message_words.specs.BodyOctets.{field, count_octets, number_octets, list_octets}
use Rattle.message_words.proofs.NumberLemmas.{number_in-decimal}

-- a number that a field of four octets at most holds has 32 bits
pub small : (width n : ℕ) → width ≤ 4 → n < 256 ^ width → n < 2 ^ 32
small width n few l = omega (arith, pow-le-pow_right {n = 256} (omega arith) {i = width} {j = 4} few)

-- the same of many numbers
pub all_small : (width : ℕ) (ns : List ℕ) → width ≤ 4 → AllFit width ns → AllByRecursion (λ n. n < 2 ^ 32) ns
all_small width [] few fit = tt
all_small width (n ∷ ns) few fit = (small width n few fit.0, all_small width ns few fit.1)

field_by : (width n : ℕ) (b : Bool) → b ≡ true → (if b then octets_of width n else []) ≡ octets_of width n
field_by width n b e = ap (λ (b : Bool). if b then octets_of width n else []) e

-- a field with room for the number has it
pub field-is : (width n : ℕ) → n < 256 ^ width → field width n ≡ octets_of width n
field-is width n l = field_by width n (nat_lt n (256 ^ width)) (grind arith)

-- the word of a number in a field with room for it
pub field-decimal : (width n : ℕ) → width ≤ 4 → n < 256 ^ width → field width (number_in (decimal n)) ≡ octets_of width n
field-decimal width n few l = ap (field width) (number_in-decimal n (small width n few l)) ∙ field-is width n l

-- the words of numbers in such fields
pub numbers-spelled : (width : ℕ) (ns : List ℕ) → width ≤ 4 → AllFit width ns → number_octets width (map decimal ns) ≡ flat_map (octets_of width) ns
numbers-spelled width [] few fit = refl
numbers-spelled width (n ∷ ns) few fit =
    ap (λ octets. octets ++ number_octets width (map decimal ns)) (field-decimal width n few fit.0)
    ∙ ap (λ octets. octets_of width n ++ octets) (numbers-spelled width ns few fit.1)

length-decimals : (ns : List ℕ) → length (map decimal ns) ≡ length ns
length-decimals [] = refl
length-decimals (n ∷ ns) = omega (arith, length-decimals ns)

-- the words of a list of numbers
pub list-spelled : (t : TailoringParts) (width : ℕ) (ns : List ℕ) → width ≤ 4 → length ns < 256 ^ t.widths.count_octets → AllFit width ns
    → list_octets t width (map decimal ns) ≡ counted_octets t (octets_of width) ns
list-spelled t width ns few count fit =
    ap (λ n. count_octets t n ++ number_octets width (map decimal ns)) (length-decimals ns)
    ∙ ap (λ octets. octets ++ number_octets width (map decimal ns)) (field-is t.widths.count_octets (length ns) count)
    ∙ ap (λ octets. octets_of t.widths.count_octets (length ns) ++ octets) (numbers-spelled width ns few fit)
