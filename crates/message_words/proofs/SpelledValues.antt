-- The octets that the words of new values stand for are the spelling of the settings.
use Rattle.std.proofs.Common.{◌≡◌, ℕ, ◌*◌, ◌/◌, ◌^◌, ◌<◌, ◌≤◌, Bool, true, false, ℤ, pos, negsuc, List, [], ◌∷◌, ◌++◌, flat_map, length, Option, Some, None, refl, ap, sym, ◌∙◌, append_assoc, arith}
use Rattle.std.specs.Prelude.{nat_abs, IsSome, IfSome, IsTrue, if◌then◌else◌}
use Rattle.std.specs.Option.{option_map_or}
use Rattle.std.specs.List.{AllByRecursion}
use Rattle.std.specs.Fmt.{decimal, signed_decimal}
use Rattle.std.proofs.lemmas.Bool.{false≢true}
use Rattle.std.proofs.Math.Nat.{pow-le-pow_right}
use Rattle.hk_base.specs.TailoringParts.{TailoringParts}
use Rattle.hk_base.specs.Fields.{octets_of, signed_octets_of}
use Rattle.hk_base.specs.Fit.{IsFit, IsFitShape}
use Rattle.hk_base.specs.Parameters.{parameter, fits}
use Rattle.body_fields.specs.Spelling as base
use Rattle.body_fields.specs.Spelling.{IsInOctets, counted_octets}
use Rattle.hk_base.specs.declared.types.Form.{Form}
use Rattle.hk_base.specs.declared.types.Form.TheVariants.{Unsigned, Signed, Enumerated, Boolean}
use Rattle.hk_base.specs.declared.types.Param.{Param}
use Rattle.body_fields.proofs.FitLemmas.{fits-in_octets, known_in_octets, parameter-fit}
use Rattle.st20_grammar.specs.declared.bodies.Setting.{Setting}
use Rattle.st20_grammar.specs.Spelling as st20
use Rattle.st20_grammar.specs.Spelling.{IsSetting}
use Rattle.message_words.specs.Words.{setting_words}
use Rattle.message_words.specs.Numbers.{number_in, value_in}
use Rattle.message_words.specs.BodyOctets.{count_octets, value_octets, setting_octets_from, setting_octets}
use Rattle.message_words.proofs.NumberLemmas.{number_in-decimal, value_in-decimal}
use Rattle.message_words.proofs.SpelledOctets.{small, field-is, field-decimal}
use Rattle.message_words.proofs.SpelledLists.{AreNarrow}

-- what is true of the parameter that is there
abbrev Known : Option Param → ℤ → Type 0
Known o v = (p : Param) × (o ≡ Some p) × (fits p v ≡ true)

true_is : (b : Bool) → IsTrue b → b ≡ true
true_is true h = refl
true_is false h = absurd (false≢true h)

known_by : (o : Option Param) (v : ℤ) → IsSome o → IfSome o (λ p. IsTrue (fits p v)) → Known o v
known_by (Some p) v some fit = (p, refl, true_is (fits p v) fit)
known_by None v some fit = absurd (false≢true some)

value_by : (p : Param) (v : ℤ) (b : Bool) → b ≡ true → (if b then signed_octets_of p.octets v else []) ≡ signed_octets_of p.octets v
value_by p v b e = ap (λ (b : Bool). if b then signed_octets_of p.octets v else []) e

value_from : (o : Option Param) (v : ℤ) (k : Known o v) → option_map_or (λ p. if fits p v then signed_octets_of p.octets v else []) o [] ≡ option_map_or (λ p. signed_octets_of p.octets v) o []
value_from o v k =
    ap (λ o. option_map_or (λ p. if fits p v then signed_octets_of p.octets v else []) o []) k.1
    ∙ value_by k.0 v (fits k.0 v) k.2
    ∙ ap (λ o. option_map_or (λ (p : Param). signed_octets_of p.octets v) o []) (sym k.1)

in_octets-small : (form : Form) (octets : ℕ) (v : ℤ) → octets ≤ 8 → IsInOctets form octets v → nat_abs v < 2 ^ 64
in_octets-small Signed octets (pos n) few is = omega (arith, is, pow-le-pow_right {n = 2} (omega arith) {i = 8 * octets} {j = 64} (omega arith))
in_octets-small Signed octets (negsuc n) few is = omega (arith, is, pow-le-pow_right {n = 2} (omega arith) {i = 8 * octets} {j = 64} (omega arith))
in_octets-small Unsigned octets (pos n) few is = omega (arith, is, pow-le-pow_right {n = 256} (omega arith) {i = octets} {j = 8} few)
in_octets-small (Enumerated values) octets (pos n) few is = omega (arith, is, pow-le-pow_right {n = 256} (omega arith) {i = octets} {j = 8} few)
in_octets-small Boolean octets (pos n) few is = omega (arith, is, pow-le-pow_right {n = 256} (omega arith) {i = octets} {j = 8} few)
in_octets-small Unsigned octets (negsuc n) few is = absurd is
in_octets-small (Enumerated values) octets (negsuc n) few is = absurd is
in_octets-small Boolean octets (negsuc n) few is = absurd is

-- a parameter has eight octets at most
pub few_octets : (p : Param) → IsFitShape p → p.octets ≤ 8
few_octets p fit = omega (arith, fit.octets, fit.bits.1)

-- the known parameter of a setting
pub setting_known : (t : TailoringParts) (x : Setting) → IsSetting t x → Known (parameter t x.param) x.value
setting_known t x is = known_by (parameter t x.param) x.value is.known is.value

-- the shape of the known parameter of a setting
pub setting_shape : (t : TailoringParts) (x : Setting) → IsFit t → (k : Known (parameter t x.param) x.value) → IsFitShape k.0
setting_shape t x fit k = (parameter-fit t x.param k.0 fit k.1).0.shape

-- a value that a parameter can have has 64 bits
pub value-small : (t : TailoringParts) (x : Setting) → IsFit t → IsSetting t x → nat_abs x.value < 2 ^ 64
value-small t x fit is =
    let k = setting_known t x is in
    let shape = setting_shape t x fit k in
    in_octets-small k.0.form k.0.octets x.value (few_octets k.0 shape) (fits-in_octets k.0 x.value shape k.2)

-- the word of a value stands for its octets
value-spelled : (t : TailoringParts) (x : Setting) → IsFit t → IsSetting t x
    → value_octets t (number_in (decimal x.param)) (value_in (signed_decimal x.value)) ≡ base.value_octets t x.param x.value
value-spelled t x fit is =
    ap (λ id. value_octets t id (value_in (signed_decimal x.value))) (number_in-decimal x.param (small t.widths.parameter_octets x.param (omega (arith, fit.widths.parameter_octets.1)) (known_in_octets t x.param fit is.known)))
    ∙ ap (value_octets t x.param) (value_in-decimal x.value (value-small t x fit is))
    ∙ value_from (parameter t x.param) x.value (setting_known t x is)

settings-follow : (t : TailoringParts) (xs : List Setting) → IsFit t → AreNarrow t → AllByRecursion (IsSetting t) xs
    → setting_octets_from t None (flat_map setting_words xs) ≡ flat_map (st20.setting_octets t) xs
settings-follow t [] fit few are = refl
settings-follow t (x ∷ xs) fit few are =
    let more : List ℕ = setting_octets_from t None (flat_map setting_words xs) in
    let id : List ℕ = octets_of t.widths.parameter_octets x.param in
    let value : List ℕ = base.value_octets t x.param x.value in
    ap (λ octets. octets ++ (value_octets t (number_in (decimal x.param)) (value_in (signed_decimal x.value)) ++ more)) (field-decimal t.widths.parameter_octets x.param few.params (known_in_octets t x.param fit are.0.known))
    ∙ ap (λ octets. id ++ (octets ++ more)) (value-spelled t x fit are.0)
    ∙ sym (append_assoc id value more)
    ∙ ap (λ octets. (id ++ value) ++ octets) (settings-follow t xs fit few are.1)

length-settings : (xs : List Setting) → length (flat_map setting_words xs) ≡ 2 * length xs
length-settings [] = refl
length-settings (x ∷ xs) = omega (arith, length-settings xs)

half_of_settings : (xs : List Setting) → length (flat_map setting_words xs) / 2 ≡ length xs
half_of_settings xs = omega (arith, length-settings xs)

-- the words of new values stand for their spelling
pub settings-spelled : (t : TailoringParts) (xs : List Setting) → IsFit t → AreNarrow t → length xs < 256 ^ t.widths.count_octets → AllByRecursion (IsSetting t) xs
    → setting_octets t (flat_map setting_words xs) ≡ counted_octets t (st20.setting_octets t) xs
settings-spelled t xs fit few count are =
    let more : List ℕ = setting_octets_from t None (flat_map setting_words xs) in
    ap (λ n. count_octets t n ++ more) (half_of_settings xs)
    ∙ ap (λ octets. octets ++ more) (field-is t.widths.count_octets (length xs) count)
    ∙ ap (λ octets. octets_of t.widths.count_octets (length xs) ++ octets) (settings-follow t xs fit few are)
