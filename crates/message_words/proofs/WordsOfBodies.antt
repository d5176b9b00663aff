-- What a request is written as are words: octets of ASCII with no blank.
use Rattle.std.proofs.Common.{◌≡◌, ℕ, suc, ◌+◌, ◌/◌, ◌%◌, ◌^◌, ◌<◌, ◌≤◌, Bool, true, false, ℤ, pos, negsuc, List, [], ◌∷◌, ◌++◌, map, flat_map, refl, arith}
use Rattle.std.specs.Prelude.{codes, nat_lt, nat_abs, if◌then◌else◌}
use Rattle.std.specs.List.{AllByRecursion}
use Rattle.std.specs.Fmt.{decimal, signed_decimal}
use Rattle.std.proofs.lemmas.Bool.Decides.{nat_tests}
use Rattle.hk_base.specs.TailoringParts.{TailoringParts}
use Rattle.hk_base.specs.Fit.{IsFit}
use Rattle.body_fields.specs.Spelling.{AllFit}
use Rattle.hk_base.specs.declared.types.Kind.{Kind}
use Rattle.hk_base.specs.declared.types.Kind.TheVariants.{Housekeeping, Diagnostic}
use Rattle.hk_base.specs.declared.types.SuperList.{SuperList}
use Rattle.hk_base.proofs.Membership.{AllByRecursion-append}
use Rattle.body_fields.proofs.FitLemmas.{known_in_octets}
use Rattle.st03_grammar.specs.Spelling.{IsRequest03, RequestFits, ArrayFits, ListsFit, PairFits}
use Rattle.st03_grammar.specs.declared.bodies.Each.{Each}
use Rattle.st03_grammar.specs.declared.bodies.Each.TheVariants as each
use Rattle.st03_grammar.specs.declared.bodies.Pair.{Pair}
use Rattle.st03_grammar.specs.declared.bodies.Request03.{Request03}
use Rattle.st03_grammar.specs.declared.bodies.Request03.TheVariants.{Create, Append, OnEach, Intervals}
use Rattle.st03_grammar.proofs.Fitting.{request_fits}
use Rattle.st04_grammar.specs.Spelling as st04
use Rattle.st04_grammar.specs.declared.bodies.Request04.{Request04}
use Rattle.st04_grammar.specs.declared.bodies.Request04.TheVariants as stat
use Rattle.st20_grammar.specs.Spelling as st20
use Rattle.st20_grammar.specs.Spelling.{IsSetting}
use Rattle.st20_grammar.specs.declared.bodies.Setting.{Setting}
use Rattle.st20_grammar.specs.declared.bodies.Request20.{Request20}
use Rattle.st20_grammar.specs.declared.bodies.Request20.TheVariants as values
use Rattle.st20_grammar.proofs.SpellingLemmas.{set_fits}
use Rattle.message_words.specs.Words.{hex, hex_digit, kind_word, each_word, flag_word, deletion_words, words_if_any, array_words, lists_words, pair_words, setting_words, housekeeping_words, statistics_words, value_words}
use Rattle.message_words.specs.Lines.{IsWord, AreWords, is_printed}
use Rattle.message_words.proofs.LineLemmas.{decimal-word, decimal-words, both_true}
use Rattle.message_words.proofs.SpelledOctets.{small, all_small}
use Rattle.message_words.proofs.SpelledLists.{AreNarrow}
use Rattle.message_words.proofs.SpelledValues.{value-small}
use Rattle.message_words.proofs.BodiesAgain.{numeric_fit, ids_fit}

joined : (xs ys : List (List ℕ)) → AreWords xs → AreWords ys → AreWords (xs ++ ys)
joined xs ys are more = AllByRecursion-append IsWord xs ys are more

-- a number that a field of four octets at most holds
number : (width n : ℕ) → width ≤ 4 → n < 256 ^ width → IsWord (decimal n)
number width n few l = decimal-word n (omega (arith, small width n few l))

-- numbers that such fields hold
numbers : (width : ℕ) (ns : List ℕ) → width ≤ 4 → AllFit width ns → AreWords (map decimal ns)
numbers width ns few fit = decimal-words ns (all_small width ns few fit)

kind-word : (kind : Kind) → IsWord (kind_word kind)
kind-word Housekeeping = refl
kind-word Diagnostic = refl

each-word : (what : Each) → IsWord (each_word what)
each-word each.Delete = refl
each-word each.Enable = refl
each-word each.Disable = refl
each-word each.Show = refl
each-word each.OneShot = refl
each-word each.ShowPeriodic = refl

flag-word : (b : Bool) → IsWord (flag_word b)
flag-word true = refl
flag-word false = refl

simple-words : (t : TailoringParts) (ns : List ℕ) → AreNarrow t → AllFit t.widths.parameter_octets ns → AreWords (words_if_any (codes "simple") ns)
simple-words t [] few fit = tt
simple-words t (n ∷ ns) few fit = (refl, numbers t.widths.parameter_octets (n ∷ ns) few.params fit)

arrays-words : (t : TailoringParts) (arrays : List SuperList) → AreNarrow t → AllByRecursion (ArrayFits t) arrays → AreWords (flat_map array_words arrays)
arrays-words t [] few fit = tt
arrays-words t (a ∷ arrays) few fit =
    joined (array_words a) (flat_map array_words arrays)
    (refl, (number t.widths.repetition_octets a.repetition few.repetitions fit.0.0, numbers t.widths.parameter_octets a.params few.params fit.0.1.2))
    (arrays-words t arrays few fit.1)

lists-words : (t : TailoringParts) (simple : List ℕ) (arrays : List SuperList) → AreNarrow t → ListsFit t simple arrays → AreWords (lists_words simple arrays)
lists-words t simple arrays few fit =
    joined (words_if_any (codes "simple") simple) (flat_map array_words arrays) (simple-words t simple few fit.params.2) (arrays-words t arrays few fit.each_array)

pairs-words : (t : TailoringParts) (pairs : List Pair) → AreNarrow t → AllByRecursion (PairFits t) pairs → AreWords (flat_map pair_words pairs)
pairs-words t [] few fit = tt
pairs-words t (p ∷ pairs) few fit =
    (number t.widths.structure_octets p.id few.structures fit.0.0, (number t.widths.interval_octets p.interval few.intervals fit.0.1, pairs-words t pairs few fit.1))

-- a request on structures is written as words
pub housekeeping-words : (t : TailoringParts) (r : Request03) → AreNarrow t → IsRequest03 t r → AreWords (housekeeping_words r)
housekeeping-words t (Create key d) few is =
    let fit : RequestFits t (Create key d) = request_fits t (Create key d) is in
    (refl, (kind-word key.kind, (number t.widths.structure_octets key.id few.structures fit.0, (refl, (number t.widths.interval_octets d.interval few.intervals fit.1, lists-words t d.simple d.arrays few fit.2)))))
housekeeping-words t (Append key a) few is =
    let fit : RequestFits t (Append key a) = request_fits t (Append key a) is in
    (refl, (kind-word key.kind, (number t.widths.structure_octets key.id few.structures fit.0, lists-words t a.simple a.arrays few fit.1)))
housekeeping-words t (OnEach what kind ids) few is =
    let fit : RequestFits t (OnEach what kind ids) = request_fits t (OnEach what kind ids) is in
    (each-word what, (kind-word kind, numbers t.widths.structure_octets ids few.structures fit.2))
housekeeping-words t (Intervals kind pairs) few is =
    let fit : RequestFits t (Intervals kind pairs) = request_fits t (Intervals kind pairs) is in
    (refl, (kind-word kind, pairs-words t pairs few fit.2))

deletion-words : (t : TailoringParts) (ids : List ℕ) → AreNarrow t → AllFit t.widths.parameter_octets ids → AreWords (deletion_words ids)
deletion-words t [] few fit = (refl, tt)
deletion-words t (id ∷ ids) few fit = numbers t.widths.parameter_octets (id ∷ ids) few.params fit

-- a statistics request is written as words
pub statistics-words : (t : TailoringParts) (r : Request04) → IsFit t → AreNarrow t → st04.IsRequest t r → AreWords (statistics_words r)
statistics-words t (stat.Report resets) fit few is = (refl, (flag-word resets, tt))
statistics-words t stat.Reset fit few is = (refl, tt)
statistics-words t (stat.Enable n) fit few is = (refl, (number t.widths.interval_octets n few.intervals is.1, tt))
statistics-words t stat.Disable fit few is = (refl, tt)
statistics-words t (stat.Add ids) fit few is = (refl, numbers t.widths.parameter_octets ids few.params (numeric_fit t 1 ids fit is))
statistics-words t (stat.Delete ids) fit few is = (refl, deletion-words t ids few (numeric_fit t 0 ids fit is))
statistics-words t stat.ShowDefinitions fit few is = (refl, tt)

value-word : (v : ℤ) → nat_abs v < 2 ^ 64 → IsWord (signed_decimal v)
value-word (pos n) l = decimal-word n l
value-word (negsuc n) l = both_true true _ refl (decimal-word (suc n) l)

settings-words : (t : TailoringParts) (xs : List Setting) → IsFit t → AreNarrow t → AllByRecursion (IsSetting t) xs → AreWords (flat_map setting_words xs)
settings-words t [] fit few are = tt
settings-words t (x ∷ xs) fit few are =
    (number t.widths.parameter_octets x.param few.params (known_in_octets t x.param fit are.0.known), (value-word x.value (value-small t x fit are.0), settings-words t xs fit few are.1))

-- a request on parameter values is written as words
pub request20-words : (t : TailoringParts) (r : Request20) → IsFit t → AreNarrow t → st20.IsRequest t r → AreWords (value_words r)
request20-words t (values.Report ids) fit few is = (refl, numbers t.widths.parameter_octets ids few.params (ids_fit t ids fit is))
request20-words t (values.Set xs) fit few is = (refl, settings-words t xs fit few (set_fits t xs is))

low_glyph : (n : ℕ) → n < 10 → is_printed (48 + n) ≡ true
low_glyph n l = grind (arith, nat_tests)

high_glyph : (n : ℕ) → n < 16 → is_printed (87 + n) ≡ true
high_glyph n l = grind (arith, nat_tests)

hex_by : (n : ℕ) (b : Bool) → nat_lt n 10 ≡ b → n < 16 → is_printed (if b then 48 + n else 87 + n) ≡ true
hex_by n true e l = low_glyph n (grind (arith, nat_tests))
hex_by n false e l = high_glyph n l

-- the flags are a word
pub hex-word : (n : ℕ) → IsWord (hex 1 n)
hex-word n = both_true (is_printed (hex_digit (n / 1 % 16))) true (hex_by (n / 1 % 16) (nat_lt (n / 1 % 16) 10) refl (omega arith)) refl
