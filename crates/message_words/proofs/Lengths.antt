-- How many octets a body of the grammar has.
use Rattle.std.proofs.Common.{ℕ, ◌+◌, ◌*◌, ◌≤◌, List, [], ◌∷◌, ◌++◌, flat_map, length, ap, ◌∙◌, arith, length-append}
use Rattle.std.specs.Option.{option_map_or}
use Rattle.std.specs.List.{AllByRecursion}
use Rattle.hk_base.specs.TailoringParts.{TailoringParts}
use Rattle.hk_base.specs.Fields.{octets_of, signed_octets_of}
use Rattle.hk_base.specs.Fit.{IsFit}
use Rattle.body_fields.specs.Spelling as base
use Rattle.body_fields.specs.Spelling.{counted_octets}
use Rattle.hk_base.specs.declared.types.SuperList.{SuperList}
use Rattle.hk_base.specs.declared.types.Param.{Param}
use Rattle.hk_base.proofs.FieldLemmas.{length-digits}
use Rattle.body_fields.proofs.ValueLemmas.{length-value}
use Rattle.st03_grammar.specs.declared.bodies.Pair.{Pair}
use Rattle.st03_grammar.specs.Spelling as st03
use Rattle.st03_grammar.specs.Spelling.{ArrayFits, ListsFit}
use Rattle.st20_grammar.specs.declared.bodies.Setting.{Setting}
use Rattle.st20_grammar.specs.Spelling as st20
use Rattle.st20_grammar.specs.Spelling.{IsSetting}
use Rattle.message_words.proofs.SpelledLists.{AreNarrow}
use Rattle.message_words.proofs.SpelledValues.{setting_known, setting_shape, few_octets}

length-fields : (width : ℕ) (ns : List ℕ) → width ≤ 4 → length (flat_map (octets_of width) ns) ≤ 4 * length ns
length-fields width [] few = omega arith
length-fields width (n ∷ ns) few =
    omega (arith, length-append (octets_of width n) (flat_map (octets_of width) ns), length-digits 256 width n, length-fields width ns few)

-- a list of numbers
pub length-list : (t : TailoringParts) (width : ℕ) (ns : List ℕ) → AreNarrow t → width ≤ 4 → length ns ≤ 255 → length (counted_octets t (octets_of width) ns) ≤ 1024
length-list t width ns narrow few most =
    omega (arith, length-append (octets_of t.widths.count_octets (length ns)) (flat_map (octets_of width) ns), length-digits 256 t.widths.count_octets (length ns), narrow.counts, length-fields width ns few)

length-array : (t : TailoringParts) (a : SuperList) → AreNarrow t → ArrayFits t a → length (st03.array_octets t a) ≤ 1028
length-array t a narrow fit =
    omega (arith, length-append (octets_of t.widths.repetition_octets a.repetition) (counted_octets t (octets_of t.widths.parameter_octets) a.params), length-digits 256 t.widths.repetition_octets a.repetition, narrow.repetitions, length-list t t.widths.parameter_octets a.params narrow narrow.params fit.1.0)

length-arrays : (t : TailoringParts) (arrays : List SuperList) → AreNarrow t → AllByRecursion (ArrayFits t) arrays → length (flat_map (st03.array_octets t) arrays) ≤ 1028 * length arrays
length-arrays t [] narrow fit = omega arith
length-arrays t (a ∷ arrays) narrow fit =
    omega (arith, length-append (st03.array_octets t a) (flat_map (st03.array_octets t) arrays), length-array t a narrow fit.0, length-arrays t arrays narrow fit.1)

-- lists
pub length-lists : (t : TailoringParts) (simple : List ℕ) (arrays : List SuperList) → AreNarrow t → ListsFit t simple arrays → length (st03.lists_octets t simple arrays) ≤ 263168
length-lists t simple arrays narrow fit =
    let front : List ℕ = counted_octets t (octets_of t.widths.parameter_octets) simple in
    let count : List ℕ = octets_of t.widths.count_octets (length arrays) in
    let more : List ℕ = flat_map (st03.array_octets t) arrays in
    omega (arith, length-append front (count ++ more), length-append count more, length-digits 256 t.widths.count_octets (length arrays), narrow.counts, length-list t t.widths.parameter_octets simple narrow narrow.params fit.params.0, length-arrays t arrays narrow fit.each_array, fit.few_arrays)

-- a field, and lists
pub length-behind : (t : TailoringParts) (width n : ℕ) (rest : List ℕ) (most : ℕ) → width ≤ 4 → length rest ≤ most → length (octets_of width n ++ rest) ≤ 4 + most
length-behind t width n rest most few l = omega (arith, length-append (octets_of width n) rest, length-digits 256 width n)

length-pair_fields : (t : TailoringParts) (pairs : List Pair) → AreNarrow t → length (flat_map (st03.pair_octets t) pairs) ≤ 8 * length pairs
length-pair_fields t [] narrow = omega arith
length-pair_fields t (p ∷ pairs) narrow =
    let id : List ℕ = octets_of t.widths.structure_octets p.id in
    let interval : List ℕ = octets_of t.widths.interval_octets p.interval in
    omega (arith, length-append (id ++ interval) (flat_map (st03.pair_octets t) pairs), length-append id interval, length-digits 256 t.widths.structure_octets p.id, length-digits 256 t.widths.interval_octets p.interval, narrow.structures, narrow.intervals, length-pair_fields t pairs narrow)

-- structures' new intervals
pub length-pairs : (t : TailoringParts) (pairs : List Pair) → AreNarrow t → length pairs ≤ 255 → length (counted_octets t (st03.pair_octets t) pairs) ≤ 2048
length-pairs t pairs narrow few =
    omega (arith, length-append (octets_of t.widths.count_octets (length pairs)) (flat_map (st03.pair_octets t) pairs), length-digits 256 t.widths.count_octets (length pairs), narrow.counts, length-pair_fields t pairs narrow)

length-value_of : (t : TailoringParts) (x : Setting) → IsFit t → IsSetting t x → length (base.value_octets t x.param x.value) ≤ 8
length-value_of t x fit is =
    let k = setting_known t x is in
    omega (arith, few_octets k.0 (setting_shape t x fit k), ap (λ o. length (option_map_or (λ (p : Param). signed_octets_of p.octets x.value) o [])) k.1 ∙ length-value k.0.octets x.value)

length-setting_fields : (t : TailoringParts) (xs : List Setting) → IsFit t → AreNarrow t → AllByRecursion (IsSetting t) xs → length (flat_map (st20.setting_octets t) xs) ≤ 12 * length xs
length-setting_fields t [] fit narrow are = omega arith
length-setting_fields t (x ∷ xs) fit narrow are =
    let id : List ℕ = octets_of t.widths.parameter_octets x.param in
    let value : List ℕ = base.value_octets t x.param x.value in
    omega (arith, length-append (id ++ value) (flat_map (st20.setting_octets t) xs), length-append id value, length-digits 256 t.widths.parameter_octets x.param, narrow.params, length-value_of t x fit are.0, length-setting_fields t xs fit narrow are.1)

-- parameters' new values
pub length-settings : (t : TailoringParts) (xs : List Setting) → IsFit t → AreNarrow t → length xs ≤ 255 → AllByRecursion (IsSetting t) xs → length (counted_octets t (st20.setting_octets t) xs) ≤ 4096
length-settings t xs fit narrow few are =
    omega (arith, length-append (octets_of t.widths.count_octets (length xs)) (flat_map (st20.setting_octets t) xs), length-digits 256 t.widths.count_octets (length xs), narrow.counts, length-setting_fields t xs fit narrow are)
