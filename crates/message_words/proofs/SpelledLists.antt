-- The octets that the words of lists stand for are the spelling of the lists.
use Rattle.std.proofs.Common.{◌≡◌, ℕ, ◌*◌, ◌/◌, ◌^◌, ◌<◌, ◌≤◌, Bool, true, false, List, [], ◌∷◌, ◌++◌, map, flat_map, length, refl, ap, subst, sym, ◌∙◌, append_assoc, append-nil, arith}
use Rattle.std.specs.Prelude.{codes}
use Rattle.std.specs.Str.{bytes_eq}
use Rattle.std.specs.List.{AllByRecursion, slice_split}
use Rattle.std.specs.Fmt.{decimal}
use Rattle.std.proofs.lemmas.Slice.Eq.{bytes_eq-Decides}
use Rattle.std.proofs.lemmas.List.Splits.{slice_split_none, slice_split_at}
use Rattle.std.proofs.lemmas.List.Elements.{All-from_recursion}
use Rattle.hk_base.specs.TailoringParts.{TailoringParts}
use Rattle.hk_base.specs.Fields.{octets_of}
use Rattle.hk_base.specs.Fit.{IsFit}
use Rattle.body_fields.specs.Spelling.{counted_octets}
use Rattle.hk_base.specs.declared.types.SuperList.{SuperList}
use Rattle.st03_grammar.specs.declared.bodies.Pair.{Pair}
use Rattle.st03_grammar.specs.Spelling as st03
use Rattle.st03_grammar.specs.Spelling.{ArrayFits, ListsFit, PairFits}
use Rattle.message_words.specs.Words.{words_if_any, array_words, lists_words, pair_words}
use Rattle.message_words.specs.Numbers.{number_in}
use Rattle.message_words.specs.BodyOctets.{field, count_octets, list_octets, is_array, array_octets, behind_name, section_octets, lists_octets, alternating_octets, pair_octets}
use Rattle.message_words.proofs.NumberLemmas.{AreDigits, decimal-digits}
use Rattle.message_words.proofs.SpelledOctets.{small, all_small, field-is, field-decimal, list-spelled}

-- widths of fields that hold numbers of 32 bits
pub record AreNarrow (t : TailoringParts) : Type 0 where
  pub structures : t.widths.structure_octets ≤ 4
  pub params : t.widths.parameter_octets ≤ 4
  pub intervals : t.widths.interval_octets ≤ 4
  pub counts : t.widths.count_octets ≤ 4
  pub repetitions : t.widths.repetition_octets ≤ 4

pub narrow : (t : TailoringParts) → IsFit t → AreNarrow t
narrow t fit =
    record {
      structures = omega (arith, fit.widths.structure_octets.1);
      params = omega (arith, fit.widths.parameter_octets.1);
      intervals = fit.widths.interval_octets.1;
      counts = omega (arith, fit.widths.count_octets.1);
      repetitions = omega (arith, fit.widths.repetition_octets.1);
    }

-- digits aren't a text that isn't of digits
pub digits-other : (ds text : List ℕ) → AreDigits ds → (AreDigits text → ⊥) → bytes_eq ds text ≡ false
digits-other ds text are none = go (bytes_eq ds text) refl
  where
    go : (b : Bool) → bytes_eq ds text ≡ b → b ≡ false
    go false e = refl
    go true e = absurd (none (subst AreDigits ((bytes_eq-Decides ds text).0 e) are))

array_is_no_number : AreDigits (codes "array") → ⊥
array_is_no_number are = omega (arith, are.0)

all_is_no_number : AreDigits (codes "all") → ⊥
all_is_no_number are = omega (arith, are.0)

-- a number isn't the word before an array
pub decimal-no_array : (n : ℕ) → n < 2 ^ 32 → is_array (decimal n) ≡ false
decimal-no_array n l = digits-other (decimal n) (codes "array") (decimal-digits n (omega arith)) array_is_no_number

-- a number isn't the word for all parameters
pub decimal-not_all : (n : ℕ) → n < 2 ^ 32 → bytes_eq (decimal n) (codes "all") ≡ false
decimal-not_all n l = digits-other (decimal n) (codes "all") (decimal-digits n (omega arith)) all_is_no_number

-- words before any array
abbrev HaveNoArray : List (List ℕ) → Type 0
HaveNoArray words = AllByRecursion (λ word. is_array word ≡ false) words

no_arrays : (ns : List ℕ) → AllByRecursion (λ n. n < 2 ^ 32) ns → HaveNoArray (map decimal ns)
no_arrays [] few = tt
no_arrays (n ∷ ns) few = (decimal-no_array n few.0, no_arrays ns few.1)

simple_no_arrays : (ns : List ℕ) → AllByRecursion (λ n. n < 2 ^ 32) ns → HaveNoArray (words_if_any (codes "simple") ns)
simple_no_arrays [] few = tt
simple_no_arrays (n ∷ ns) few = (refl, no_arrays (n ∷ ns) few)

-- the words of an array behind the first one
abbrev pub section_of : SuperList → List (List ℕ)
section_of a = decimal a.repetition ∷ map decimal a.params

section_no_arrays : (t : TailoringParts) (a : SuperList) → AreNarrow t → ArrayFits t a → HaveNoArray (section_of a)
section_no_arrays t a few fit =
    (decimal-no_array a.repetition (small t.widths.repetition_octets a.repetition few.repetitions fit.0), no_arrays a.params (all_small t.widths.parameter_octets a.params few.params fit.1.2))

-- words before arrays, and the words of arrays, divided before each array
split-arrays : (t : TailoringParts) (front : List (List ℕ)) (arrays : List SuperList) → AreNarrow t → HaveNoArray front → AllByRecursion (ArrayFits t) arrays
    → slice_split is_array (front ++ flat_map array_words arrays) ≡ front ∷ map section_of arrays
split-arrays t front [] few none fit =
    ap (slice_split is_array) (append-nil front) ∙ slice_split_none is_array front (All-from_recursion _ front none)
split-arrays t front (a ∷ arrays) few none fit =
    slice_split_at is_array front (codes "array") (section_of a ++ flat_map array_words arrays) (All-from_recursion _ front none) refl
    ∙ ap (λ others. front ∷ others) (split-arrays t (section_of a) arrays few (section_no_arrays t a few fit.0) fit.1)

array-spelled : (t : TailoringParts) (a : SuperList) → AreNarrow t → ArrayFits t a → array_octets t (section_of a) ≡ st03.array_octets t a
array-spelled t a few fit =
    ap (λ octets. octets ++ list_octets t t.widths.parameter_octets (map decimal a.params)) (field-decimal t.widths.repetition_octets a.repetition few.repetitions fit.0)
    ∙ ap (λ octets. octets_of t.widths.repetition_octets a.repetition ++ octets) (list-spelled t t.widths.parameter_octets a.params few.params fit.1.1 fit.1.2)

arrays-spelled : (t : TailoringParts) (arrays : List SuperList) → AreNarrow t → AllByRecursion (ArrayFits t) arrays
    → flat_map (array_octets t) (map section_of arrays) ≡ flat_map (st03.array_octets t) arrays
arrays-spelled t [] few fit = refl
arrays-spelled t (a ∷ arrays) few fit =
    ap (λ octets. octets ++ flat_map (array_octets t) (map section_of arrays)) (array-spelled t a few fit.0)
    ∙ ap (λ octets. st03.array_octets t a ++ octets) (arrays-spelled t arrays few fit.1)

behind_simple : (ns : List ℕ) → behind_name (words_if_any (codes "simple") ns) ≡ map decimal ns
behind_simple [] = refl
behind_simple (n ∷ ns) = refl

length-sections : (arrays : List SuperList) → length (map section_of arrays) ≡ length arrays
length-sections [] = refl
length-sections (a ∷ arrays) = omega (arith, length-sections arrays)

-- the words of lists stand for their spelling
pub lists-spelled : (t : TailoringParts) (simple : List ℕ) (arrays : List SuperList) → AreNarrow t → ListsFit t simple arrays
    → lists_octets t (lists_words simple arrays) ≡ st03.lists_octets t simple arrays
lists-spelled t simple arrays few fit =
    let name : List (List ℕ) = words_if_any (codes "simple") simple in
    let width : ℕ = t.widths.parameter_octets in
    let more : List ℕ = flat_map (array_octets t) (map section_of arrays) in
    ap (section_octets t) (split-arrays t name arrays few (simple_no_arrays simple (all_small width simple few.params fit.params.2)) fit.each_array)
    ∙ ap (λ words. list_octets t width words ++ (count_octets t (length (map section_of arrays)) ++ more)) (behind_simple simple)
    ∙ ap (λ octets. octets ++ (count_octets t (length (map section_of arrays)) ++ more)) (list-spelled t width simple few.params fit.params.1 fit.params.2)
    ∙ ap (λ n. counted_octets t (octets_of width) simple ++ (count_octets t n ++ more)) (length-sections arrays)
    ∙ ap (λ octets. counted_octets t (octets_of width) simple ++ (octets ++ more)) (field-is t.widths.count_octets (length arrays) fit.array_count)
    ∙ ap (λ octets. counted_octets t (octets_of width) simple ++ (octets_of t.widths.count_octets (length arrays) ++ octets)) (arrays-spelled t arrays few fit.each_array)

pairs-alternate : (t : TailoringParts) (pairs : List Pair) → AreNarrow t → AllByRecursion (PairFits t) pairs
    → alternating_octets t.widths.structure_octets t.widths.interval_octets (flat_map pair_words pairs) ≡ flat_map (st03.pair_octets t) pairs
pairs-alternate t [] few fit = refl
pairs-alternate t (p ∷ pairs) few fit =
    let more : List ℕ = alternating_octets t.widths.structure_octets t.widths.interval_octets (flat_map pair_words pairs) in
    let id : List ℕ = octets_of t.widths.structure_octets p.id in
    let interval : List ℕ = octets_of t.widths.interval_octets p.interval in
    ap (λ octets. octets ++ (field t.widths.interval_octets (number_in (decimal p.interval)) ++ more)) (field-decimal t.widths.structure_octets p.id few.structures fit.0.0)
    ∙ ap (λ octets. id ++ (octets ++ more)) (field-decimal t.widths.interval_octets p.interval few.intervals fit.0.1)
    ∙ sym (append_assoc id interval more)
    ∙ ap (λ octets. (id ++ interval) ++ octets) (pairs-alternate t pairs few fit.1)

length-pairs : (pairs : List Pair) → length (flat_map pair_words pairs) ≡ 2 * length pairs
length-pairs [] = refl
length-pairs (p ∷ pairs) = omega (arith, length-pairs pairs)

half_of_pairs : (pairs : List Pair) → length (flat_map pair_words pairs) / 2 ≡ length pairs
half_of_pairs pairs = omega (arith, length-pairs pairs)

-- the words of structures' new intervals stand for their spelling
pub pairs-spelled : (t : TailoringParts) (pairs : List Pair) → AreNarrow t → length pairs < 256 ^ t.widths.count_octets → AllByRecursion (PairFits t) pairs
    → pair_octets t (flat_map pair_words pairs) ≡ counted_octets t (st03.pair_octets t) pairs
pairs-spelled t pairs few count fit =
    let more : List ℕ = alternating_octets t.widths.structure_octets t.widths.interval_octets (flat_map pair_words pairs) in
    ap (λ n. count_octets t n ++ more) (half_of_pairs pairs)
    ∙ ap (λ octets. octets ++ more) (field-is t.widths.count_octets (length pairs) count)
    ∙ ap (λ octets. octets_of t.widths.count_octets (length pairs) ++ octets) (pairs-alternate t pairs few fit)
