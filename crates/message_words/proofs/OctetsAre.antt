-- What the words of a body stand for are octets.
use Rattle.std.proofs.Common.{ℕ, zero, suc, ◌*◌, ◌/◌, ◌^◌, ◌<◌, Bool, true, false, ℤ, List, [], ◌∷◌, ◌++◌, flat_map, length, Option, Some, None, arith}
use Rattle.std.specs.Prelude.{nat_lt, if◌then◌else◌}
use Rattle.std.specs.Option.{option_map_or}
use Rattle.std.specs.List.{slice_split}
use Rattle.hk_base.specs.TailoringParts.{TailoringParts}
use Rattle.hk_base.specs.Fields.{octets_of, signed_octets_of, twos_complement}
use Rattle.hk_base.specs.Parameters.{parameter, fits}
use Rattle.body_fields.specs.Spelling.{AreOctets}
use Rattle.hk_base.specs.declared.types.Param.{Param}
use Rattle.hk_base.proofs.Membership.{AllByRecursion-append}
use Rattle.message_words.specs.Numbers.{number_in, value_in}
use Rattle.message_words.specs.BodyOctets.{field, count_octets, number_octets, list_octets, is_array, array_octets, behind_name, section_octets, lists_octets, creation_octets, appending_octets, alternating_octets, value_octets, setting_octets_from, deleted, structure_octets, statistics_octets, request20_octets}
use Rattle.message_words.specs.declared.commands.StructureCommand.{StructureCommand}
use Rattle.message_words.specs.declared.commands.StructureCommand.TheVariants as structures
use Rattle.message_words.specs.declared.commands.StatisticsCommand.{StatisticsCommand}
use Rattle.message_words.specs.declared.commands.StatisticsCommand.TheVariants as statistics
use Rattle.message_words.specs.declared.commands.ValueCommand.{ValueCommand}
use Rattle.message_words.specs.declared.commands.ValueCommand.TheVariants as values

both : (xs ys : List ℕ) → AreOctets xs → AreOctets ys → AreOctets (xs ++ ys)
both xs ys are more = AllByRecursion-append (λ octet. octet < 256) xs ys are more

all : {X : Type 0} (f : X → List ℕ) → ((x : X) → AreOctets (f x)) → (xs : List X) → AreOctets (flat_map f xs)
all f are [] = tt
all f are (x ∷ xs) = both (f x) (flat_map f xs) (are x) (all f are xs)

number_are : (count n : ℕ) → AreOctets (octets_of count n)
number_are zero n = tt
number_are (suc count) n = (omega arith, number_are count n)

if_are : (b : Bool) (octets : List ℕ) → AreOctets octets → AreOctets (if b then octets else [])
if_are true octets are = are
if_are false octets are = tt

field_are : (width n : ℕ) → AreOctets (field width n)
field_are width n = if_are (nat_lt n (256 ^ width)) (octets_of width n) (number_are width n)

numbers_are : (width : ℕ) (words : List (List ℕ)) → AreOctets (number_octets width words)
numbers_are width words = all (λ word. field width (number_in word)) (λ word. field_are width (number_in word)) words

list_are : (t : TailoringParts) (width : ℕ) (words : List (List ℕ)) → AreOctets (list_octets t width words)
list_are t width words = both (count_octets t (length words)) (number_octets width words) (field_are t.widths.count_octets (length words)) (numbers_are width words)

array_are : (t : TailoringParts) (words : List (List ℕ)) → AreOctets (array_octets t words)
array_are t [] = tt
array_are t (repetition ∷ ids) =
    both (field t.widths.repetition_octets (number_in repetition)) (list_octets t t.widths.parameter_octets ids) (field_are t.widths.repetition_octets (number_in repetition)) (list_are t t.widths.parameter_octets ids)

sections_are : (t : TailoringParts) (sections : List (List (List ℕ))) → AreOctets (section_octets t sections)
sections_are t [] = tt
sections_are t (simple ∷ arrays) =
    let more : List ℕ = flat_map (array_octets t) arrays in
    both (list_octets t t.widths.parameter_octets (behind_name simple)) (count_octets t (length arrays) ++ more) (list_are t t.widths.parameter_octets (behind_name simple))
    (both (count_octets t (length arrays)) more (field_are t.widths.count_octets (length arrays)) (all (array_octets t) (array_are t) arrays))

lists_are : (t : TailoringParts) (words : List (List ℕ)) → AreOctets (lists_octets t words)
lists_are t words = sections_are t (slice_split is_array words)

creation_are : (t : TailoringParts) (words : List (List ℕ)) → AreOctets (creation_octets t words)
creation_are t [] = tt
creation_are t (id ∷ []) = tt
creation_are t (id ∷ name ∷ []) = tt
creation_are t (id ∷ name ∷ interval ∷ lists) =
    let n : List ℕ = field t.widths.interval_octets (number_in interval) in
    both (field t.widths.structure_octets (number_in id)) (n ++ lists_octets t lists) (field_are t.widths.structure_octets (number_in id))
    (both n (lists_octets t lists) (field_are t.widths.interval_octets (number_in interval)) (lists_are t lists))

appending_are : (t : TailoringParts) (words : List (List ℕ)) → AreOctets (appending_octets t words)
appending_are t [] = tt
appending_are t (id ∷ lists) =
    both (field t.widths.structure_octets (number_in id)) (lists_octets t lists) (field_are t.widths.structure_octets (number_in id)) (lists_are t lists)

alternating_are : (width other : ℕ) (words : List (List ℕ)) → AreOctets (alternating_octets width other words)
alternating_are width other [] = tt
alternating_are width other (word ∷ words) =
    both (field width (number_in word)) (alternating_octets other width words) (field_are width (number_in word)) (alternating_are other width words)

value_are : (o : Option Param) (v : ℤ) → AreOctets (option_map_or (λ p. if fits p v then signed_octets_of p.octets v else []) o [])
value_are None v = tt
value_are (Some p) v = if_are (fits p v) (signed_octets_of p.octets v) (number_are p.octets (twos_complement (8 * p.octets) v))

settings_are : (t : TailoringParts) (before : Option ℕ) (words : List (List ℕ)) → AreOctets (setting_octets_from t before words)
settings_are t None [] = tt
settings_are t (Some id) [] = tt
settings_are t None (word ∷ words) =
    both (field t.widths.parameter_octets (number_in word)) (setting_octets_from t (Some (number_in word)) words) (field_are t.widths.parameter_octets (number_in word)) (settings_are t (Some (number_in word)) words)
settings_are t (Some id) (word ∷ words) =
    both (value_octets t id (value_in word)) (setting_octets_from t None words) (value_are (parameter t id) (value_in word)) (settings_are t None words)

halves_are : (t : TailoringParts) (words : List (List ℕ)) (octets : List ℕ) → AreOctets octets → AreOctets (count_octets t (length words / 2) ++ octets)
halves_are t words octets are = both (count_octets t (length words / 2)) octets (field_are t.widths.count_octets (length words / 2)) are

-- a body of a request on structures
pub structure_are : (t : TailoringParts) (command : StructureCommand) (words : List (List ℕ)) → AreOctets (structure_octets t command words)
structure_are t structures.Create words = creation_are t words
structure_are t structures.Append words = appending_are t words
structure_are t (structures.OnEach each) words = list_are t t.widths.structure_octets words
structure_are t structures.Intervals words =
    halves_are t words (alternating_octets t.widths.structure_octets t.widths.interval_octets words) (alternating_are t.widths.structure_octets t.widths.interval_octets words)

-- a body of a statistics request
pub statistics_are : (t : TailoringParts) (command : StatisticsCommand) (words : List (List ℕ)) → AreOctets (statistics_octets t command words)
statistics_are t statistics.Report words = numbers_are 1 words
statistics_are t statistics.Reset words = tt
statistics_are t statistics.Enable words = numbers_are t.widths.interval_octets words
statistics_are t statistics.Disable words = tt
statistics_are t statistics.Add words = list_are t t.widths.parameter_octets words
statistics_are t statistics.Delete words = list_are t t.widths.parameter_octets (deleted words)
statistics_are t statistics.ShowDefinitions words = tt

-- a body of a request on parameter values
pub request20_are : (t : TailoringParts) (command : ValueCommand) (words : List (List ℕ)) → AreOctets (request20_octets t command words)
request20_are t values.Report words = list_are t t.widths.parameter_octets words
request20_are t values.Set words = halves_are t words (setting_octets_from t None words) (settings_are t None words)
