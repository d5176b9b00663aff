-- The octets that the words of a body stand for. A number that its field has no room for puts none.
use Rattle.std.specs.Prelude.{ℕ, ◌/◌, ◌^◌, nat_lt, ℤ, List, [], ◌∷◌, ◌++◌, length, flat_map, Bool, Option, Some, None, codes, if◌then◌else◌}
use Rattle.std.specs.Str.{bytes_eq}
use Rattle.std.specs.List.{slice_split}
use Rattle.std.specs.Option.{option_map_or}
use Rattle.hk_base.specs.TailoringParts.{TailoringParts}
use Rattle.hk_base.specs.Fields.{octets_of, signed_octets_of}
use Rattle.hk_base.specs.Parameters.{parameter, fits}
use Rattle.message_words.specs.Numbers.{number_in, value_in}
use Rattle.message_words.specs.declared.commands.StructureCommand.{StructureCommand}
use Rattle.message_words.specs.declared.commands.StructureCommand.TheVariants as structures
use Rattle.message_words.specs.declared.commands.StatisticsCommand.{StatisticsCommand}
use Rattle.message_words.specs.declared.commands.StatisticsCommand.TheVariants as statistics
use Rattle.message_words.specs.declared.commands.ValueCommand.{ValueCommand}
use Rattle.message_words.specs.declared.commands.ValueCommand.TheVariants as values

-- a number in a field of so many octets
abbrev pub field : ℕ → ℕ → List ℕ
field width n = if nat_lt n (256 ^ width) then octets_of width n else []

-- the number of members of a list
abbrev pub count_octets : TailoringParts → ℕ → List ℕ
count_octets t n = field t.widths.count_octets n

-- numbers in fields of so many octets each
abbrev pub number_octets : ℕ → List (List ℕ) → List ℕ
number_octets width words = flat_map (λ word. field width (number_in word)) words

-- a list of numbers in fields of so many octets each
abbrev pub list_octets : TailoringParts → ℕ → List (List ℕ) → List ℕ
list_octets t width words = count_octets t (length words) ++ number_octets width words

-- a list of parameters
abbrev pub parameters_octets : TailoringParts → List (List ℕ) → List ℕ
parameters_octets t ids = list_octets t t.widths.parameter_octets ids

-- the word before an array
abbrev pub is_array : List ℕ → Bool
is_array word = bytes_eq word (codes "array")

-- an array: its repetition number, and its parameters
abbrev pub array_octets : TailoringParts → List (List ℕ) → List ℕ
array_octets t [] = []
array_octets t (repetition ∷ ids) = field t.widths.repetition_octets (number_in repetition) ++ parameters_octets t ids

-- the words behind the first one
abbrev pub behind_name : List (List ℕ) → List (List ℕ)
behind_name [] = []
behind_name (name ∷ words) = words

-- simple parameters, of which a word tells where there are any, and arrays
abbrev pub section_octets : TailoringParts → List (List (List ℕ)) → List ℕ
section_octets t [] = []
section_octets t (simple ∷ arrays) =
    parameters_octets t (behind_name simple) ++ (count_octets t (length arrays) ++ flat_map (array_octets t) arrays)

-- simple parameters, and arrays after a word each
abbrev pub lists_octets : TailoringParts → List (List ℕ) → List ℕ
lists_octets t words = section_octets t (slice_split is_array words)

-- a structure's ID, a word, its interval, and its lists
abbrev pub creation_octets : TailoringParts → List (List ℕ) → List ℕ
creation_octets t (id ∷ name ∷ interval ∷ lists) =
    field t.widths.structure_octets (number_in id) ++ (field t.widths.interval_octets (number_in interval) ++ lists_octets t lists)
creation_octets t words = []

-- a structure's ID, and lists
abbrev pub appending_octets : TailoringParts → List (List ℕ) → List ℕ
appending_octets t [] = []
appending_octets t (id ∷ lists) = field t.widths.structure_octets (number_in id) ++ lists_octets t lists

-- numbers in fields of the one width and of the other in turn
abbrev pub alternating_octets : ℕ → ℕ → List (List ℕ) → List ℕ
alternating_octets width other [] = []
alternating_octets width other (word ∷ words) = field width (number_in word) ++ alternating_octets other width words

-- structures' IDs, and an interval after each
abbrev pub pair_octets : TailoringParts → List (List ℕ) → List ℕ
pair_octets t words = count_octets t (length words / 2) ++ alternating_octets t.widths.structure_octets t.widths.interval_octets words

-- a value that a parameter can have, in the parameter's octets
abbrev pub value_octets : TailoringParts → ℕ → ℤ → List ℕ
value_octets t id v = option_map_or (λ p. if fits p v then signed_octets_of p.octets v else []) (parameter t id) []

-- parameters' IDs, and a value after each; a parameter may stand before
abbrev pub setting_octets_from : TailoringParts → Option ℕ → List (List ℕ) → List ℕ
setting_octets_from t before [] = []
setting_octets_from t None (word ∷ words) =
    field t.widths.parameter_octets (number_in word) ++ setting_octets_from t (Some (number_in word)) words
setting_octets_from t (Some id) (word ∷ words) = value_octets t id (value_in word) ++ setting_octets_from t None words

-- parameters' IDs, and a value after each
abbrev pub setting_octets : TailoringParts → List (List ℕ) → List ℕ
setting_octets t words = count_octets t (length words / 2) ++ setting_octets_from t None words

-- parameters that are deleted: none are named where all are
abbrev pub deleted : List (List ℕ) → List (List ℕ)
deleted [] = []
deleted (word ∷ []) = if bytes_eq word (codes "all") then [] else word ∷ []
deleted (word ∷ next ∷ words) = word ∷ next ∷ words

-- the body of a request on structures
abbrev pub structure_octets : TailoringParts → StructureCommand → List (List ℕ) → List ℕ
structure_octets t structures.Create words = creation_octets t words
structure_octets t structures.Append words = appending_octets t words
structure_octets t (structures.OnEach each) words = list_octets t t.widths.structure_octets words
structure_octets t structures.Intervals words = pair_octets t words

-- the body of a statistics request
abbrev pub statistics_octets : TailoringParts → StatisticsCommand → List (List ℕ) → List ℕ
statistics_octets t statistics.Report words = number_octets 1 words
statistics_octets t statistics.Reset words = []
statistics_octets t statistics.Enable words = number_octets t.widths.interval_octets words
statistics_octets t statistics.Disable words = []
statistics_octets t statistics.Add words = parameters_octets t words
statistics_octets t statistics.Delete words = parameters_octets t (deleted words)
statistics_octets t statistics.ShowDefinitions words = []

-- the body of a request on parameter values
abbrev pub request20_octets : TailoringParts → ValueCommand → List (List ℕ) → List ℕ
request20_octets t values.Report words = parameters_octets t words
request20_octets t values.Set words = setting_octets t words
