-- The keys of a table in a document: where they stand, their kinds and their ranges.
use Rattle.std.specs.Prelude.{ℕ, ℤ, pos, negsuc, List, [], ◌∷◌, ◌++◌, length, map, filter_map, flat_map, Bool, true, false, ◌&&◌, int_le, Option, Some, None, Result, is_some, unwrap_or, option_map, option_and_then, codes, if◌then◌else◌}
use Rattle.std.specs.Option.{option_map_or}
use Rattle.std.specs.List.{list_all, enumerate_from}
use Rattle.std.specs.Fmt.{decimal}
use Rattle.toml.specs.Data.{Data, Items, no_items, item, Members, no_members, member, get_member, as_str, as_integer, as_bool, as_array, as_table}
use Rattle.toml.specs.View.{table_view}
use Rattle.hk_tailoring.specs.declared.section.Place.{Place}
use Rattle.hk_tailoring.specs.declared.section.Place.TheVariants.{Document, Parameter, Structure, Array}
use Rattle.hk_tailoring.specs.declared.section.Section.{Section as SectionBeside}
use Rattle.hk_tailoring.specs.Checks.{Check, check, Answers}
use Rattle.hk_tailoring.specs.declared.fault.TailoringFault.{TailoringFault}
use Rattle.hk_tailoring.specs.declared.fault.TailoringFault.TheVariants.{MissingKey, WrongKind, OutOfRange}

-- the values of an array
abbrev pub values_of : Items → List Data
values_of no_items = []
values_of (item d ds) = d ∷ values_of ds

-- the keys of a table
abbrev pub keys_of : Members → List (List ℕ)
keys_of no_members = []
keys_of (member key d ms) = key ∷ keys_of ms

-- a table of a document, and where it stands
pub record Section : Type 0 where
  pub place : Place
  pub members : Members

-- the section that the code reads
abbrev pub section_of : SectionBeside → Section
section_of s = record { place = s.place; members = table_view s.table.now }

-- what stands before the keys of a table
abbrev pub place_path : Place → List ℕ
place_path Document = []
place_path (Parameter n) = codes "parameter[" ++ (decimal n ++ codes "].")
place_path (Structure n) = codes "structure[" ++ (decimal n ++ codes "].")
place_path (Array n m) = codes "structure[" ++ (decimal n ++ (codes "].array[" ++ (decimal m ++ codes "].")))

-- the path of a key
abbrev pub path_of : Section → List ℕ → List ℕ
path_of s key = place_path s.place ++ key

-- the path of a member of a key's list
abbrev pub member_path : Section → List ℕ → ℕ → List ℕ
member_path s key n = place_path s.place ++ (key ++ (codes "[" ++ (decimal n ++ codes "]")))

-- the value of a key
abbrev pub at_key : Section → List ℕ → Option Data
at_key s key = get_member key s.members

-- the number of a key, if it has one
abbrev pub number_at : Section → List ℕ → Option ℤ
number_at s key = option_and_then as_integer (at_key s key)

-- the number of an integer that isn't negative
abbrev pub natural : ℤ → ℕ
natural (pos n) = n
natural (negsuc n) = 0

-- the number of a key, or another where the key is missing
unfoldable pub natural_at : Section → List ℕ → ℕ → ℕ
natural_at s key missing = option_map_or natural (number_at s key) missing

-- a number from low to high
abbrev pub is_within : ℕ → ℕ → ℤ → Bool
is_within low high n = int_le (pos low) n && int_le n (pos high)

-- whether a value is a whole number
abbrev pub is_number : Data → Bool
is_number d = is_some (as_integer d)

-- the key is there
abbrev pub presence : Section → List ℕ → Check
presence s key = check (MissingKey (path_of s key)) (is_some (at_key s key))

-- its value, if it is there, has a kind
abbrev pub kind_check : Section → List ℕ → (Data → Bool) → Check
kind_check s key is_kind = check (WrongKind (path_of s key)) (option_map_or is_kind (at_key s key) true)

-- a number, if there is one, passes a test
abbrev pub range_check : List ℕ → (ℤ → Bool) → Option ℤ → Check
range_check path test n = check (OutOfRange path (unwrap_or n (pos 0))) (option_map_or test n true)

-- a key that may be missing, with a number from low to high
unfoldable pub number_checks : Section → List ℕ → ℕ → ℕ → List Check
number_checks s key low high =
    kind_check s key is_number ∷ range_check (path_of s key) (is_within low high) (number_at s key) ∷ []

-- a key that must be there, with a number from low to high
unfoldable pub needed_number_checks : Section → List ℕ → ℕ → ℕ → List Check
needed_number_checks s key low high = presence s key ∷ number_checks s key low high

-- An answer to some checks of a key is its number, or another where the key is missing.
abbrev pub AnswersNumber : List Check → Section → List ℕ → ℕ → Result ℕ TailoringFault → Type 0
AnswersNumber checks s key missing result = Answers (λ n. n) checks (natural_at s key missing) result

-- the flag of a key, false where it is missing
unfoldable pub flag_at : Section → List ℕ → Bool
flag_at s key = unwrap_or (option_and_then as_bool (at_key s key)) false

-- a key that may be missing, with a flag
unfoldable pub flag_checks : Section → List ℕ → List Check
flag_checks s key = kind_check s key (λ d. is_some (as_bool d)) ∷ []

-- the text of a key, if it has one
abbrev pub text_at : Section → List ℕ → Option (List ℕ)
text_at s key = option_and_then as_str (at_key s key)

-- the values of a list
abbrev pub list_of : Data → Option (List Data)
list_of d = option_map values_of (as_array d)

-- the values of a list that has tables alone
abbrev pub table_list_of : Data → Option (List Data)
table_list_of d = option_and_then (λ ds. if list_all (λ x. is_some (as_table x)) ds then Some ds else None) (list_of d)

-- the values of a key's list, none where it is missing
unfoldable pub list_at : Section → List ℕ → List Data
list_at s key = unwrap_or (option_and_then list_of (at_key s key)) []

-- the number of members of a key's list, if it is there, is from low to high
abbrev pub length_check : Section → List ℕ → ℕ → ℕ → Check
length_check s key low high =
    range_check (path_of s key) (is_within low high) (option_map (λ d. pos (length (list_at s key))) (at_key s key))

-- a key that may be missing, with a list of so many members
unfoldable pub list_checks : Section → List ℕ → ℕ → ℕ → List Check
list_checks s key low high = kind_check s key (λ d. is_some (list_of d)) ∷ length_check s key low high ∷ []

-- a key that may be missing, with so many tables
unfoldable pub tables_checks : Section → List ℕ → ℕ → ℕ → List Check
tables_checks s key low high = kind_check s key (λ d. is_some (table_list_of d)) ∷ length_check s key low high ∷ []

-- a key that must be there, with so many tables
unfoldable pub needed_tables_checks : Section → List ℕ → ℕ → ℕ → List Check
needed_tables_checks s key low high = presence s key ∷ tables_checks s key low high

-- the number of a value, if it is a whole number
abbrev pub natural_of : Data → Option ℕ
natural_of d = option_map natural (as_integer d)

-- the numbers in a list of values
abbrev pub naturals_in : List Data → List ℕ
naturals_in ds = filter_map natural_of ds

-- the numbers of a key's list
abbrev pub naturals_at : Section → List ℕ → List ℕ
naturals_at s key = naturals_in (list_at s key)

-- a member of a list of numbers up to a greatest one, with its place in the list
unfoldable pub member_checks : Section → List ℕ → ℕ → ℕ × Data → List Check
member_checks s key greatest (n, d) =
    check (WrongKind (member_path s key n)) (is_number d)
    ∷ range_check (member_path s key n) (is_within 0 greatest) (as_integer d)
    ∷ []

-- the members of a list of numbers up to a greatest one, from this place on
abbrev pub members_checks : Section → List ℕ → ℕ → ℕ → List Data → List Check
members_checks s key greatest n ds = flat_map (member_checks s key greatest) (enumerate_from n ds)

-- a key that may be missing, with so many numbers up to a greatest one: the kind, the number of members, and each member
unfoldable pub numbers_checks : Section → List ℕ → ℕ → ℕ → ℕ → List Check
numbers_checks s key low high greatest = list_checks s key low high ++ members_checks s key greatest 0 (list_at s key)

-- a key that must be there, with so many numbers up to a greatest one
unfoldable pub needed_numbers_checks : Section → List ℕ → ℕ → ℕ → ℕ → List Check
needed_numbers_checks s key low high greatest = presence s key ∷ numbers_checks s key low high greatest

-- An answer to some checks of a key is the numbers of its list.
abbrev pub AnswersIds : List Check → Section → List ℕ → Result (List ℕ) TailoringFault → Type 0
AnswersIds checks s key result = Answers (λ ids. ids) checks (naturals_at s key) result

-- An answer to some checks of a key is the numbers of its list, as values of a parameter.
abbrev pub AnswersValues : List Check → Section → List ℕ → Result (List ℤ) TailoringFault → Type 0
AnswersValues checks s key result = Answers (λ values. values) checks (map pos (naturals_at s key)) result

-- An answer to the checks of a list's members is its numbers, as they are read.
abbrev pub AnswersMembers : {A V : Type 0} → (A → V) → (List ℕ → V) → Section → List ℕ → ℕ → List Data → Result A TailoringFault → Type 0
AnswersMembers view reading s key greatest ds result = Answers view (members_checks s key greatest 0 ds) (reading (naturals_in ds)) result
