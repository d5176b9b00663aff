-- The structures that a document states: their checks in order, and what they stand for.
use Rattle.std.specs.Prelude.{ℕ, ◌*◌, ◌%◌, List, [], ◌∷◌, ◌++◌, map, flat_map, Bool, true, false, not, ◌==◌, nat_le, pos, Option, Some, None, unwrap_or, option_and_then, codes, if◌then◌else◌}
use Rattle.std.specs.List.{list_any}
use Rattle.std.specs.Str.{bytes_eq}
use Rattle.hk_base.specs.Definitions.{parameter_ids}
use Rattle.hk_base.specs.Parameters.{key_eq}
use Rattle.hk_base.specs.Payload.{payload_size}
use Rattle.hk_base.specs.declared.types.Widths.{Widths}
use Rattle.hk_base.specs.declared.types.TheConstants.{BUILTIN_WIDTHS}
use Rattle.hk_base.specs.declared.types.Param.{Param}
use Rattle.hk_base.specs.declared.types.Kind.{Kind}
use Rattle.hk_base.specs.declared.types.Kind.TheVariants.{Housekeeping, Diagnostic}
use Rattle.hk_base.specs.declared.types.SuperList.{SuperList}
use Rattle.hk_base.specs.declared.types.Definition.{Definition}
use Rattle.hk_base.specs.declared.types.Boot.{Boot}
use Rattle.hk_tailoring.specs.declared.section.Place.{Place}
use Rattle.hk_tailoring.specs.declared.section.Place.TheVariants as place
use Rattle.hk_tailoring.specs.declared.section.TableKind.TheVariants as table
use Rattle.hk_tailoring.specs.Checks.{Check, check}
use Rattle.hk_tailoring.specs.Keys.{Section, path_of, text_at, natural_at, flag_at, naturals_at, list_at, needed_number_checks, flag_checks, tables_checks, numbers_checks, needed_numbers_checks}
use Rattle.hk_tailoring.specs.Known.{known_keys, known_check}
use Rattle.hk_tailoring.specs.Widths.{greatest_in}
use Rattle.hk_tailoring.specs.Params.{word_checks, sections}
use Rattle.hk_tailoring.specs.declared.fault.TailoringFault.TheVariants.{OutOfRange, UnknownParam, RepeatedStructure, BadRepetition, TooWide, Doubled}

-- what the checks of structures rest on
pub record Bounds : Type 0 where
  pub structure_octets : ℕ
  pub parameter_octets : ℕ
  pub repetition_octets : ℕ
  pub max_interval : ℕ
  pub max_payload : ℕ

-- the bounds in some widths
abbrev pub bounds_of : Widths → Bounds
bounds_of w =
    record {
      structure_octets = w.structure_octets;
      parameter_octets = w.parameter_octets;
      repetition_octets = w.repetition_octets;
      max_interval = w.max_interval;
      max_payload = w.max_payload;
    }

-- the kind of a name
abbrev pub kind_named : List ℕ → Option Kind
kind_named text =
    if bytes_eq text (codes "housekeeping") then Some Housekeeping
    else if bytes_eq text (codes "diagnostic") then Some Diagnostic
    else None

-- the checks of a structure's kind
unfoldable pub kind_checks : Section → List Check
kind_checks s = word_checks s (codes "kind") kind_named

-- the kind that a structure names
unfoldable pub kind_in : Section → Kind
kind_in s = unwrap_or (option_and_then kind_named (text_at s (codes "kind"))) Housekeeping

-- the checks of an array
unfoldable pub array_checks : Bounds → Section → List Check
array_checks b s =
    needed_number_checks s (codes "repetition") 1 (greatest_in (8 * b.repetition_octets))
    ++ (needed_numbers_checks s (codes "parameters") 1 255 (greatest_in (8 * b.parameter_octets)) ++ known_check s (known_keys table.Array) ∷ [])

-- the array that a section stands for
abbrev pub array_in : Section → SuperList
array_in s = record { repetition = natural_at s (codes "repetition") 0; params = naturals_at s (codes "parameters") }

-- where the arrays of a structure stand
abbrev pub array_place : Place → ℕ → Place
array_place (place.Structure n) m = place.Array n m
array_place other m = other

-- the arrays of a structure
abbrev pub array_sections : Section → List Section
array_sections s = sections (array_place s.place) 0 (list_at s (codes "array"))

-- the checks of arrays in order
abbrev pub arrays_checks : Bounds → List Section → List Check
arrays_checks b ss = flat_map (array_checks b) ss

-- the structure that a section stands for
abbrev pub boot_in : Section → Boot
boot_in s =
    record {
      key = record { kind = kind_in s; id = natural_at s (codes "id") 0 };
      structure =
          record {
            def =
                record {
                  interval = natural_at s (codes "interval") 0;
                  simple = naturals_at s (codes "simple");
                  arrays = map array_in (array_sections s);
                };
            enabled = flag_at s (codes "enabled");
          };
    }

-- the checks of a structure's keys
unfoldable pub structure_key_checks : Bounds → Section → List Check
structure_key_checks b s =
    kind_checks s
    ++ (needed_number_checks s (codes "id") 0 (greatest_in (8 * b.structure_octets))
    ++ (needed_number_checks s (codes "interval") 1 b.max_interval
    ++ (flag_checks s (codes "enabled")
    ++ (numbers_checks s (codes "simple") 0 255 (greatest_in (8 * b.parameter_octets))
    ++ (tables_checks s (codes "array") 0 255 ++ (arrays_checks b (array_sections s) ++ known_check s (known_keys table.Structure) ∷ []))))))

-- a parameter ID is known, and isn't among those before
unfoldable pub id_checks : List Param → List ℕ → ℕ → List Check
id_checks params earlier id =
    check (UnknownParam id) (list_any (λ p. p.id == id) params)
    ∷ check (Doubled id) (not (list_any (λ e. e == id) earlier))
    ∷ []

-- each parameter ID is known, and none stands twice
abbrev pub ids_checks : List Param → List ℕ → List ℕ → List Check
ids_checks params earlier [] = []
ids_checks params earlier (id ∷ ids) = id_checks params earlier id ++ ids_checks params (earlier ++ id ∷ []) ids

-- a repetition number divides the interval
abbrev pub repetition_check : ℕ → SuperList → Check
repetition_check interval a = check (BadRepetition a.repetition interval) (interval % a.repetition == 0)

-- the repetition numbers divide the interval
abbrev pub repetition_checks : ℕ → List SuperList → List Check
repetition_checks interval arrays = map (repetition_check interval) arrays

-- whether there is no ID
abbrev pub is_empty_list : List ℕ → Bool
is_empty_list [] = true
is_empty_list (id ∷ ids) = false

-- the octets of a payload, which rest on the parameters alone
abbrev pub size_of : List Param → Definition → ℕ
size_of params d = payload_size (record { widths = BUILTIN_WIDTHS; params = params; boots = [] }) d

-- a definition isn't too wide
abbrev pub width_check : ℕ → List Param → Definition → Check
width_check most params d = check (TooWide (size_of params d)) (nat_le (size_of params d) most)

-- there is a parameter
abbrev pub some_check : Section → Definition → Check
some_check s d = check (OutOfRange (path_of s (codes "simple")) (pos 0)) (not (is_empty_list (parameter_ids d)))

-- the checks of a definition in a structure's section
unfoldable pub definition_checks : Bounds → List Param → Section → Definition → List Check
definition_checks b params s d =
    some_check s d ∷ []
    ++ (ids_checks params [] (parameter_ids d) ++ (repetition_checks d.interval d.arrays ++ width_check b.max_payload params d ∷ []))

-- no structure before has this key
abbrev pub key_check : List Boot → Boot → Check
key_check earlier boot = check (RepeatedStructure boot.key) (not (list_any (λ e. key_eq e.key boot.key) earlier))

-- the checks of a structure after those that stand before it
unfoldable pub next_structure_checks : Bounds → List Param → List Boot → Section → List Check
next_structure_checks b params earlier s =
    structure_key_checks b s ++ (key_check earlier (boot_in s) ∷ [] ++ definition_checks b params s (boot_in s).structure.def)

-- the checks of structures in order, after those that stand before them
abbrev pub structures_checks : Bounds → List Param → List Boot → List Section → List Check
structures_checks b params earlier [] = []
structures_checks b params earlier (s ∷ ss) =
    next_structure_checks b params earlier s ++ structures_checks b params (earlier ++ boot_in s ∷ []) ss
