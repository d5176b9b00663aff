-- The parameters that a document states: their checks in order, and what they stand for.
use Rattle.std.specs.Prelude.{ℕ, ℤ, ◌+◌, ◌-◌, ◌*◌, ◌/◌, ◌^◌, List, [], ◌∷◌, ◌++◌, map, filter_map, Bool, true, false, not, ◌==◌, pos, Option, Some, None, is_some, unwrap_or, option_map, option_and_then, codes, if◌then◌else◌}
use Rattle.std.specs.List.{list_any, enumerate_from}
use Rattle.std.specs.Str.{bytes_eq}
use Rattle.toml.specs.Data.{Data, as_str, as_table}
use Rattle.hk_base.specs.Parameters.{in_range}
use Rattle.hk_base.specs.declared.types.Form.{Form}
use Rattle.hk_base.specs.declared.types.Form.TheVariants as form
use Rattle.hk_base.specs.declared.types.Param.{Param}
use Rattle.hk_tailoring.specs.declared.section.Place.{Place}
use Rattle.hk_tailoring.specs.declared.section.TableKind.TheVariants as table
use Rattle.hk_tailoring.specs.declared.params.FormName.{FormName}
use Rattle.hk_tailoring.specs.declared.params.FormName.TheVariants.{Unsigned, Signed, Enumerated, Boolean}
use Rattle.hk_tailoring.specs.Checks.{Check, check}
use Rattle.hk_tailoring.specs.Keys.{Section, path_of, number_at, text_at, natural_at, naturals_at, is_number, presence, kind_check, range_check, needed_number_checks, needed_numbers_checks}
use Rattle.hk_tailoring.specs.Known.{width_key, known_keys, known_check}
use Rattle.hk_tailoring.specs.Widths.{greatest_in}
use Rattle.hk_tailoring.specs.declared.fault.TailoringFault.TheVariants.{RepeatedParam}

-- the form of a name
abbrev pub form_named : List ℕ → Option FormName
form_named text =
    if bytes_eq text (codes "unsigned") then Some Unsigned
    else if bytes_eq text (codes "signed") then Some Signed
    else if bytes_eq text (codes "enumerated") then Some Enumerated
    else if bytes_eq text (codes "boolean") then Some Boolean
    else None

-- a key that must be there, with a text that names something
abbrev pub word_checks : {A : Type 0} → Section → List ℕ → (List ℕ → Option A) → List Check
word_checks s key named = presence s key ∷ kind_check s key (λ d. is_some (option_and_then named (as_str d))) ∷ []

-- the checks of a parameter's kind
unfoldable pub form_checks : Section → List Check
form_checks s = word_checks s (codes "kind") form_named

-- the form that a parameter names
unfoldable pub form_name_in : Section → FormName
form_name_in s = unwrap_or (option_and_then form_named (text_at s (codes "kind"))) Unsigned

-- the greatest width of a parameter
abbrev pub greatest_width : Bool → ℕ
greatest_width packed = if packed then 64 else 8

-- the bits of a parameter, which states them or its octets
unfoldable pub bits_in : Bool → Section → ℕ
bits_in packed s = let width = natural_at s (width_key packed) 0 in if packed then width else 8 * width

-- the checks of a parameter's width
unfoldable pub bits_checks : Bool → Section → List Check
bits_checks packed s = needed_number_checks s (width_key packed) 1 (greatest_width packed)

-- a form by its name, with the values that a parameter states
abbrev pub form_of : FormName → Section → Form
form_of Unsigned s = form.Unsigned
form_of Signed s = form.Signed
form_of Enumerated s = form.Enumerated (map pos (naturals_at s (codes "values")))
form_of Boolean s = form.Boolean

-- the values of a parameter are needed where it is enumerated
unfoldable pub values_checks : FormName → ℕ → Section → List Check
values_checks Unsigned bits s = []
values_checks Signed bits s = []
values_checks Enumerated bits s = needed_numbers_checks s (codes "values") 1 64 (2 ^ bits - 1)
values_checks Boolean bits s = []

-- the initial value of a parameter, if it states one
abbrev pub initial_in : Section → Option ℤ
initial_in s = number_at s (codes "initial")

-- a parameter's initial value, if it has one, fits it
unfoldable pub initial_checks : Form → ℕ → Section → List Check
initial_checks form bits s =
    kind_check s (codes "initial") is_number
    ∷ range_check (path_of s (codes "initial")) (in_range form bits) (initial_in s)
    ∷ []

-- whether a form is enumerated
abbrev pub is_enumerated : FormName → Bool
is_enumerated Unsigned = false
is_enumerated Signed = false
is_enumerated Enumerated = true
is_enumerated Boolean = false

-- no key of a parameter is unknown: that of the other version is, and `values` is where it isn't enumerated
abbrev pub param_known_check : Bool → FormName → Section → Check
param_known_check packed name s = known_check s (known_keys (table.Parameter packed (is_enumerated name)))

-- the checks of a parameter, by the octets of IDs and by whether values are packed
unfoldable pub param_checks : ℕ → Bool → Section → List Check
param_checks octets packed s =
    needed_number_checks s (codes "id") 0 (greatest_in (8 * octets))
    ++ (form_checks s
    ++ (bits_checks packed s
    ++ (values_checks (form_name_in s) (bits_in packed s) s
    ++ (initial_checks (form_of (form_name_in s) s) (bits_in packed s) s ++ param_known_check packed (form_name_in s) s ∷ []))))

-- the parameter that a section stands for
abbrev pub param_in : Bool → Section → Param
param_in packed s =
    record {
      id = natural_at s (codes "id") 0;
      form = form_of (form_name_in s) s;
      octets = (bits_in packed s + 7) / 8;
      bits = bits_in packed s;
      initial = initial_in s;
    }

-- a table that stands at a place
abbrev pub place_section : Place → Data → Option Section
place_section place d = option_map (λ members. record { place = place; members = members }) (as_table d)

-- a table of a list, with its number
abbrev pub section_at : (ℕ → Place) → ℕ × Data → Option Section
section_at place (n, d) = place_section (place n) d

-- the tables of a list, from this place on
abbrev pub sections : (ℕ → Place) → ℕ → List Data → List Section
sections place n ds = filter_map (section_at place) (enumerate_from n ds)

-- no parameter before has this ID
abbrev pub repeat_check : List Param → Param → Check
repeat_check earlier p = check (RepeatedParam p.id) (not (list_any (λ e. e.id == p.id) earlier))

-- the checks of a parameter after those that stand before it
unfoldable pub next_param_checks : ℕ → Bool → List Param → Section → List Check
next_param_checks octets packed earlier s = param_checks octets packed s ++ repeat_check earlier (param_in packed s) ∷ []

-- the checks of parameters in order, after those that stand before them
abbrev pub params_checks : ℕ → Bool → List Param → List Section → List Check
params_checks octets packed earlier [] = []
params_checks octets packed earlier (s ∷ ss) =
    next_param_checks octets packed earlier s ++ params_checks octets packed (earlier ++ param_in packed s ∷ []) ss
