-- Tailoring files: their checks in order, their first fault, and the tailoring that a file without fault stands for.
use Rattle.std.specs.Prelude.{◌≡◌, ℕ, List, [], ◌∷◌, ◌++◌, map, Bool, ◌==◌, Option, Some, None, IfSome, IsSome, codes, if◌then◌else◌}
use Rattle.std.specs.Str.{is_utf8}
use Rattle.toml.specs.Data.{Members}
use Rattle.toml.specs.Parse.{parse_document}
use Rattle.hk_base.specs.TailoringParts.{TailoringParts}
use Rattle.hk_base.specs.declared.types.Param.{Param}
use Rattle.hk_base.specs.declared.types.Boot.{Boot}
use Rattle.hk_tailoring.specs.declared.section.Place.TheVariants as place
use Rattle.hk_tailoring.specs.declared.section.TableKind.TheVariants as table
use Rattle.hk_tailoring.specs.declared.fault.TailoringFault.{TailoringFault}
use Rattle.hk_tailoring.specs.declared.fault.TailoringFault.TheVariants.{NotToml}
use Rattle.hk_tailoring.specs.Checks.{Check, first_fault}
use Rattle.hk_tailoring.specs.Keys.{Section, natural_at, list_at, needed_tables_checks, tables_checks}
use Rattle.hk_tailoring.specs.Known.{known_keys, known_check}
use Rattle.hk_tailoring.specs.Widths.{max_interval_in, width_checks, AreWidths}
use Rattle.hk_tailoring.specs.Params.{param_in, params_checks, sections}
use Rattle.hk_tailoring.specs.Structures.{Bounds, boot_in, structures_checks}

-- the whole document
abbrev pub document : Members → Section
document members = record { place = place.Document; members = members }

-- whether a document packs the values of reports
abbrev pub is_packed : Section → Bool
is_packed s = natural_at s (codes "version") 0 == 2

-- what the checks of a document's structures rest on
abbrev pub bounds_in : Section → Bounds
bounds_in s =
    record {
      structure_octets = natural_at s (codes "structure_octets") 1;
      parameter_octets = natural_at s (codes "parameter_octets") 2;
      repetition_octets = natural_at s (codes "repetition_octets") 1;
      max_interval = max_interval_in s (natural_at s (codes "interval_octets") 2);
      max_payload = natural_at s (codes "max_payload") 1024;
    }

-- the tables of a document's parameters, and those of its structures
abbrev pub param_sections : Section → List Section
param_sections s = sections place.Parameter 0 (list_at s (codes "parameter"))

-- the tables of a document's structures
abbrev pub structure_sections : Section → List Section
structure_sections s = sections place.Structure 0 (list_at s (codes "structure"))

-- the parameters that a document states
abbrev pub params_in : Section → List Param
params_in s = map (param_in (is_packed s)) (param_sections s)

-- the structures that a document states
abbrev pub boots_in : Section → List Boot
boots_in s = map boot_in (structure_sections s)

-- the checks of a document's parameters
abbrev pub all_param_checks : Section → List Check
all_param_checks s = params_checks (natural_at s (codes "parameter_octets") 2) (is_packed s) [] (param_sections s)

-- the checks of a document's structures
abbrev pub all_structure_checks : Section → List Check
all_structure_checks s = structures_checks (bounds_in s) (params_in s) [] (structure_sections s)

-- all checks of a document: its keys, its parameters, its structures
unfoldable pub document_checks : Section → List Check
document_checks s =
    width_checks s
    ++ (needed_tables_checks s (codes "parameter") 1 512
    ++ (tables_checks s (codes "structure") 0 64
    ++ (known_check s (known_keys table.Document) ∷ [] ++ (all_param_checks s ++ all_structure_checks s))))

-- the first fault of a document
abbrev pub tree_fault : Members → Option TailoringFault
tree_fault members = first_fault (document_checks (document members))

-- a tailoring is what a document states
pub record Stands (s : Section) (t : TailoringParts) : Type 0 where
  pub widths : AreWidths s t.widths
  pub params : t.params ≡ params_in s
  pub boots : t.boots ≡ boots_in s

-- the document of a file
abbrev pub tree_of : List ℕ → Option Members
tree_of octets = if is_utf8 octets then parse_document octets else None

-- the first fault of a file that has a document, or has none
abbrev pub fault_by_tree : Option Members → Option TailoringFault
fault_by_tree None = Some NotToml
fault_by_tree (Some members) = tree_fault members

-- the first fault of a file
abbrev pub file_fault : List ℕ → Option TailoringFault
file_fault octets = fault_by_tree (tree_of octets)

-- a tailoring is what a file states
abbrev pub IsOf : List ℕ → TailoringParts → Type 0
IsOf octets t = IfSome (tree_of octets) (λ members. Stands (document members) t) × IsSome (tree_of octets)
