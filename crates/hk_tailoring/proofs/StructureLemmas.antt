-- The structures of a document, one after the other.
use Rattle.std.proofs.Common.{◌≡◌, ℕ, ◌+◌, ◌<◌, ap, List, [], ◌∷◌, ◌++◌, map, length, drop, get_or, Some, None, true, false, not, cond, subst}
use Rattle.std.specs.List.{list_any, AllByRecursion}
use Rattle.toml.specs.View.{view}
use Rattle.toml.specs.declared.value.Value.{Value}
use Rattle.hk_base.specs.Fit.{IsFitBoot}
use Rattle.hk_base.specs.Definitions.{IsArray}
use Rattle.hk_base.specs.Parameters.{key_eq}
use Rattle.hk_base.specs.declared.types.Widths.{Widths}
use Rattle.hk_base.specs.declared.types.Param.{Param}
use Rattle.hk_base.specs.declared.types.SuperList.{SuperList}
use Rattle.hk_base.specs.declared.types.Boot.{Boot}
use Rattle.hk_tailoring.specs.declared.section.Place.TheVariants.{Structure}
use Rattle.hk_tailoring.specs.declared.fault.TailoringFault.{TailoringFault}
use Rattle.hk_tailoring.specs.declared.fault.TailoringFault.TheVariants.{RepeatedStructure}
use Rattle.hk_tailoring.specs.Checks.{Check, first_fault}
use Rattle.hk_tailoring.specs.Keys.{Section}
use Rattle.hk_tailoring.specs.Params.{section_at, sections}
use Rattle.hk_tailoring.specs.Structures.{Bounds, boot_in, key_check, next_structure_checks, structures_checks}
use Rattle.hk_tailoring.proofs.CheckLemmas.{stopped-here, passed-here}
use Rattle.hk_tailoring.proofs.SectionLemmas.{sections-step}

-- the checks of the structures that are left, after those that were read
abbrev pub left : Bounds → List Param → List Boot → ℕ → List Value → List Check
left b params earlier i vs = structures_checks b params earlier (sections Structure i (map view (drop i vs)))

-- all checks of the structures
abbrev pub whole : Bounds → List Param → List Value → List Check
whole b params vs = structures_checks b params [] (sections Structure 0 (map view vs))

-- the checks that are left have the first fault of all
abbrev pub SameFault : Bounds → List Param → List Boot → ℕ → List Value → Type 0
SameFault b params earlier i vs = first_fault (left b params earlier i vs) ≡ first_fault (whole b params vs)

-- a structure's fault is the first of all
pub structure-stopped : (b : Bounds) (params : List Param) (earlier : List Boot) (i : ℕ) (vs : List Value) (v : Value) (s : Section) (fault : TailoringFault)
    → SameFault b params earlier i vs → v ≡ get_or vs i v → i < length vs → section_at Structure (i, view v) ≡ Some s
    → first_fault (next_structure_checks b params earlier s) ≡ Some fault → first_fault (whole b params vs) ≡ Some fault
structure-stopped b params earlier i vs v s fault same e h table found =
    stopped-here (whole b params vs) (left b params earlier i vs) (next_structure_checks b params earlier s)
    (left b params (earlier ++ boot_in s ∷ []) (i + 1) vs) fault same
    (ap (λ ss. structures_checks b params earlier ss) (sections-step Structure i vs v s e h table)) found

-- a structure whose checks are met is passed by
pub structure-passed : (b : Bounds) (params : List Param) (earlier : List Boot) (i : ℕ) (vs : List Value) (v : Value) (s : Section)
    → SameFault b params earlier i vs → v ≡ get_or vs i v → i < length vs → section_at Structure (i, view v) ≡ Some s
    → first_fault (next_structure_checks b params earlier s) ≡ None → SameFault b params (earlier ++ boot_in s ∷ []) (i + 1) vs
structure-passed b params earlier i vs v s same e h table met =
    passed-here (whole b params vs) (left b params earlier i vs) (next_structure_checks b params earlier s)
    (left b params (earlier ++ boot_in s ∷ []) (i + 1) vs) same
    (ap (λ ss. structures_checks b params earlier ss) (sections-step Structure i vs v s e h table)) met

-- a structure whose key came before, whatever checks follow
pub key-found : (earlier : List Boot) (x y : Boot) (rest : List Check) → x ≡ y → list_any (λ e. key_eq e.key x.key) earlier ≡ true
    → first_fault (key_check earlier y ∷ [] ++ rest) ≡ Some (RepeatedStructure x.key)
key-found earlier x y rest same found =
    subst (λ (z : Boot). first_fault (key_check earlier z ∷ [] ++ rest) ≡ Some (RepeatedStructure x.key)) same
    (ap (λ b. cond (not b) (first_fault rest) (Some (RepeatedStructure x.key))) found)

-- a structure whose key is new
pub key-passed : (earlier : List Boot) (x y : Boot) → x ≡ y → list_any (λ e. key_eq e.key x.key) earlier ≡ false
    → first_fault (key_check earlier y ∷ []) ≡ None
key-passed earlier x y same found =
    subst (λ (z : Boot). first_fault (key_check earlier z ∷ []) ≡ None) same (ap (λ b. cond (not b) None (Some (RepeatedStructure x.key))) found)

arrays-beside : (w : Widths) (ps : List Param) (before after : List Boot) (interval : ℕ) (arrays : List SuperList)
    → AllByRecursion (IsArray (record { widths = w; params = ps; boots = before }) interval) arrays
    → AllByRecursion (IsArray (record { widths = w; params = ps; boots = after }) interval) arrays
arrays-beside w ps before after interval [] all = tt
arrays-beside w ps before after interval (a ∷ arrays) all = (
  record { members = all.0.members; few = all.0.few; repeated = all.0.repeated; field = all.0.field; divides = all.0.divides },
  arrays-beside w ps before after interval arrays all.1,
)

-- whether structures are fit doesn't rest on the structures beside them
pub boots-beside : (w : Widths) (ps : List Param) (before after bs : List Boot)
    → AllByRecursion (IsFitBoot (record { widths = w; params = ps; boots = before })) bs
    → AllByRecursion (IsFitBoot (record { widths = w; params = ps; boots = after })) bs
boots-beside w ps before after [] all = tt
boots-beside w ps before after (x ∷ bs) all =
    let f = all.0.valid.formed in (
      record {
        id = all.0.id;
        valid =
            record {
              formed =
                  record {
                    interval = f.interval;
                    some = f.some;
                    known = f.known;
                    once = f.once;
                    simple = f.simple;
                    few_arrays = f.few_arrays;
                    arrays = arrays-beside w ps before after x.structure.def.interval x.structure.def.arrays f.arrays;
                  };
              narrow = all.0.valid.narrow;
            };
      },
      boots-beside w ps before after bs all.1,
    )
