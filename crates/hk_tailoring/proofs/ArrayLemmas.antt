-- The arrays of a structure, one after the other.
use Rattle.std.proofs.Common.{◌≡◌, ℕ, ◌+◌, ◌<◌, ap, List, map, length, drop, get_or, Some, None}
use Rattle.toml.specs.View.{view}
use Rattle.toml.specs.declared.value.Value.{Value}
use Rattle.hk_tailoring.specs.declared.section.Place.{Place}
use Rattle.hk_tailoring.specs.declared.fault.TailoringFault.{TailoringFault}
use Rattle.hk_tailoring.specs.Checks.{first_fault}
use Rattle.hk_tailoring.specs.Keys.{Section}
use Rattle.hk_tailoring.specs.Params.{section_at, sections}
use Rattle.hk_tailoring.specs.Structures.{Bounds, array_checks, arrays_checks}
use Rattle.hk_tailoring.proofs.CheckLemmas.{stopped-here, passed-here}
use Rattle.hk_tailoring.proofs.SectionLemmas.{sections-step}

-- the checks of the arrays that are left have the first fault of all
abbrev pub SameFault : Bounds → (ℕ → Place) → ℕ → List Value → Type 0
SameFault b place i vs =
    first_fault (arrays_checks b (sections place i (map view (drop i vs)))) ≡ first_fault (arrays_checks b (sections place 0 (map view vs)))

-- an array's fault is the first of all
pub array-stopped : (b : Bounds) (place : ℕ → Place) (i : ℕ) (vs : List Value) (v : Value) (s : Section) (fault : TailoringFault)
    → SameFault b place i vs → v ≡ get_or vs i v → i < length vs → section_at place (i, view v) ≡ Some s
    → first_fault (array_checks b s) ≡ Some fault → first_fault (arrays_checks b (sections place 0 (map view vs))) ≡ Some fault
array-stopped b place i vs v s fault same e h table found =
    stopped-here (arrays_checks b (sections place 0 (map view vs))) (arrays_checks b (sections place i (map view (drop i vs)))) (array_checks b s)
    (arrays_checks b (sections place (i + 1) (map view (drop (i + 1) vs)))) fault same
    (ap (λ ss. arrays_checks b ss) (sections-step place i vs v s e h table)) found

-- an array whose checks are met is passed by
pub array-passed : (b : Bounds) (place : ℕ → Place) (i : ℕ) (vs : List Value) (v : Value) (s : Section)
    → SameFault b place i vs → v ≡ get_or vs i v → i < length vs → section_at place (i, view v) ≡ Some s
    → first_fault (array_checks b s) ≡ None → SameFault b place (i + 1) vs
array-passed b place i vs v s same e h table met =
    passed-here (arrays_checks b (sections place 0 (map view vs))) (arrays_checks b (sections place i (map view (drop i vs)))) (array_checks b s)
    (arrays_checks b (sections place (i + 1) (map view (drop (i + 1) vs)))) same
    (ap (λ ss. arrays_checks b ss) (sections-step place i vs v s e h table)) met
