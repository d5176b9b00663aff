-- The parameters of a document, one after the other.
use Rattle.std.proofs.Common.{◌≡◌, ℕ, ◌+◌, ◌<◌, ap, List, [], ◌∷◌, ◌++◌, map, length, drop, get_or, Some, None, Bool, true, false, not, cond, subst, ◌==◌}
use Rattle.std.specs.List.{list_any}
use Rattle.toml.specs.View.{view}
use Rattle.toml.specs.declared.value.Value.{Value}
use Rattle.hk_base.specs.declared.types.Param.{Param}
use Rattle.hk_tailoring.specs.declared.section.Place.TheVariants.{Parameter}
use Rattle.hk_tailoring.specs.declared.fault.TailoringFault.TheVariants.{RepeatedParam}
use Rattle.hk_tailoring.specs.declared.fault.TailoringFault.{TailoringFault}
use Rattle.hk_tailoring.specs.Checks.{Check, first_fault}
use Rattle.hk_tailoring.specs.Keys.{Section}
use Rattle.hk_tailoring.specs.Params.{param_in, next_param_checks, params_checks, repeat_check, section_at, sections}
use Rattle.hk_tailoring.proofs.CheckLemmas.{stopped-here, passed-here}
use Rattle.hk_tailoring.proofs.SectionLemmas.{sections-step}

-- the checks of the parameters that are left, after those that were read
abbrev pub left : ℕ → Bool → List Param → ℕ → List Value → List Check
left octets packed earlier i vs = params_checks octets packed earlier (sections Parameter i (map view (drop i vs)))

-- all checks of the parameters
abbrev pub whole : ℕ → Bool → List Value → List Check
whole octets packed vs = params_checks octets packed [] (sections Parameter 0 (map view vs))

-- the checks that are left have the first fault of all
abbrev pub SameFault : ℕ → Bool → List Param → ℕ → List Value → Type 0
SameFault octets packed earlier i vs = first_fault (left octets packed earlier i vs) ≡ first_fault (whole octets packed vs)

-- a parameter's fault is the first of all
pub param-stopped : (octets : ℕ) (packed : Bool) (earlier : List Param) (i : ℕ) (vs : List Value) (v : Value) (s : Section) (fault : TailoringFault)
    → SameFault octets packed earlier i vs → v ≡ get_or vs i v → i < length vs → section_at Parameter (i, view v) ≡ Some s
    → first_fault (next_param_checks octets packed earlier s) ≡ Some fault → first_fault (whole octets packed vs) ≡ Some fault
param-stopped octets packed earlier i vs v s fault same e h table found =
    stopped-here (whole octets packed vs) (left octets packed earlier i vs) (next_param_checks octets packed earlier s)
    (left octets packed (earlier ++ param_in packed s ∷ []) (i + 1) vs) fault same
    (ap (λ ss. params_checks octets packed earlier ss) (sections-step Parameter i vs v s e h table)) found

-- a parameter whose checks are met is passed by
pub param-passed : (octets : ℕ) (packed : Bool) (earlier : List Param) (i : ℕ) (vs : List Value) (v : Value) (s : Section)
    → SameFault octets packed earlier i vs → v ≡ get_or vs i v → i < length vs → section_at Parameter (i, view v) ≡ Some s
    → first_fault (next_param_checks octets packed earlier s) ≡ None → SameFault octets packed (earlier ++ param_in packed s ∷ []) (i + 1) vs
param-passed octets packed earlier i vs v s same e h table met =
    passed-here (whole octets packed vs) (left octets packed earlier i vs) (next_param_checks octets packed earlier s)
    (left octets packed (earlier ++ param_in packed s ∷ []) (i + 1) vs) same
    (ap (λ ss. params_checks octets packed earlier ss) (sections-step Parameter i vs v s e h table)) met

-- a parameter whose ID came before
pub repeat-found : (earlier : List Param) (p q : Param) → p ≡ q → list_any (λ e. e.id == p.id) earlier ≡ true
    → first_fault (repeat_check earlier q ∷ []) ≡ Some (RepeatedParam p.id)
repeat-found earlier p q same found =
    subst (λ (x : Param). first_fault (repeat_check earlier x ∷ []) ≡ Some (RepeatedParam p.id)) same
    (ap (λ b. cond (not b) None (Some (RepeatedParam p.id))) found)

-- a parameter whose ID is new
pub repeat-passed : (earlier : List Param) (p q : Param) → p ≡ q → list_any (λ e. e.id == p.id) earlier ≡ false
    → first_fault (repeat_check earlier q ∷ []) ≡ None
repeat-passed earlier p q same found =
    subst (λ (x : Param). first_fault (repeat_check earlier x ∷ []) ≡ None) same (ap (λ b. cond (not b) None (Some (RepeatedParam p.id))) found)
