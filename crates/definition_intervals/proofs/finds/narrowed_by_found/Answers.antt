use Rattle.std.proofs.Common.{◌≡◌, ◌∙◌, List, [], ◌∷◌, ◌++◌, Option, Some, None, IfSome, sym, ap, subst}
use Rattle.std.specs.List.{IsDistinct, All}
use Rattle.hk_base.specs.declared.types.Structure.{Structure}
use Rattle.report_structures.specs.Changes.{IsFormedState}
use Rattle.definition_intervals.specs.States.{state_eq}
use Rattle.definition_intervals.specs.Founds.{IsCommon}
use Rattle.definition_intervals.proofs.FindLemmas.{common-found, common-shared, shared-formed}
use Rattle.definition_intervals.proofs.finds.narrowed_by_found.Goals as goal

pub returns-in_ok-shared_states-in-Some-common-clause-common : goal.returns-in_ok-shared_states-in-Some-common-clause-common
returns-in_ok-shared_states-in-Some-common-clause-common c =
    let left = c.in_ok-shared_states-in-Some-common.field-0 in
    let found = c.as_slice-found.result.now in
    let is : c.args.found.now ≡ Some found = c.in-Some.is ∙ ap Some (sym c.as_slice-found.ensures) in
    λ founds once h.
    subst (λ (f : Option (List (Option Structure))). IsCommon (founds ++ f ∷ []) (Some left)) (sym is)
    (subst (λ (xs : List (Option Structure)). IsCommon (founds ++ Some found ∷ []) (Some xs)) (sym c.in_ok-shared_states-in-Some-common.ensures)
    (common-shared founds c.in-Some-common.states found (subst (λ (x : Option (List (Option Structure))). IsCommon founds x) c.in-Some-common.is h)))

pub returns-in_ok-shared_states-in-Some-common-clause-formed : goal.returns-in_ok-shared_states-in-Some-common-clause-formed
returns-in_ok-shared_states-in-Some-common-clause-formed c =
    λ t h g.
    subst (λ (xs : List (Option Structure)). All (IsFormedState t) xs) (sym c.in_ok-shared_states-in-Some-common.ensures)
    (shared-formed t c.in-Some-common.states c.as_slice-found.result.now (subst (λ (x : Option (List (Option Structure))). IfSome x (All (IsFormedState t))) c.in-Some-common.is h))

pub returns-in_ok-copied_states-in-None-clause-common : goal.returns-in_ok-copied_states-in-None-clause-common
returns-in_ok-copied_states-in-None-clause-common c =
    let left = c.in_ok-copied_states-in-None.field-0 in
    let found = c.as_slice-found.result.now in
    let is : c.args.found.now ≡ Some found = c.in-Some.is ∙ ap Some (sym c.as_slice-found.ensures) in
    λ founds once h.
    subst (λ (f : Option (List (Option Structure))). IsCommon (founds ++ f ∷ []) (Some left)) (sym is)
    (subst (λ (xs : List (Option Structure)). IsCommon (founds ++ Some found ∷ []) (Some xs)) (sym c.in_ok-copied_states-in-None.ensures)
    (common-found founds found (subst (λ (f : Option (List (Option Structure))). IfSome f (IsDistinct state_eq)) is once)
    (subst (λ (x : Option (List (Option Structure))). IsCommon founds x) c.in-None.is h)))
