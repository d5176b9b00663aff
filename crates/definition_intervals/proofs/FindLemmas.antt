-- Finds that are compared, and narrowed by one another.
use Rattle.std.proofs.Common.{◌≡◌, refl, sym, ◌∙◌, ap, subst, List, [], ◌∷◌, ◌++◌, Bool, true, false, ◌&&◌, Option, Some, None, IfSome}
use Rattle.std.specs.List.{list_any, list_all, IsDistinct, All}
use Rattle.std.proofs.lemmas.Bool.{both_ways}
use Rattle.std.proofs.lemmas.List.Folds.{list_all-append}
use Rattle.std.proofs.lemmas.List.Elements.{All-filter}
use Rattle.hk_base.specs.TailoringParts.{TailoringParts}
use Rattle.hk_base.specs.declared.types.Structure.{Structure}
use Rattle.hk_base.proofs.Membership.{IsIn, list_all-IsIn}
use Rattle.report_structures.specs.Changes.{IsFormedState}
use Rattle.definition_intervals.specs.States.{state_eq}
use Rattle.definition_intervals.specs.Findings.{shared_states}
use Rattle.definition_intervals.specs.Founds.{is_left, is_crowd, IsCommon}
use Rattle.definition_intervals.proofs.SetLemmas.{found-IsIn, IsIn-found}
use Rattle.definition_intervals.proofs.CommonLemmas.{filter-once, filter-members}

-- where each state of two lists is in the other, they have the same states
pub same-from_among : (a b : List (Option Structure)) → list_all (λ s. list_any (state_eq s) b) a ≡ true → list_all (λ s. list_any (state_eq s) a) b ≡ true
    → (s : Option Structure) → list_any (state_eq s) a ≡ list_any (state_eq s) b
same-from_among a b h g s = go (list_any (state_eq s) a) (list_any (state_eq s) b) refl refl
  where
    go : (x y : Bool) → list_any (state_eq s) a ≡ x → list_any (state_eq s) b ≡ y → x ≡ y
    go true true p q = refl
    go false false p q = refl
    go true false p q = absurd (both_ways false refl (sym q ∙ list_all-IsIn (λ z. list_any (state_eq z) b) s a h (found-IsIn s a p)))
    go false true p q = absurd (both_ways false refl (sym p ∙ list_all-IsIn (λ z. list_any (state_eq z) a) s b g (found-IsIn s b q)))

-- where all are crowded, each state is left
left-by_crowds : (s : Option Structure) (founds : List (Option (List (Option Structure)))) → list_all is_crowd founds ≡ true → list_all (is_left s) founds ≡ true
left-by_crowds s [] e = refl
left-by_crowds s (None ∷ fs) e = left-by_crowds s fs e
left-by_crowds s (Some ss ∷ fs) e = absurd (both_ways false refl e)

and_true : (b : Bool) → (b && true) ≡ b
and_true true = refl
and_true false = refl

and_false : (b : Bool) → (b && false) ≡ false
and_false true = refl
and_false false = refl

crowds-more : (founds : List (Option (List (Option Structure)))) (found : Option (List (Option Structure))) → list_all is_crowd (founds ++ found ∷ []) ≡ (list_all is_crowd founds && is_crowd found)
crowds-more founds found = list_all-append is_crowd founds (found ∷ []) ∙ ap (λ b. list_all is_crowd founds && b) (and_true (is_crowd found))

left-more : (s : Option Structure) (founds : List (Option (List (Option Structure)))) (found : Option (List (Option Structure)))
    → list_all (is_left s) (founds ++ found ∷ []) ≡ (list_all (is_left s) founds && is_left s found)
left-more s founds found = list_all-append (is_left s) founds (found ∷ []) ∙ ap (λ b. list_all (is_left s) founds && b) (and_true (is_left s found))

-- one more that is crowded
pub common-crowded : (founds : List (Option (List (Option Structure)))) (common : Option (List (Option Structure))) → IsCommon founds common → IsCommon (founds ++ None ∷ []) common
common-crowded founds None h = crowds-more founds None ∙ (and_true (list_all is_crowd founds) ∙ h)
common-crowded founds (Some states) h =
    (crowds-more founds None ∙ (and_true (list_all is_crowd founds) ∙ h.0), h.1, λ s. h.2 s ∙ sym (left-more s founds None ∙ and_true (list_all (is_left s) founds)))

-- one more that isn't
pub common-found : (founds : List (Option (List (Option Structure)))) (found : List (Option Structure)) → IsDistinct state_eq found → IsCommon founds None → IsCommon (founds ++ Some found ∷ []) (Some found)
common-found founds found once h = (
  crowds-more founds (Some found) ∙ and_false (list_all is_crowd founds),
  once,
  λ s. sym (left-more s founds (Some found) ∙ ap (λ b. b && list_any (state_eq s) found) (left-by_crowds s founds h)),
)

pub common-shared : (founds : List (Option (List (Option Structure)))) (states found : List (Option Structure)) → IsCommon founds (Some states)
    → IsCommon (founds ++ Some found ∷ []) (Some (shared_states states found))
common-shared founds states found h = (
  crowds-more founds (Some found) ∙ and_false (list_all is_crowd founds),
  filter-once (λ s. list_any (state_eq s) found) states h.1,
  λ s. filter-members (λ x. list_any (state_eq x) found) s states ∙ (ap (λ b. b && list_any (state_eq s) found) (h.2 s) ∙ sym (left-more s founds (Some found))),
)

pub shared-formed : (t : TailoringParts) (states found : List (Option Structure)) → All (IsFormedState t) states → All (IsFormedState t) (shared_states states found)
shared-formed t states found h = All-filter (λ s. list_any (state_eq s) found) (IsFormedState t) states h
