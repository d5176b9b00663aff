use Rattle.std.proofs.Common.{arith, ◌≡◌, ◌∙◌, ◌+◌, ◌<◌, ◌++◌, ◌∷◌, [], List, Option, length, take, sym, ap, subst, IfSome}
use Rattle.std.specs.List.{IsDistinct}
use Rattle.std.proofs.lemmas.List.{take_more}
use Rattle.std.proofs.lemmas.List.Elements.{All-get_or}
use Rattle.hk_base.specs.declared.types.Structure.{Structure}
use Rattle.definition_intervals.specs.States.{state_eq}
use Rattle.definition_intervals.specs.Founds.{IsCommon, IsFormedFound}
use Rattle.live_verdicts.proofs.finds.common_states.Goals as goal

pub loop-found-preserved : goal.loop-found-preserved
loop-found-preserved c =
    let fs = c.args.finds.now in
    let i = c.loop-found.found-index in
    let f = c.found-item.result in
    let left = c.in_ok-common.common in
    let within : i < length fs = omega arith in
    let once : IfSome f (IsDistinct state_eq) =
    subst (λ (x : Option (List (Option Structure))). IfSome x (IsDistinct state_eq)) (sym c.found-item.is)
    (All-get_or (λ (x : Option (List (Option Structure))). IfSome x (IsDistinct state_eq)) fs i f within c.requires) in
    let more : take (i + 1) fs ≡ take i fs ++ f ∷ [] = take_more fs i f within ∙ ap (λ (x : Option (List (Option Structure))). take i fs ++ x ∷ []) (sym c.found-item.is) in
    record {
      common = subst (λ (xs : List (Option (List (Option Structure)))). IsCommon xs left) (sym more) (c.in_ok-common.ensures.common (take i fs) once c.loop-found.invariant.common);
      formed = λ t all.
          c.in_ok-common.ensures.formed t (c.loop-found.invariant.formed t all)
          (subst (λ (x : Option (List (Option Structure))). IsFormedFound t x) (sym c.found-item.is) (All-get_or (λ (x : Option (List (Option Structure))). IsFormedFound t x) fs i f within all));
    }
