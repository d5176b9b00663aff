use Rattle.std.proofs.Common.{arith, ◌≡◌, ◌∙◌, ◌+◌, ◌<◌, ◌++◌, ◌∷◌, [], List, Option, length, take, sym, ap, subst, IfSome, map}
use Rattle.std.specs.List.{All, IsDistinct}
use Rattle.std.proofs.lemmas.List.{map_more, take_more, map_push}
use Rattle.std.proofs.lemmas.List.Elements.{All-get_or}
use Rattle.hk_base.specs.declared.types.Structure.{Structure}
use Rattle.definition_intervals.specs.States.{state_eq}
use Rattle.definition_intervals.specs.Founds.{IsCommon, IsFormedFound}
use Rattle.opening_sweeps.specs.Groups.{finds}
use Rattle.opening_sweeps.specs.declared.group.Group.{Group}
use Rattle.opening_sweeps.proofs.narrowing.common_states.Goals as goal

pub loop-group-preserved : goal.loop-group-preserved
loop-group-preserved c =
    let gs = c.args.groups.now in
    let i = c.loop-group.group-index in
    let g = c.group-item.result in
    let left = c.in_ok-common.common in
    let within : i < length gs = omega arith in
    let once : IfSome g.found (IsDistinct state_eq) =
    subst (λ (x : Group). IfSome x.found (IsDistinct state_eq)) (sym c.group-item.is) (All-get_or (λ (x : Group). IfSome x.found (IsDistinct state_eq)) gs i g within c.requires) in
    let more : finds (take (i + 1) gs) ≡ finds (take i gs) ++ g.found ∷ [] =
    ap (λ (xs : List Group). finds xs) (take_more gs i g within ∙ ap (λ (x : Group). take i gs ++ x ∷ []) (sym c.group-item.is)) ∙ map_push (λ (x : Group). x.found) (take i gs) g in
    record {
      common = subst (λ (fs : List (Option (List (Option Structure)))). IsCommon fs left) (sym more) (c.in_ok-common.ensures.common (finds (take i gs)) once c.loop-group.invariant.common);
      formed = λ t all.
          c.in_ok-common.ensures.formed t (c.loop-group.invariant.formed t all)
          (subst (λ (x : Group). IsFormedFound t x.found) (sym c.group-item.is) (All-get_or (λ (x : Group). IsFormedFound t x.found) gs i g within all));
    }
