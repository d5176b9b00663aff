use Rattle.std.proofs.Common.{◌∙◌, ◌∷◌, ◌++◌, [], List, Option, IfSome, sym, ap, subst, take}
use Rattle.std.specs.List.{All}
use Rattle.std.proofs.lemmas.List.{take_more}
use Rattle.hk_base.specs.declared.types.Structure.{Structure}
use Rattle.report_structures.specs.Changes.{IsFormedState}
use Rattle.definition_intervals.specs.Openings.{Opening}
use Rattle.definition_intervals.specs.Findings.{AreCommon}
use Rattle.definition_intervals.proofs.CommonLemmas.{common-step, narrowed-all}
use Rattle.definition_intervals.proofs.narrowing.common_states.Goals as goal

pub loop-opening-preserved : goal.loop-opening-preserved
loop-opening-preserved c =
    let t = c.args.tailoring.now in
    let os = c.args.openings.now in
    let i = c.loop-opening.opening-index in
    let o = c.opening-item.result in
    let common = c.loop-opening.common in
    let found = c.in_ok-found.found in
    let step = take_more os i o c.loop-opening-test.true ∙ ap (λ (x : Opening). take i os ++ x ∷ []) (sym c.opening-item.is) in
    record {
      common = subst (λ (xs : List Opening). AreCommon t xs c.in_ok-common.common) (sym step)
          (subst (λ (left : Option (List (Option Structure))). AreCommon t (take i os ++ o ∷ []) left) (sym c.in_ok-common.ensures)
          (common-step t (take i os) o common found c.loop-opening.invariant.common c.in_ok-found.ensures.found));
      formed = subst (λ (left : Option (List (Option Structure))). IfSome left (All (IsFormedState t))) (sym c.in_ok-common.ensures)
          (narrowed-all (IsFormedState t) common found c.loop-opening.invariant.formed c.in_ok-found.ensures.formed);
    }
