use Rattle.std.proofs.Common.{arith, ◌≡◌, ◌<◌, ◌+◌, ◌∷◌, length, sym, ap, ◌∙◌, subst, drop, List}
use Rattle.std.proofs.lemmas.List.{drop_more}
use Rattle.definition_intervals.specs.Openings.{Candidate}
use Rattle.definition_intervals.specs.Founds.{found_after, found_after_all, AreSameFound}
use Rattle.opening_sweeps.proofs.FoldLemmas.{same-trans, after_all-same}
use Rattle.live_verdicts.proofs.finds.found_over.Goals as goal

pub loop-request-preserved : goal.loop-request-preserved
loop-request-preserved c =
    let t = c.args.tailoring.now in
    let cs = c.args.requests.now in
    let i = c.loop-request.request-index in
    let r = c.request-item.result in
    let within : i < length cs = omega arith in
    let rest = drop (i + 1) cs in
    let split : drop i cs ≡ r ∷ rest = drop_more cs i r within ∙ ap (λ (x : Candidate). x ∷ rest) (sym c.request-item.is) in
    let before = subst (λ (xs : List Candidate). AreSameFound (found_after_all t xs c.loop-request.found) (found_after_all t cs c.args.found)) split c.loop-request.invariant.same in
    record {
      formed = c.in_ok-found.ensures.formed;
      same =
          same-trans (found_after_all t rest c.in_ok-found.found) (found_after_all t rest (found_after t r c.loop-request.found)) (found_after_all t cs c.args.found)
          (after_all-same c.same_is_found.ensures t rest c.in_ok-found.found (found_after t r c.loop-request.found) c.in_ok-found.ensures.same) before;
    }
