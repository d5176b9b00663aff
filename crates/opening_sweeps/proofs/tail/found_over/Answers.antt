use Rattle.std.proofs.Common.{arith, ◌≡◌, ◌<◌, ◌≤◌, length, sym, ap, subst}
use Rattle.definition_intervals.specs.Openings.{Candidate}
use Rattle.definition_intervals.specs.Founds.{found_after, AreSameFound}
use Rattle.opening_sweeps.specs.Requests.{IsFormedRequest}
use Rattle.opening_sweeps.proofs.FoldLemmas.{reach-more}
use Rattle.opening_sweeps.proofs.tail.found_over.Goals as goal

pub loop-place-preserved : goal.loop-place-preserved
loop-place-preserved c =
    let t = c.args.tailoring.now in
    let rs = c.args.requests.now in
    let i = c.loop-place.place in
    let r = c.index-requests-place.result in
    let within : i < length rs = omega arith in
    record {
      formed = c.in_ok-found.ensures.formed;
      same = λ s base le h.
          reach-more c.same_is_found.ensures t rs s i r c.loop-place.found c.in_ok-found.found base (omega arith) within c.index-requests-place.is
          (c.loop-place.invariant.same s base le h)
          (subst (λ (x : Candidate). AreSameFound c.in_ok-found.found (found_after t x c.loop-place.found)) c.as_request-request.ensures c.in_ok-found.ensures.same);
    }
