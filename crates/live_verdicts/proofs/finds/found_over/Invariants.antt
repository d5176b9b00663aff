use Rattle.std.proofs.Common.{drop}
use Rattle.definition_intervals.specs.Founds.{found_after_all, AreSameFound, IsFormedFound}
use Rattle.live_verdicts.proofs.finds.found_over.Given as goal

abbrev pub invariant-loop-request : goal.invariant-loop-request
invariant-loop-request l =
    record {
      formed : IsFormedFound l.tailoring l.found;
      same : AreSameFound (found_after_all l.tailoring (drop l.request-index l.requests) l.found) (found_after_all l.tailoring l.requests l.fn.found);
    }
