use Rattle.std.proofs.Common.{map, take}
use Rattle.std.specs.List.{All}
use Rattle.definition_intervals.specs.Founds.{found_after_all, IsFormedFound}
use Rattle.live_verdicts.specs.Marks.{AreAlike}
use Rattle.live_verdicts.proofs.finds.finds_over.Given as goal

abbrev pub invariant-loop-found : goal.invariant-loop-found
invariant-loop-found l =
    record {
      alike : AreAlike (map (found_after_all l.tailoring l.requests) (take l.found-index l.finds)) l.later.items;
      formed : All (IsFormedFound l.tailoring) l.later.items;
    }
