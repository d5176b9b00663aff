use Rattle.std.proofs.Common.{◌≡◌, ◌++◌, List, Option, map, take, drop}
use Rattle.std.specs.List.{All}
use Rattle.hk_base.specs.declared.types.Structure.{Structure}
use Rattle.definition_intervals.specs.Founds.{IsFormedFound}
use Rattle.live_verdicts.specs.Marks.{AreAlike, found_by, first_by}
use Rattle.live_verdicts.proofs.later.with_starts.Given as goal

abbrev pub invariant-loop-start : goal.invariant-loop-start
invariant-loop-start l =
    record {
      alike : (fs : List (Option (List (Option Structure)))) → AreAlike fs l.fn.finding.finds.items
          → AreAlike (fs ++ map (found_by l.history.tailoring l.history.history l.key l.tag l.numbers.first l.numbers.end) (take l.start-index l.starts)) l.finding.finds.items;
      formed : All (IsFormedFound l.history.tailoring) l.fn.finding.finds.items → All (IsFormedFound l.history.tailoring) l.finding.finds.items;
      first : first_by l.history.history l.key l.tag l.numbers.first l.numbers.end (drop l.start-index l.starts) l.finding.first
          ≡ first_by l.history.history l.key l.tag l.numbers.first l.numbers.end l.starts l.fn.finding.first;
    }
