use Rattle.std.proofs.Common.{◌++◌, List, Option, map, take}
use Rattle.std.specs.List.{All}
use Rattle.hk_base.specs.declared.types.Structure.{Structure}
use Rattle.definition_intervals.specs.Founds.{IsFormedFound}
use Rattle.entry_changes.specs.Changes as changes
use Rattle.live_verdicts.specs.Marks.{AreAlike, AreKnown, found_at}
use Rattle.live_verdicts.proofs.told.with_told.Given as goal

abbrev pub invariant-loop-start : goal.invariant-loop-start
invariant-loop-start l =
    record {
      alike : (fs : List (Option (List (Option Structure)))) → AreAlike fs l.fn.told.finds.items
          → AreAlike (fs ++ map (found_at l.history.tailoring (λ tag. changes.unsures l.history.history l.key l.numbers.first l.numbers.end)) (take l.start-index l.starts)) l.told.finds.items;
      formed : All (IsFormedFound l.history.tailoring) l.fn.told.finds.items → All (IsFormedFound l.history.tailoring) l.told.finds.items;
      known : AreKnown l.history.tailoring (changes.unsures l.history.history l.key l.numbers.first l.numbers.end) l.told.origins.items l.told.finds.items;
    }
