use Rattle.std.proofs.Common.{◌-◌, ◌≤◌, length, take, drop}
use Rattle.std.specs.List.{All}
use Rattle.ground_history.specs.Ground.{Ground}
use Rattle.entry_changes.specs.Changes.{AreSameBelow, AreUnsureSame}
use Rattle.live_verdicts.specs.Marks.{IsMark, StandsFor}
use Rattle.live_verdicts.specs.declared.mark.StructureMark.{StructureMark}
use Rattle.live_verdicts.proofs.forgetting.forget.Given as goal

abbrev pub invariant-loop-place : goal.invariant-loop-place
invariant-loop-place l =
    record {
      within : l.place ≤ length l.held.items;
      done : (g later : Ground) → StandsFor l.fn.held.items g → AreSameBelow l.from g later → AreUnsureSame l.touched g later
          → All (λ (x : StructureMark). IsMark later x.key x.mark) (take l.place l.held.items);
      ahead : (g later : Ground) → StandsFor l.fn.held.items g → AreSameBelow l.from g later → AreUnsureSame l.touched g later
          → All (λ (x : StructureMark). IsMark g x.key x.mark) (drop l.place l.held.items);
    }

abbrev pub decreases-loop-place : goal.decreases-loop-place
decreases-loop-place l = length l.held.items - l.place
