use Rattle.std.proofs.Common.{ℕ, ◌≤◌, List, Option, take, drop}
use Rattle.hk_base.specs.declared.types.Structure.{Structure}
use Rattle.definition_intervals.specs.Founds.{found_after_all, AreSameFound, IsFormedFound}
use Rattle.opening_sweeps.specs.Groups.{unsure}
use Rattle.opening_sweeps.proofs.tail.found_over.Given as goal

abbrev pub invariant-loop-place : goal.invariant-loop-place
invariant-loop-place l =
    record {
      formed : IsFormedFound l.tailoring l.found;
      same : (settled : ℕ) (base : Option (List (Option Structure))) → settled ≤ l.from
          → AreSameFound l.fn.found (found_after_all l.tailoring (unsure (drop settled (take l.from l.requests))) base)
          → AreSameFound l.found (found_after_all l.tailoring (unsure (drop settled (take l.place l.requests))) base);
    }
