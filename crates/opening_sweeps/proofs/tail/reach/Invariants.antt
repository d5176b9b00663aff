use Rattle.std.proofs.Common.{◌≡◌, ℕ, length, take}
use Rattle.std.specs.List.{All}
use Rattle.opening_sweeps.specs.Groups.{courses, IsReached}
use Rattle.opening_sweeps.specs.declared.group.Group.{Group}
use Rattle.opening_sweeps.proofs.tail.reach.Given as goal

abbrev pub invariant-loop-group : goal.invariant-loop-group
invariant-loop-group l =
    record {
      courses : courses l.later.items ≡ courses l.yielded;
      reached : (settled : ℕ) → All (IsReached l.tailoring l.requests settled l.to) l.yielded → All (IsReached l.tailoring l.requests settled l.to) l.later.items;
      ends : All (λ (g : Group). g.reached ≡ l.to) l.later.items;
    }
