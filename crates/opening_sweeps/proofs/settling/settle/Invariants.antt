use Rattle.std.proofs.Common.{ℕ, ◌≤◌, List, map, take, drop}
use Rattle.std.specs.List.{All}
use Rattle.definition_intervals.specs.Founds.{IsFormedFound}
use Rattle.opening_sweeps.specs.Courses.{Course, AreAlike, course_after_all}
use Rattle.opening_sweeps.specs.Groups.{courses, IsReached}
use Rattle.opening_sweeps.specs.declared.group.Group.{Group}
use Rattle.opening_sweeps.proofs.settling.settle.Given as goal

abbrev pub invariant-loop-place : goal.invariant-loop-place
invariant-loop-place l =
    record {
      alike : (ks : List Course) → AreAlike (drop l.from l.requests) (map (course_after_all l.tailoring (take l.from l.requests)) ks) (courses l.fn.groups.items)
          → AreAlike (drop l.place l.requests) (map (course_after_all l.tailoring (take l.place l.requests)) ks) (courses l.groups.items);
      reached : (limit : ℕ) → l.place ≤ limit → All (IsReached l.tailoring l.requests l.from limit) l.fn.groups.items
          → All (IsReached l.tailoring l.requests l.place limit) l.groups.items;
      bases : All (λ (g : Group). IsFormedFound l.tailoring g.base) l.groups.items;
    }
