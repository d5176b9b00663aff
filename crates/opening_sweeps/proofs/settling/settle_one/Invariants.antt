use Rattle.std.proofs.Common.{List, map, take}
use Rattle.std.specs.List.{All}
use Rattle.opening_sweeps.specs.Requests.{Bounded, AreRising}
use Rattle.std.proofs.Common.{◌∷◌}
use Rattle.opening_sweeps.specs.Courses.{AreAlike, course_after}
use Rattle.opening_sweeps.specs.Groups.{courses, IsReached}
use Rattle.opening_sweeps.proofs.settling.settle_one.Given as goal

abbrev pub invariant-loop-group : goal.invariant-loop-group
invariant-loop-group l =
    record {
      alike : (rest : List Bounded) → AreRising (l.request ∷ rest)
          → AreAlike rest (map (course_after l.tailoring l.request) (courses (take l.group-index l.groups))) (courses l.later.items);
      reached : (rs : List Bounded) → All (IsReached l.tailoring rs l.place l.place) l.later.items;
    }
