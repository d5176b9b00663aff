use Rattle.std.proofs.Common.{ℕ, ◌≤◌, List, ◌++◌, map, take, drop}
use Rattle.std.specs.List.{All}
use Rattle.hk_base.specs.TailoringParts.{TailoringParts}
use Rattle.opening_sweeps.specs.Requests.{Bounded, IsFormedStart}
use Rattle.opening_sweeps.specs.Courses.{AreAlike, course_of}
use Rattle.opening_sweeps.specs.Groups.{courses, IsReached}
use Rattle.opening_sweeps.proofs.sweep.open.Given as goal

abbrev pub invariant-loop-place : goal.invariant-loop-place
invariant-loop-place l =
    record {
      alike : (rest : List Bounded) → AreAlike rest (courses l.fn.groups.items ++ map course_of (drop l.from (take l.place l.starts))) (courses l.groups.items);
      reached : (t : TailoringParts) (rs : List Bounded) (limit : ℕ) → l.settled ≤ limit → All (IsFormedStart t) l.starts
          → All (IsReached t rs l.settled limit) l.fn.groups.items → All (IsReached t rs l.settled limit) l.groups.items;
    }
