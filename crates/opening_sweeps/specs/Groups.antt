-- Groups of openings that have the same states possible.
use Rattle.std.specs.Prelude.{◌≡◌, ℕ, ◌+◌, ◌≤◌, ◌<◌, ⊤, List, [], ◌∷◌, ◌++◌, length, map, flat_map, take, drop, filter, find, Bool, true, false, not, ◌&&◌, nat_lt, nat_le, Option, Some, None, option_to_list, if◌then◌else◌}
use Rattle.std.specs.List.{All, list_any, list_all, IsDistinct}
use Rattle.hk_base.specs.TailoringParts.{TailoringParts}
use Rattle.hk_base.specs.declared.types.Structure.{Structure}
use Rattle.definition_intervals.specs.Openings.{Candidate, is_at_most}
use Rattle.definition_intervals.specs.States.{state_eq}
use Rattle.definition_intervals.specs.Founds.{found_after_all, AreSameFound, IsFormedFound, is_left, is_crowd}
use Rattle.opening_sweeps.specs.Requests.{Bounded, as_request}
use Rattle.opening_sweeps.specs.Courses.{Course, AreAlike, found_by_one}
use Rattle.opening_sweeps.specs.declared.group.Group.{Group}

-- courses at some tags of which the same is found
abbrev pub courses_at : Option (List (Option Structure)) → List ℕ → List Course
courses_at found tags = map (λ tag. record { tag = tag; found = found }) tags

-- the courses of a group
abbrev pub courses_of : Group → List Course
courses_of g = courses_at g.base g.tags

-- the courses of some groups
abbrev pub courses : List Group → List Course
courses gs = flat_map courses_of gs

-- groups have the courses of those before and some more, or ones that go on like them, whatever requests are still to be settled
abbrev pub AddsCourses : List Group → List Course → List Group → Type 0
AddsCourses old more new = (rest : List Bounded) → AreAlike rest (courses old ++ more) (courses new)

-- a group with more openings
abbrev pub with_tags : Group → List ℕ → Group
with_tags g tags = record { tags = g.tags ++ tags; base = g.base; found = g.found; reached = g.reached }

-- groups of which one has more openings, and stands behind the others
abbrev pub joined : List Group → ℕ → Group → List ℕ → List Group
joined gs i g tags = (take i gs ++ drop (i + 1) gs) ++ with_tags g tags ∷ []

-- the requests that may be left out
abbrev pub unsure : List Bounded → List Candidate
unsure rs = map (as_request false) rs

-- a group after so many settled requests: it has an opening, and what it has reached is found by the requests behind those, up to a limit
pub record IsReached (t : TailoringParts) (rs : List Bounded) (settled limit : ℕ) (g : Group) : Type 0 where
  pub some : 1 ≤ length g.tags
  pub base : IsFormedFound t g.base
  pub found : IsFormedFound t g.found
  pub within : settled ≤ g.reached
  pub limited : g.reached ≤ limit
  pub same : AreSameFound g.found (found_after_all t (unsure (drop settled (take g.reached rs))) g.base)

-- where all groups so far have reached what is found up to a limit, all groups now have
abbrev pub StayReached : TailoringParts → ℕ → ℕ → List Group → List Group → Type 0
StayReached t settled limit old new = (rs : List Bounded) → All (IsReached t rs settled limit) old → All (IsReached t rs settled limit) new

-- whether an opening at a tag is above a request
abbrev pub is_past : Bounded → ℕ → Bool
is_past r tag = is_at_most r.high tag

-- whether an opening at a tag is below a request, and whether it may be
abbrev pub is_sure : Bounded → ℕ → Bool
is_sure r tag = not (is_past r tag) && nat_le tag r.low

abbrev pub is_unsure : Bounded → ℕ → Bool
is_unsure r tag = not (is_past r tag) && not (nat_le tag r.low)

-- what the groups have reached
abbrev pub finds : List Group → List (Option (List (Option Structure)))
finds gs = map (λ g. g.found) gs

-- what each group has reached is formed
abbrev pub HaveFormedFinds : TailoringParts → List Group → Type 0
HaveFormedFinds t gs = All (λ g. IsFormedFound t g.found) gs
