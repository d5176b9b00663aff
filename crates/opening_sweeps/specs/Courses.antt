-- The courses of openings: what is found of each while more and more requests are settled.
use Rattle.std.specs.Prelude.{◌≡◌, ℕ, ⊤, List, [], ◌∷◌, map, filter_map, Bool, Option, Some, None, nat_le, ◌⊎◌}
use Rattle.std.specs.List.{AllByRecursion}
use Rattle.hk_base.specs.TailoringParts.{TailoringParts}
use Rattle.hk_base.specs.declared.types.Structure.{Structure}
use Rattle.definition_intervals.specs.Openings.{Candidate, is_at_most}
use Rattle.definition_intervals.specs.Founds.{found_after, found_after_all, first_after, AreSameFound}
use Rattle.opening_sweeps.specs.Requests.{Bounded, Start, as_request, settled}

-- the tag of an opening, and what is found after the requests that are settled
pub record Course : Type 0 where
  pub tag : ℕ
  pub found : Option (List (Option Structure))

-- the course of a state before any request
abbrev pub course_of : Start → Course
course_of s = record { tag = s.tag; found = Some (s.state ∷ []) }

-- what is found after a request, if it is one of the opening
abbrev pub found_by_one : TailoringParts → Option Candidate → Option (List (Option Structure)) → Option (List (Option Structure))
found_by_one t None found = found
found_by_one t (Some c) found = found_after t c found

-- the first open change after a request, if it is one of the opening
abbrev pub first_after_one : Option Candidate → Option ℕ → Option ℕ
first_after_one None first = first
first_after_one (Some c) first = first_after c first

-- a course after one more settled request
abbrev pub course_after : TailoringParts → Bounded → Course → Course
course_after t r k = record { tag = k.tag; found = found_by_one t (settled k.tag r) k.found }

-- a course after some more settled requests
abbrev pub course_after_all : TailoringParts → List Bounded → Course → Course
course_after_all t rs k = record { tag = k.tag; found = found_after_all t (filter_map (settled k.tag) rs) k.found }

-- a request stands the same to two openings
abbrev pub StandsTheSame : ℕ → ℕ → Bounded → Type 0
StandsTheSame a b r = (is_at_most r.high a ≡ is_at_most r.high b) × (nat_le a r.low ≡ nat_le b r.low)

-- two courses go on alike: the same is found, and each request that is still to be settled stands the same to both
abbrev pub IsLike : List Bounded → Course → Course → Type 0
IsLike rest a b = AreSameFound a.found b.found × AllByRecursion (StandsTheSame a.tag b.tag) rest

-- some course goes on like another
abbrev pub HasLike : List Bounded → List Course → Course → Type 0
HasLike rest [] k = ⊥
HasLike rest (l ∷ ls) k = IsLike rest k l ⊎ HasLike rest ls k

-- the courses of each of two lists go on like some of the other
pub record AreAlike (rest : List Bounded) (ks ls : List Course) : Type 0 where
  pub left : AllByRecursion (HasLike rest ls) ks
  pub right : AllByRecursion (HasLike rest ks) ls
