-- A sweep over tags: what it holds at a tag.
use Rattle.std.specs.Prelude.{◌≡◌, ℕ, ◌≤◌, ◌<◌, List, [], ◌∷◌, ◌++◌, length, map, take, drop, filter_map, true, false, Option, None, unwrap_or}
use Rattle.std.specs.List.{All}
use Rattle.hk_base.specs.TailoringParts.{TailoringParts}
use Rattle.definition_intervals.specs.Openings.{is_at_most}
use Rattle.definition_intervals.specs.Founds.{first_after_all}
use Rattle.opening_sweeps.specs.Requests.{Bounded, Start, settled}
use Rattle.opening_sweeps.specs.Courses.{course_of, course_after_all, AreAlike}
use Rattle.opening_sweeps.specs.Groups.{courses, unsure, IsReached}
use Rattle.opening_sweeps.specs.declared.group.Group.{Group}
use Rattle.opening_sweeps.specs.declared.sweep.Sweep.{Sweep}

-- the tag of the last of some states; one that is given where there is none
abbrev pub last_tag : ℕ → List Start → ℕ
last_tag tag [] = tag
last_tag tag (s ∷ ss) = last_tag s.tag ss

-- the states that opened below the sweep's tag
abbrev pub opened_starts : List Start → List Start → Sweep → List Start
opened_starts boot told s = boot ++ take s.opened told

-- the first open change of the latest opening among the requests that are listed, of which those that aren't settled may be left out
abbrev pub named_in : List Bounded → Sweep → ℕ
named_in rs s = unwrap_or (first_after_all (unsure (drop s.settled (take s.listed rs))) s.first) 0

-- The sweep has passed the states and requests below its tag, and its groups have the openings of these states.
pub record IsSwept (t : TailoringParts) (rs : List Bounded) (boot told : List Start) (s : Sweep) : Type 0 where
  pub opened : s.opened ≤ length told
  pub below : All (λ x. x.tag < s.tag) (take s.opened told)
  pub above : All (λ x. s.tag ≤ x.tag) (drop s.opened told)
  pub order : s.settled ≤ s.listed
  pub listed : s.listed ≤ length rs
  pub lows : All (λ r. r.low < s.tag) (take s.listed rs)
  pub later_lows : All (λ r. s.tag ≤ r.low) (drop s.listed rs)
  pub highs : All (λ r. is_at_most r.high s.tag ≡ true) (take s.settled rs)
  pub later_highs : All (λ r. is_at_most r.high s.tag ≡ false) (drop s.settled (take s.listed rs))
  pub alike : AreAlike (drop s.settled rs) (map (course_after_all t (take s.settled rs)) (map course_of (opened_starts boot told s))) (courses s.groups.items)
  pub reached : All (IsReached t rs s.settled s.listed) s.groups.items
  pub ends : All (λ (g : Group). g.reached ≡ s.listed) s.groups.items
  pub latest : s.latest ≡ last_tag 0 (opened_starts boot told s)
  pub first : s.first ≡ first_after_all (filter_map (settled s.latest) (take s.settled rs)) None
