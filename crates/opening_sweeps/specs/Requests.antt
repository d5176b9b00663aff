-- The requests that may have changed a structure and the states that were told of it, whatever the tag of a report is.
use Rattle.std.specs.Prelude.{◌≡◌, ℕ, ◌≤◌, ◌<◌, ⊤, List, [], ◌∷◌, map, filter, filter_map, Bool, true, false, ◌&&◌, ◌||◌, nat_lt, nat_le, Option, Some, None, IfSome, IsSomeAnd, option_map, option_and_then, if◌then◌else◌}
use Rattle.std.specs.List.{enumerate_from, AllByRecursion, All}
use Rattle.hk_base.specs.TailoringParts.{TailoringParts}
use Rattle.hk_base.specs.Parameters.{boot_structure}
use Rattle.hk_base.specs.declared.types.Key.{Key}
use Rattle.hk_base.specs.declared.types.Structure.{Structure}
use Rattle.st03_grammar.specs.Instructions.{StructureChange}
use Rattle.pus_messages.specs.Changes.{change_by}
use Rattle.report_structures.specs.Changes.{IsGrammarChange, IsFormedState}
use Rattle.ground_history.specs.Histories.{Sent, Kept, History, tag_of}
use Rattle.ground_history.specs.Evidence.{low, high, is_accepted, is_barred, outcome}
use Rattle.ground_history.specs.declared.answer.Outcome.{Outcome}
use Rattle.definition_intervals.specs.Openings.{Candidate, is_at_most, reported_structure}

-- a request that may have changed a structure: its number and change, the bounds of its execution, and what is known of it
pub record Bounded : Type 0 where
  pub number : ℕ
  pub change : StructureChange
  pub low : ℕ
  pub high : Option ℕ
  pub accepted : Bool
  pub outcome : Outcome

-- a numbered request as one that may have changed a structure, unless nothing of it is ever executed
abbrev pub bounded_request : History → Key → ℕ × Sent → Option Bounded
bounded_request h key numbered =
    let k = numbered.0 in
    if is_barred h k
    then None
    else option_map (λ c. record { number = k; change = c.1; low = low h k; high = high h k; accepted = is_accepted h k; outcome = outcome h k c.0 })
    (option_and_then (change_by key) numbered.1.request)

-- the requests that may have changed a structure, in the order of their numbers
abbrev pub bounded_requests : History → Key → List Bounded
bounded_requests h key = filter_map (bounded_request h key) (enumerate_from 0 h.requests)

-- a request as one that is taken, or may be left out
abbrev pub as_request : Bool → Bounded → Candidate
as_request certain r = record { number = r.number; change = r.change; certain = certain; outcome = r.outcome }

-- a request between an opening and a report
abbrev pub between : ℕ → ℕ → Bounded → Option Candidate
between from tag r =
    if nat_le tag r.low || is_at_most r.high from then None
    else Some (as_request (nat_le from r.low && r.accepted && is_at_most r.high tag) r)

-- a request after an opening, for reports above its bounds
abbrev pub settled : ℕ → Bounded → Option Candidate
settled from r = if is_at_most r.high from then None else Some (as_request (nat_le from r.low && r.accepted) r)

-- the bounds of a request are no higher than those of a later one
pub record IsBelow (r later : Bounded) : Type 0 where
  pub low : r.low ≤ later.low
  pub high : IfSome later.high (λ top. IsSomeAnd r.high (λ t. t ≤ top))

-- the bounds rise
abbrev pub AreRising : List Bounded → Type 0
AreRising [] = ⊤
AreRising (r ∷ rs) = AllByRecursion (IsBelow r) rs × AreRising rs

-- a change that requests of the grammar can ask for
abbrev pub IsFormedRequest : TailoringParts → Bounded → Type 0
IsFormedRequest t r = IsGrammarChange t r.change

-- a state that a structure had at a tag
pub record Start : Type 0 where
  pub tag : ℕ
  pub state : Option Structure

-- the state that a kept packet tells
abbrev pub told_start : Key → Kept → Option Start
told_start key k = option_map (λ s. record { tag = tag_of k; state = Some s }) (reported_structure key k.report.body)

-- the states that were told, in the order of tags
abbrev pub told_starts : History → Key → List Start
told_starts h key = filter_map (told_start key) h.kept

-- where the start is known, the boot state at tag 0
abbrev pub boot_starts : TailoringParts → History → Key → List Start
boot_starts t h key = if h.known then record { tag = 0; state = boot_structure t key } ∷ [] else []

-- each tag is below those behind it
abbrev pub HaveRisingStarts : List Start → Type 0
HaveRisingStarts [] = ⊤
HaveRisingStarts (s ∷ ss) = AllByRecursion (λ later. s.tag < later.tag) ss × HaveRisingStarts ss

-- a valid state, the size of its payload aside
abbrev pub IsFormedStart : TailoringParts → Start → Type 0
IsFormedStart t s = IsFormedState t s.state
