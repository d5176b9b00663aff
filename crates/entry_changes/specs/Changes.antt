-- What an entry leaves as it was.
use Rattle.std.specs.Prelude.{◌≡◌, ⊤, ℕ, ◌<◌, ◌≤◌, ◌⊎◌, List, length, filter_map, take, drop, Bool, true, false, not, Option, Some, None, option_map, option_and_then, nat_lt, if◌then◌else◌}
use Rattle.std.specs.List.{enumerate_from}
use Rattle.std.specs.Option.{option_map_or}
use Rattle.hk_base.specs.declared.types.Key.{Key}
use Rattle.st01_reports.specs.declared.verification.Verification.{Verification}
use Rattle.st01_reports.specs.declared.verification.Verification.TheVariants as verification
use Rattle.pus_messages.specs.Changes.{change_by}
use Rattle.ground_history.specs.Histories.{Sent, Kept, History, tag_of, insert_kept}
use Rattle.ground_history.specs.Evidence.{high, is_barred, outcome}
use Rattle.ground_history.specs.Indexes.{place_after}
use Rattle.ground_history.specs.Ground.{Ground}
use Rattle.definition_intervals.specs.Openings.{Candidate, candidates, openings}
use Rattle.opening_sweeps.specs.Requests.{Start, told_start}

-- a tag is below one from which on something may have changed, if there is one
abbrev pub IsBelow : ℕ → Option ℕ → Type 0
IsBelow tag None = ⊤
IsBelow tag (Some from) = tag < from

-- the state of a structure that a kept packet with a tag below another tells
abbrev pub told_start_below : Key → ℕ → Kept → Option Start
told_start_below key tag k = if nat_lt (tag_of k) tag then told_start key k else None

-- the states that were told of a structure below a tag
abbrev pub told_below : History → Key → ℕ → List Start
told_below h key tag = filter_map (told_start_below key tag) h.kept

-- For reports below a tag the openings of each structure are the same after something more is known, with the states that they begin with
-- and the requests after them; for all reports where there is no such tag.
pub record AreSameBelow (from : Option ℕ) (g later : Ground) : Type 0 where
  pub tailoring : later.tailoring ≡ g.tailoring
  pub known : later.history.known ≡ g.history.known
  pub candidates : (key : Key) (start tag : ℕ) → IsBelow tag from → candidates later.history key start tag ≡ candidates g.history key start tag
  pub told : (key : Key) (tag : ℕ) → IsBelow tag from → told_below later.history key tag ≡ told_below g.history key tag
  pub openings : (key : Key) (tag : ℕ) → IsBelow tag from → openings later.tailoring later.history key tag ≡ openings g.tailoring g.history key tag

-- what is known with one more kept packet
abbrev pub with_packet : History → Kept → History
with_packet h n = record h { kept = insert_kept n h.kept }

-- whether a tag is known and below another
abbrev pub is_under : Option ℕ → ℕ → Bool
is_under known tag = option_map_or (λ top. nat_lt top tag) known false

-- Request m comes before the first request of which a verification report on request j, with a tag, tells something new: before request j,
-- and where the report tells that requests have ended, m is known to have ended before.
pub record IsLastBefore (later : History) (j : ℕ) (v : Verification) (tag m : ℕ) : Type 0 where
  pub earlier : m < j
  pub ended : (place_after j v ≡ None) ⊎ (is_under (high later m) tag ≡ true)

-- whether a verification report tells that its request was accepted, and neither that it is barred nor what came of its instructions
abbrev pub tells_acceptance : Verification → Bool
tells_acceptance (verification.Accepted id) = true
tells_acceptance _ = false

-- a request that isn't barred may have changed a structure: as it is told before reports can tell that it ended
abbrev pub unsure : History → Key → ℕ × Sent → Option Candidate
unsure h key numbered =
    let k = numbered.0 in
    if not (is_barred h k)
    then option_map (λ c. record { number = k; change = c.1; certain = false; outcome = outcome h k c.0 })
    (option_and_then (change_by key) numbered.1.request)
    else None

-- the requests with numbers from one on and below another that may have changed a structure, as they are told before reports can tell that they ended
abbrev pub unsures : History → Key → ℕ → ℕ → List Candidate
unsures h key first end = filter_map (unsure h key) (drop first (take end (enumerate_from 0 h.requests)))

-- a number is at most that of the first request that was touched, if one was
abbrev pub IsUpTo : ℕ → Option ℕ → Type 0
IsUpTo end None = ⊤
IsUpTo end (Some touched) = end ≤ touched

-- The requests that were known before an entry, with numbers below that of the first that it touches, may change structures as they might before.
pub record AreUnsureSame (touched : Option ℕ) (g later : Ground) : Type 0 where
  pub count : length g.history.requests ≤ length later.history.requests
  pub unsures : (key : Key) (first end : ℕ) → end ≤ length g.history.requests → IsUpTo end touched → unsures later.history key first end ≡ unsures g.history key first end
