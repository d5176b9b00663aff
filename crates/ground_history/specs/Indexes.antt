-- What is kept up to date of the evidence, so that it is found without a look at all kept packets.
use Rattle.std.specs.Prelude.{◌≡◌, ℕ, ◌+◌, ◌-◌, ◌^◌, ◌<◌, ◌≤◌, List, [], ◌∷◌, map, filter, max, nat_lt, nat_le, Bool, true, false, ◌&&◌, ◌||◌, ◌==◌, Option, Some, None, IfSome, unwrap_or, IsSome, if◌then◌else◌}
use Rattle.std.specs.List.{list_any, All}
use Rattle.std.specs.Option.{option_map_or, option_map}
use Rattle.std.specs.Map.{lookup}
use Rattle.std.specs.BTreeMap.{is_at}
use Rattle.std.specs.Ordering.{nat_cmp, ordering_then}
use Rattle.std.specs.declared.cmp.Ordering.{Ordering}
use Rattle.st01_reports.specs.declared.verification.Verification.{Verification}
use Rattle.st01_reports.specs.declared.verification.Verification.TheVariants as v
use Rattle.pus_messages.specs.declared.message.ReportBody.{ReportBody}
use Rattle.pus_messages.specs.declared.message.ReportBody.TheVariants.{Verify}
use Rattle.ground_history.specs.Histories.{Kept, tag_of, greatest, is_begun_report}
use Rattle.ground_history.specs.Evidence.{least, verifies, comes_before, comes_after, shows_accepted, shows_barred, shows_unstarted, is_completion}
use Rattle.ground_history.specs.Stairs.{height_at, HasStep}
use Rattle.ground_history.specs.declared.shown.Shown.{Shown}
use Rattle.ground_history.specs.declared.evidence.Evidence.{Evidence}

-- the first request whose lower bound a report raises to its tag, by the number of the request that it is on
abbrev pub place_before : ℕ → Verification → Option ℕ
place_before number (v.Accepted id) = Some number
place_before number (v.Refused id cause) = Some number
place_before number (v.Started id) = Some number
place_before number (v.NotStarted id cause) = Some number
place_before number (v.Completed id) = Some (number + 1)
place_before number (v.Incomplete id code steps) = Some (number + 1)
place_before number _ = None

-- the last request whose upper bound a report lowers to its tag
abbrev pub place_after : ℕ → Verification → Option ℕ
place_after number (v.Completed id) = Some number
place_after number (v.Incomplete id code steps) = Some number
place_after number (v.Started id) = if number == 0 then None else Some (number - 1)
place_after number (v.NotStarted id cause) = if number == 0 then None else Some (number - 1)
place_after number _ = None

-- places counted down, and heights that are the higher the lower a tag is
abbrev pub mirrored : ℕ → ℕ
mirrored place = 2 ^ 64 - 1 - place

-- the tag of a height that is counted down; none at the height 0
abbrev pub tag_at_height : ℕ → Option ℕ
tag_at_height height = if nat_lt 0 height then Some (2 ^ 64 - height) else None

-- whether a report shows that its request was started
abbrev pub is_started : Verification → Bool
is_started (v.Started id) = true
is_started _ = false

-- what a report shows of its request as a whole
abbrev pub shown_of : Verification → Shown
shown_of report =
    record {
      accepted = shows_accepted report;
      barred = shows_barred report;
      unstarted = shows_unstarted report;
      started = is_started report;
      completed = is_completion report;
    }

-- the instructions that a report tells to be refused, and those that it tells to be executed, by their numbers
abbrev pub refused_steps : Verification → List ℕ
refused_steps (v.StepFailed id step cause) = step ∷ []
refused_steps (v.Incomplete id code steps) = steps
refused_steps _ = []

-- the instructions that a report tells to be executed
abbrev pub done_steps : Verification → List ℕ
done_steps (v.Step id step) = step ∷ []
done_steps _ = []

-- what either of two shows
abbrev pub either_shown : Shown → Shown → Shown
either_shown a b =
    record {
      accepted = a.accepted || b.accepted;
      barred = a.barred || b.barred;
      unstarted = a.unstarted || b.unstarted;
      started = a.started || b.started;
      completed = a.completed || b.completed;
    }

-- nothing is shown
abbrev pub nothing_shown : Shown
nothing_shown = record { accepted = false; barred = false; unstarted = false; started = false; completed = false }

-- what is shown of a request
abbrev pub shown_at : List (ℕ × Shown) → ℕ → Shown
shown_at entries request = unwrap_or (lookup (is_at (nat_cmp request)) entries) nothing_shown

-- something is noted of a request
abbrev pub HasShown : List (ℕ × Shown) → ℕ → Type 0
HasShown entries request = IsSome (lookup (is_at (nat_cmp request)) entries)

-- the order of pairs
abbrev pub pair_cmp : ℕ × ℕ → ℕ × ℕ → Ordering
pair_cmp a b = ordering_then (nat_cmp a.0 b.0) (nat_cmp a.1 b.1)

-- whether an instruction of a request is marked
abbrev pub is_marked : List ((ℕ × ℕ) × Bool) → ℕ → ℕ → Bool
is_marked entries request step = unwrap_or (lookup (is_at (pair_cmp (request, step))) entries) false

-- there is a place for the mark of an instruction
abbrev pub HasMark : List ((ℕ × ℕ) × Bool) → ℕ → ℕ → Type 0
HasMark entries request step = IsSome (lookup (is_at (pair_cmp (request, step))) entries)

-- the indexes have a place for what a report is to change
pub record HasRoom (e : Evidence) (request : ℕ) (report : Verification) : Type 0 where
  pub low : IfSome (place_before request report) (λ place. HasStep e.low place)
  pub high : IfSome (place_after request report) (λ place. HasStep e.high (mirrored place))
  pub shown : HasShown e.shown request
  pub done : All (HasMark e.done request) (done_steps report)
  pub refused : All (HasMark e.refused request) (refused_steps report)

-- the indexes have a place for what a kept packet is to change
abbrev pub HasRoomFor : Evidence → Option ℕ → ReportBody → Type 0
HasRoomFor e (Some request) (Verify report) = HasRoom e request report
HasRoomFor e _ _ = Unit {0}

-- two indexes say the same
pub record SaysSame (old new : Evidence) : Type 0 where
  pub low : (k : ℕ) → height_at new.low k ≡ height_at old.low k
  pub high : (k : ℕ) → height_at new.high k ≡ height_at old.high k
  pub begun : new.begun ≡ old.begun
  pub shown : (k : ℕ) → shown_at new.shown k ≡ shown_at old.shown k
  pub done : (k step : ℕ) → is_marked new.done k step ≡ is_marked old.done k step
  pub refused : (k step : ℕ) → is_marked new.refused k step ≡ is_marked old.refused k step

-- steps with one more, where there is one
abbrev pub with_step : Option ℕ → ℕ → List (ℕ × ℕ) → List (ℕ × ℕ)
with_step None height steps = steps
with_step (Some place) height steps = (place, height) ∷ steps

-- the indexes say what they said, and what one more report with a tag says
pub record SaysMore (old new : Evidence) (tag request : ℕ) (report : Verification) : Type 0 where
  pub low : (k : ℕ) → height_at new.low k ≡ height_at (with_step (place_before request report) tag old.low) k
  pub high : (k : ℕ) → height_at new.high k ≡ height_at (with_step (option_map mirrored (place_after request report)) (2 ^ 64 - tag) old.high) k
  pub begun : new.begun ≡ (if is_begun_report (Verify report) then max (request + 1) old.begun else old.begun)
  pub shown : (k : ℕ) → shown_at new.shown k ≡ (if k == request then either_shown (shown_at old.shown k) (shown_of report) else shown_at old.shown k)
  pub done : (k step : ℕ) → is_marked new.done k step ≡ (is_marked old.done k step || (k == request && list_any (λ s. s == step) (done_steps report)))
  pub refused : (k step : ℕ) → is_marked new.refused k step ≡ (is_marked old.refused k step || (k == request && list_any (λ s. s == step) (refused_steps report)))

-- whether a kept packet is a report on a request that passes a test
abbrev pub is_on : (Verification → Bool) → ℕ → Kept → Bool
is_on test request k = verifies test (λ j. j == request) k

-- what some kept packets show of a request as a whole
abbrev pub shown_by : List Kept → ℕ → Shown
shown_by kept request =
    record {
      accepted = list_any (is_on shows_accepted request) kept;
      barred = list_any (is_on shows_barred request) kept;
      unstarted = list_any (is_on shows_unstarted request) kept;
      started = list_any (is_on is_started request) kept;
      completed = list_any (is_on is_completion request) kept;
    }

-- whether a kept packet shows that this request or a later one has begun
abbrev pub begins : ℕ → Kept → Bool
begins k r = is_begun_report r.report.body && option_map_or (λ j. nat_le k j) r.number false

-- the indexes say what the kept packets show
pub record Says (e : Evidence) (kept : List Kept) : Type 0 where
  pub low : (k : ℕ) → height_at e.low k ≡ greatest (map tag_of (filter (comes_before k) kept))
  pub small : (k : ℕ) → height_at e.low k < 2 ^ 64
  pub high : (k : ℕ) → k < 2 ^ 64 → tag_at_height (height_at e.high (mirrored k)) ≡ least (map tag_of (filter (comes_after k) kept))
  pub begun : (k : ℕ) → nat_lt k e.begun ≡ list_any (begins k) kept
  pub reach : e.begun ≤ 2 ^ 63
  pub shown : (k : ℕ) → shown_at e.shown k ≡ shown_by kept k
  pub done : (k step : ℕ) → is_marked e.done k step ≡ list_any (is_on (λ r. list_any (λ s. s == step) (done_steps r)) k) kept
  pub refused : (k step : ℕ) → is_marked e.refused k step ≡ list_any (is_on (λ r. list_any (λ s. s == step) (refused_steps r)) k) kept
