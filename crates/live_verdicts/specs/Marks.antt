-- What verdicts go on from while entries come: what was found of a structure at some tags.
use Rattle.std.specs.Prelude.{◌≡◌, ℕ, ◌+◌, ◌<◌, ◌≤◌, ◌⊎◌, min, unwrap_or, List, [], ◌∷◌, ◌++◌, length, slice_get, map, filter, filter_map, take, drop, true, false, nat_le, Option, Some, None}
use Rattle.std.specs.Option.{option_map_or}
use Rattle.std.specs.List.{All, AllByRecursion, HoldsAt, enumerate_from}
use Rattle.hk_base.specs.TailoringParts.{TailoringParts}
use Rattle.hk_base.specs.Parameters.{key_eq}
use Rattle.hk_base.specs.declared.types.Key.{Key}
use Rattle.hk_base.specs.declared.types.Structure.{Structure}
use Rattle.ground_history.specs.Histories.{Kept, History, tag_of}
use Rattle.ground_history.specs.Evidence.{low, high}
use Rattle.ground_history.specs.Ground.{Ground}
use Rattle.definition_intervals.specs.Openings.{Candidate, candidate, is_at_most}
use Rattle.definition_intervals.specs.Founds.{found_after, found_after_all, first_after, first_after_all, AreSameFound, IsFormedFound, IsBasisOf}
use Rattle.definition_intervals.specs.Bases.{IsFormedBasis}
use Rattle.opening_sweeps.specs.Requests.{Start, boot_starts}
use Rattle.entry_changes.specs.Changes.{told_below, told_start_below, unsures, IsBelow, IsUpTo}
use Rattle.live_verdicts.specs.declared.between.Numbers.{Numbers}
use Rattle.live_verdicts.specs.declared.held.Asked.{Asked}
use Rattle.live_verdicts.specs.declared.mark.Mark.{Mark}
use Rattle.live_verdicts.specs.declared.mark.StructureMark.{StructureMark}
use Rattle.live_verdicts.specs.declared.told.Told.{Told}

-- the states of a structure that open below a tag, in the order of their tags
abbrev pub starts_below : TailoringParts → History → Key → ℕ → List Start
starts_below t h key tag = boot_starts t h key ++ told_below h key tag

-- the requests from one number to another that may have changed a structure between an opening and a report
abbrev pub among : History → Key → ℕ → ℕ → ℕ → ℕ → List Candidate
among h key from tag first end = filter_map (candidate h key from tag) (drop first (take end (enumerate_from 0 h.requests)))

-- the requests before one number, as they are at a tag, and those from it on and below another, as they are before any of them is known to have ended
abbrev pub passed : History → Key → ℕ → ℕ → ℕ → ℕ → List Candidate
passed h key tag past listed from = among h key from tag 0 past ++ unsures h key past listed

-- what is found of a state before any request
abbrev pub first_found : Start → Option (List (Option Structure))
first_found s = Some (s.state ∷ [])

-- what is found of an opening by requests, which depend on its tag
abbrev pub found_at : TailoringParts → (ℕ → List Candidate) → Start → Option (List (Option Structure))
found_at t requests s = found_after_all t (requests s.tag) (first_found s)

-- the first open change of the latest of some openings
abbrev pub first_at : (ℕ → List Candidate) → List Start → Option ℕ
first_at requests [] = None
first_at requests (s ∷ []) = first_after_all (requests s.tag) None
first_at requests (s ∷ later ∷ ss) = first_at requests (later ∷ ss)

-- some of the finds is the same
abbrev pub HasSame : List (Option (List (Option Structure))) → Option (List (Option Structure)) → Type 0
HasSame [] f = ⊥
HasSame (g ∷ gs) f = AreSameFound f g ⊎ HasSame gs f

-- each find of either list is the same as some of the other
pub record AreAlike (fs gs : List (Option (List (Option Structure)))) : Type 0 where
  pub there : AllByRecursion (HasSame gs) fs
  pub back : AllByRecursion (HasSame fs) gs

-- what is found of some openings: each find once, and the first open change of the latest opening
pub record AreFound (t : TailoringParts) (requests : ℕ → List Candidate) (starts : List Start) (fs : List (Option (List (Option Structure)))) (change : Option ℕ) : Type 0 where
  pub finds : AreAlike (map (found_at t requests) starts) fs
  pub first : 1 ≤ length starts → change ≡ first_at requests starts

-- the finds of a mark are valid, and its basis is what they leave
pub record IsFormedMark (t : TailoringParts) (m : Mark) : Type 0 where
  pub finds : All (IsFormedFound t) m.finds.items
  pub basis : IsBasisOf m.finds.items (unwrap_or m.first 0) m.basis
  pub valid : IsFormedBasis t m.basis

-- what is found of openings
abbrev pub Finds : Type 0
Finds = List (Option (List (Option Structure)))

-- what is found of a state by requests with some numbers that haven't ended
abbrev pub found_behind : Ground → Key → Numbers → Start → Option (List (Option Structure))
found_behind g key numbers s = found_at g.tailoring (λ tag. unsures g.history key numbers.first numbers.end) s

-- what requests make of each of some finds is among others
abbrev pub AreKnown : TailoringParts → List Candidate → List (Option (List (Option Structure))) → List (Option (List (Option Structure))) → Type 0
AreKnown t requests origins finds = AllByRecursion (λ f. HasSame finds (found_after_all t requests f)) origins

-- the same of requests with some numbers that haven't ended
abbrev pub AreKnownBehind : Ground → Key → Numbers → Told → Type 0
AreKnownBehind g key numbers told = AreKnown g.tailoring (unsures g.history key numbers.first numbers.end) told.origins.items told.finds.items

-- A mark holds what is found of openings by the requests that have passed at its tag and those behind them, whatever number those are below, within its range.
pub record IsMarkOf (g : Ground) (key : Key) (starts : List Start) (m : Mark) : Type 0 where
  pub behind : m.past ≤ m.listed
  pub order : m.listed ≤ m.calm
  pub within : m.calm ≤ length g.history.requests
  pub formed : IsFormedMark g.tailoring m
  pub found : (n : ℕ) → m.listed ≤ n → n ≤ m.calm → AreFound g.tailoring (passed g.history key m.tag m.past n) starts m.finds.items m.first
  pub known : (n : ℕ) → m.listed ≤ n → n ≤ m.calm → AreKnown g.tailoring (unsures g.history key m.past n) m.origins.items m.finds.items
  pub open_change : (n : ℕ) → m.listed ≤ n → n ≤ m.calm → m.open_change ≡ first_after_all (unsures g.history key m.past n) None

-- a mark of a structure: of the states that open below its tag, none of them from another tag on
pub record IsMark (g : Ground) (key : Key) (m : Mark) : Type 0 where
  pub mark : IsMarkOf g key (starts_below g.tailoring g.history key m.tag) m
  pub opened : m.opened ≤ m.tag
  pub told : told_below g.history key m.tag ≡ told_below g.history key m.opened

-- the requests before a number are known to have ended at a tag, and may have been executed below it
pub record HavePassed (h : History) (past tag : ℕ) : Type 0 where
  pub ended : (k : ℕ) → k < past → is_at_most (high h k) tag ≡ true
  pub begun : (k : ℕ) → k < past → low h k < tag

-- the requests before a number may have been executed below a tag
abbrev pub HaveBegun : History → ℕ → ℕ → Type 0
HaveBegun h end tag = (k : ℕ) → k < end → low h k < tag

-- the requests from a number on aren't known to have ended at a tag
abbrev pub ArePending : History → ℕ → ℕ → Type 0
ArePending h first tag = (k : ℕ) → first ≤ k → k < length h.requests → is_at_most (high h k) tag ≡ false

-- no request from a number on may have been executed below a tag
abbrev pub AreLate : History → ℕ → ℕ → Type 0
AreLate h first tag = (k : ℕ) → first ≤ k → k < length h.requests → tag ≤ low h k

-- A mark holds for reports with a tag, of the requests below a number: those that it holds as passed are, and the others haven't ended.
pub record HoldsFor (h : History) (m : Mark) (listed tag : ℕ) : Type 0 where
  pub later : m.tag ≤ tag
  pub order : m.past ≤ listed
  pub within : listed ≤ length h.requests
  pub passed : HavePassed h m.past m.tag
  pub pending : (m.past ≡ listed) ⊎ ArePending h m.past tag
  pub begun : HaveBegun h listed tag

-- Verdicts on reports with a tag go on from a mark with the requests below a number: the others come behind each state that it holds.
pub record GoesOn (h : History) (m : Mark) (listed tag : ℕ) : Type 0 where
  pub from : m.listed ≤ listed
  pub to : listed ≤ m.calm
  pub holds : HoldsFor h m listed tag
  pub ahead : ArePending h listed m.opened
  pub late : AreLate h listed m.opened

-- A mark comes to reports with a tag, where the requests below a number may have been executed: it holds for them, where it reaches those requests.
pub record ComesTo (h : History) (m : Mark) (listed tag : ℕ) : Type 0 where
  pub from : m.listed ≤ listed
  pub holds : HoldsFor h m listed tag

-- The basis of verdicts that a mark holds is that on reports with a tag: it comes to them, it reaches the requests, and no state was told between.
pub record IsNear (h : History) (key : Key) (m : Mark) (listed tag : ℕ) : Type 0 where
  pub comes : ComesTo h m listed tag
  pub reaches : listed ≤ m.calm
  pub untold : told_below h key tag ≡ told_below h key m.tag

-- the requests below a number, and no others, may have been executed below a tag
pub record AreListedBelow (h : History) (tag listed : ℕ) : Type 0 where
  pub within : listed ≤ length h.requests
  pub begun : HaveBegun h listed tag
  pub late : AreLate h listed tag

-- the kept packets from a tag on
abbrev pub kept_from : ℕ → History → List Kept
kept_from from h = filter (λ k. nat_le from (tag_of k)) h.kept

-- the states that were told of a structure from one tag on and below another
abbrev pub told_between : History → Key → ℕ → ℕ → List Start
told_between h key from tag = filter_map (told_start_below key tag) (kept_from from h)

-- what is found of an opening by the requests with numbers from one on and below another
abbrev pub found_by : TailoringParts → History → Key → ℕ → ℕ → ℕ → Start → Option (List (Option Structure))
found_by t h key tag first end s = found_after_all t (among h key s.tag tag first end) (Some (s.state ∷ []))

-- the first open change of the latest of some openings, by these requests; one that is given where there is no opening
abbrev pub first_by : History → Key → ℕ → ℕ → ℕ → List Start → Option ℕ → Option ℕ
first_by h key tag first end [] given = given
first_by h key tag first end (s ∷ ss) given = first_by h key tag first end ss (first_after_all (among h key s.tag tag first end) None)

-- a mark that holds up to another number
abbrev pub with_calm : Mark → ℕ → Mark
with_calm m calm = record m { calm = calm }

-- a mark holds up to another number too
abbrev pub IsCalmTo : Ground → Key → Mark → ℕ → Type 0
IsCalmTo g key m calm = (starts : List Start) → IsMarkOf g key starts m → IsMarkOf g key starts (with_calm m calm)

-- a mark that goes on to the request where another ends
pub record IsGrown (m later : Mark) : Type 0 where
  pub tag : later.tag ≡ m.tag
  pub opened : later.opened ≡ m.opened
  pub past : later.past ≡ m.past
  pub listed : later.listed ≡ m.calm + 1
  pub calm : later.calm ≡ m.calm + 1

-- a request leaves what a mark found as it is
abbrev pub LeavesFinds : TailoringParts → Candidate → Mark → Type 0
LeavesFinds t c m = All (λ f. AreSameFound f (found_after t c f)) m.finds.items

-- two requests have the same change, of which the same is known
pub record IsAlike (a b : Candidate) : Type 0 where
  pub change : a.change ≡ b.change
  pub certain : a.certain ≡ b.certain
  pub outcome : a.outcome ≡ b.outcome

-- some request has the same change
abbrev pub HasAlike : List Candidate → Candidate → Type 0
HasAlike [] c = ⊥
HasAlike (d ∷ ds) c = IsAlike d c ⊎ HasAlike ds c

-- a request leaves what a mark holds as it is
pub record Leaves (t : TailoringParts) (c : Candidate) (m : Mark) : Type 0 where
  pub finds : LeavesFinds t c m
  pub first : first_after c m.first ≡ m.first
  pub open_change : first_after c m.open_change ≡ m.open_change

-- a number, or that of the first request that was touched, if that is less
abbrev pub narrowed_to : ℕ → Option ℕ → ℕ
narrowed_to calm None = calm
narrowed_to calm (Some touched) = min calm touched

-- a mark stays where it rests on tags below one from which on something may have changed, and on requests before one that was touched
abbrev pub IsKept : Mark → Option ℕ → Option ℕ → Type 0
IsKept m from touched = IsBelow m.tag from × IsUpTo m.listed touched

-- the place of a mark of a structure that is as wanted, among those that are held
abbrev pub IsPlaceOf : (Mark → Type 0) → Key → List StructureMark → ℕ → Type 0
IsPlaceOf Wanted key held place = (place < length held) × HoldsAt (λ x. (key_eq x.key key ≡ true) × Wanted x.mark) held place

-- the place of a mark of a structure that comes to reports
abbrev pub IsComingAt : History → Asked → List StructureMark → ℕ → Type 0
IsComingAt h asked held place = IsPlaceOf (λ m. ComesTo h m asked.listed asked.tag) asked.key held place

-- .. and reaches the requests that may have been executed
abbrev pub IsReachingAt : History → Asked → List StructureMark → ℕ → Type 0
IsReachingAt h asked held place = IsPlaceOf (λ m. ComesTo h m asked.listed asked.tag × (asked.listed ≤ m.calm)) asked.key held place

-- .. and whose basis is that of verdicts on them
abbrev pub IsNearAt : History → Asked → List StructureMark → ℕ → Type 0
IsNearAt h asked held place = IsPlaceOf (λ m. IsNear h asked.key m asked.listed asked.tag) asked.key held place

-- up to which number a mark holds, by its place among those that are held
abbrev pub calm_at : List StructureMark → ℕ → ℕ
calm_at held place = option_map_or (λ x. x.mark.calm) (slice_get held place) 0

-- what is held: marks of structures
abbrev pub Live : Type 0
Live = List StructureMark

-- What is held stands for what is known: each mark is one of its structure.
pub record StandsFor (live : Live) (g : Ground) : Type 0 where
  pub marks : All (λ x. IsMark g x.key x.mark) live
