-- The requests that wait: those that were accepted and haven't ended, in the order of their numbers.
use Rattle.std.specs.Prelude.{◌≡◌, ℕ, zero, suc, ◌+◌, ◌/◌, ◌%◌, ◌^◌, ◌<◌, ◌≤◌, ⊤, List, [], ◌∷◌, ◌++◌, length, Bool, true, false, ◌==◌, Option, Some, IsTrue}
use Rattle.std.specs.List.{AllByRecursion, list_any}
use Rattle.pus_messages.specs.Instructions.{instructions}
use Rattle.pus_messages.specs.declared.message.Request.{Request}
use Rattle.hk_world.specs.Timelines.{Session, request_at, last_act}
use Rattle.hk_world.specs.Legal.{is_pending, refused_numbers}
use Rattle.hk_world.specs.Honest.{request_id}
use Rattle.hk_world.specs.declared.moment.Moment.{Moment}
use Rattle.hk_world.specs.declared.moment.Act.{Act}
use Rattle.hk_world.specs.declared.moment.Act.TheVariants.{Accepted, Started, Executed}
use Rattle.board_state.specs.declared.running.Running.{Running}
use Rattle.board_state.specs.declared.running.Asked.{Asked}
use Rattle.board_state.specs.declared.running.Asked.TheVariants.{Acceptance, Start, Progress, Completion}

-- the bit of a verification report among the acknowledgement flags
abbrev pub bit_of : Asked → ℕ
bit_of Acceptance = 0
bit_of Start = 1
bit_of Progress = 2
bit_of Completion = 3

-- whether a request asks for a report
abbrev pub asks : Request → Asked → Bool
asks r asked = r.header.flags / 2 ^ bit_of asked % 2 == 1

-- the packets of the requests that were handled, and the requests that wait
pub record RequestsHeld : Type 0 where
  pub packets : List (List ℕ)
  pub waiting : List Running

-- there are as many packets as counts, at most, and no more requests than packets
pub record AreHeld (packets : List (List ℕ)) (waiting : List Running) : Type 0 where
  pub most : length packets ≤ 16384
  pub fewer : length waiting ≤ length packets
  pub few : AllByRecursion (λ w. length (instructions w.request) ≤ 255) waiting

-- what was there is still in front
abbrev pub Stays : List (List ℕ) → List (List ℕ) → Type 0
Stays old new = (behind : List (List ℕ)) × (new ≡ old ++ behind)

-- the last act of a request by what is known of it: whether it started, and how many of its instructions were executed
abbrev pub IsStage : ℕ → Bool → ℕ → Option Act → Type 0
IsStage k false executed last = (executed ≡ 0) × (last ≡ Some (Accepted k))
IsStage k true zero last = last ≡ Some (Started k)
IsStage k true (suc n) last = (flag : Bool) × (last ≡ Some (Executed k (suc n) flag))

-- numbers that rise, above the first one and up to the second
abbrev pub AreWithin : ℕ → ℕ → List ℕ → Type 0
AreWithin below most [] = below ≤ most
AreWithin below most (n ∷ ns) = (below < n) × AreWithin n most ns

-- what is known of a request that waits is what the moments say
pub record IsRunning (s : Session) (moments : List Moment) (w : Running) : Type 0 where
  pub known : w.number < length s.requests
  pub request : request_at s w.number ≡ Some w.request
  pub id : w.id ≡ request_id s w.number
  pub stage : IsStage w.number w.started w.executed (last_act w.number moments)
  pub within : w.executed ≤ length (instructions w.request)
  pub refused : w.refused ≡ refused_numbers w.number moments
  pub rises : AreWithin 0 w.executed w.refused

-- their numbers rise
abbrev pub AreInOrder : List Running → Type 0
AreInOrder [] = ⊤
AreInOrder (w ∷ ws) = AllByRecursion (λ x. w.number < x.number) ws × AreInOrder ws

-- the requests that wait
pub record AreWaiting (s : Session) (moments : List Moment) (waiting : List Running) : Type 0 where
  pub each : AllByRecursion (IsRunning s moments) waiting
  pub order : AreInOrder waiting
  pub all : (k : ℕ) → is_pending (last_act k moments) ≡ true → IsTrue (list_any (λ w. w.number == k) waiting)

-- the first of the requests has started
abbrev pub first_started : List Running → List Running
first_started [] = []
first_started (w ∷ ws) = record w { started = true } ∷ ws

-- one more instruction of the first of the requests was done
abbrev pub first_done : List Running → List Running
first_done [] = []
first_done (w ∷ ws) = record w { executed = w.executed + 1 } ∷ ws

-- a request of which so many instructions were executed, and these refused
pub record IsWith (w : Running) (executed : ℕ) (refused : List ℕ) (v : Running) : Type 0 where
  pub number : v.number ≡ w.number
  pub id : v.id ≡ w.id
  pub request : v.request ≡ w.request
  pub started : v.started ≡ w.started
  pub executed_is : v.executed ≡ executed
  pub refused_are : v.refused ≡ refused

-- the refused numbers of the first of the requests, with the next one
abbrev pub next_refused : List Running → List ℕ
next_refused [] = []
next_refused (w ∷ ws) = w.refused ++ (w.executed + 1) ∷ []

-- one more instruction of the first of the requests was refused, so that these are
abbrev pub first_refused : List ℕ → List Running → List Running
first_refused numbers [] = []
first_refused numbers (w ∷ ws) = record w { executed = w.executed + 1; refused = numbers } ∷ ws
