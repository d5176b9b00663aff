-- The events of a slot, one after the other: its uplinks in order, each followed by work until nothing waits, with filings anywhere among them, and its end last.
use Rattle.std.specs.Prelude.{◌≡◌, ◌≢◌, ℕ, ◌<◌, ⊤, List, [], ◌∷◌, length, filter, filter_map, Bool, true, false, Option, Some, None}
use Rattle.std.specs.List.{range_with_len}
use Rattle.hk_world.specs.Legal.{is_pending}
use Rattle.hk_world.specs.Timelines.{last_act}
use Rattle.hk_world.specs.declared.moment.Moment.{Moment}
use Rattle.hk_world.specs.declared.moment.Act.{Act}
use Rattle.hk_world.specs.declared.moment.Act.TheVariants.{Filed}
use Rattle.board_steps.specs.Cores.{Core}
use Rattle.board_steps.specs.Steps.{MayFile, IsEvent, is_full, is_late}
use Rattle.board_steps.specs.Runs.{IsMade}
use Rattle.board_steps.specs.declared.event.Sample.{Sample}
use Rattle.board_steps.specs.declared.event.Event.{Event}
use Rattle.board_steps.specs.declared.event.Event.TheVariants.{Uplink, Clock, Work, Filing, CloseSlot}
use Rattle.board_steps.specs.declared.event.BoardFault.{BoardFault}
use Rattle.board_steps.specs.declared.event.BoardFault.TheVariants.{JournalFull, TimeExhausted, Memory}

-- how many requests were accepted and haven't ended, read off the moments
abbrev pub waiting : Core → ℕ
waiting core = length (filter (λ k. is_pending (last_act k core.moments)) (range_with_len 0 (length core.requests)))

-- the sample that an act files
abbrev pub filed_sample : Act → Option Sample
filed_sample (Filed id slot value) = Some (record { param = id; slot = slot; value = value })
filed_sample _ = None

-- the samples that moments file, in the order of the moments
abbrev pub filings : List Moment → List Sample
filings moments = filter_map (λ m. filed_sample m.act) moments

-- what is still ahead in a slot: whether work of its last uplink may be left, which uplinks are to come, and whether the slot is open
pub record Ahead : Type 0 where
  pub working : Bool
  pub packets : List (List ℕ)
  pub is_open : Bool

-- a slot begins with all its uplinks ahead
abbrev pub at_start : List (List ℕ) → Ahead
at_start uplinks = record { working = false; packets = uplinks; is_open = true }

-- after an uplink its work is ahead, and these uplinks
abbrev pub at_work : List (List ℕ) → Ahead
at_work uplinks = record { working = true; packets = uplinks; is_open = true }

-- the slot has ended
abbrev pub at_end : Ahead
at_end = record { working = false; packets = []; is_open = false }

-- no work of the last uplink is left
abbrev pub IsIdle : Ahead → Core → Type 0
IsIdle ahead core = ahead.working ≡ true → waiting core ≡ 0

-- Which event may come next, filings aside, and what is ahead then: an uplink where no work is left, work while something waits, and the end where no uplink and no work is left.
abbrev pub Follows : Ahead → Core → Event → Ahead → Type 0
Follows ahead core (Uplink packet) next =
    IsIdle ahead core × ((later : List (List ℕ)) × (ahead.packets ≡ packet ∷ later) × (next ≡ at_work later))
Follows ahead core Work next = (ahead.working ≡ true) × (0 < waiting core) × (next ≡ ahead)
Follows ahead core CloseSlot next = IsIdle ahead core × (ahead.packets ≡ []) × (next ≡ at_end)
Follows ahead core (Filing x) next = ⊥
Follows ahead core (Clock tag) next = ⊥

-- Which event may come next in an open slot, and what is ahead then: a sample that may be filed comes at any time.
abbrev pub Comes : Ahead → Core → Event → Ahead → Type 0
Comes ahead core (Filing x) next = (ahead.is_open ≡ true) × MayFile core x × (next ≡ ahead)
Comes ahead core (Uplink packet) next = (ahead.is_open ≡ true) × Follows ahead core (Uplink packet) next
Comes ahead core Work next = (ahead.is_open ≡ true) × Follows ahead core Work next
Comes ahead core CloseSlot next = (ahead.is_open ≡ true) × Follows ahead core CloseSlot next
Comes ahead core (Clock tag) next = ⊥

-- These events come one after the other, and each is made; the last two say what is ahead then, and what the core has become.
abbrev pub Leads : Ahead → Core → List Event → Ahead → Core → Type 0
Leads ahead core [] next after = (next ≡ ahead) × (after ≡ core)
Leads ahead core (event ∷ events) next after =
    (between : Ahead) × (mid : Core) × Comes ahead core event between × IsMade core event mid × Leads between mid events next after

-- all steps of a slot with these uplinks
abbrev pub IsSlot : List (List ℕ) → Core → Core → Type 0
IsSlot uplinks before after = (events : List Event) × Leads (at_start uplinks) before events at_end after

-- some first steps of a slot with these uplinks, and what is ahead then
abbrev pub IsPart : List (List ℕ) → Core → Ahead → Core → Type 0
IsPart uplinks before ahead after = (events : List Event) × Leads (at_start uplinks) before events ahead after

-- why a step isn't made: the journal has no room, or it has and there is no tag, or there is no memory, which may be so at each step
abbrev pub Refuses : Core → Event → BoardFault → Type 0
Refuses core event JournalFull = is_full core event ≡ true
Refuses core event TimeExhausted = (is_full core event ≡ false) × (is_late core event ≡ true)
Refuses core event Memory = ⊤

-- an event that may come next isn't made, for this reason; there may be no memory at any moment
abbrev pub IsStopped : Ahead → Core → BoardFault → Type 0
IsStopped ahead core fault =
    fault ≢ Memory → (event : Event) × (next : Ahead) × Comes ahead core event next × IsEvent core event × Refuses core event fault
