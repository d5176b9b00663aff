-- What holds of the timeline of each board: it is one that can have happened, and its numbers and slots are those that the board came to.
use Rattle.std.specs.Prelude.{◌≡◌, ℕ, ◌*◌, ◌<◌, ◌≤◌, ⊤, List, length, slice_get, Bool, true, IfSome}
use Rattle.std.specs.List.{AllByRecursion}
use Rattle.hk_base.specs.Fit.{greatest_tag}
use Rattle.hk_base.specs.TailoringParts.{TailoringParts}
use Rattle.body_fields.specs.Spelling.{AreOctets}
use Rattle.hk_world.specs.Timelines.{EachAfter, Session, tailoring, request_number}
use Rattle.hk_world.specs.Worlds.{MayHappen}
use Rattle.hk_world.specs.declared.moment.Moment.{Moment}
use Rattle.hk_world.specs.declared.moment.Act.{Act}
use Rattle.hk_world.specs.declared.moment.Act.TheVariants.{Filed}
use Rattle.board_steps.specs.Cores.{Core, session}
use Rattle.board_steps.specs.Slots.{is_set}

-- an act is of a request with a number below this one, or of none
abbrev pub IsBelow : ℕ → Act → Type 0
IsBelow n act = IfSome (request_number act) (λ k. k < n)

-- so is each act
abbrev pub AreBelow : ℕ → List Moment → Type 0
AreBelow n moments = AllByRecursion (λ m. IsBelow n m.act) moments

-- a sample is of a slot up to this one, and before it where the parameter is settable
abbrev pub IsFiledBy : TailoringParts → ℕ → Act → Type 0
IsFiledBy t slot (Filed id x value) = (x ≤ slot) × (is_set t id ≡ true → x < slot)
IsFiledBy t slot _ = ⊤

abbrev pub AreFiledBy : TailoringParts → ℕ → List Moment → Type 0
AreFiledBy t slot moments = AllByRecursion (λ m. IsFiledBy t slot m.act) moments

-- a timeline that a board can have made while a slot runs
pub record IsGood (s : Session) (slot : ℕ) (moments : List Moment) : Type 0 where
  pub timeline : EachAfter (MayHappen s) moments
  pub below : AreBelow (length s.requests) moments
  pub filed : AreFiledBy (tailoring s) slot moments

-- A core that has done what a board can have done: its timeline is good; requests and packets are of octets, and there are no more requests than counts, and no more moments than a journal holds; the slot that runs begins at a tag that a packet can carry.
pub record Stands (c : Core) : Type 0 where
  pub good : IsGood (session c) c.slot_now c.moments
  pub octets : AllByRecursion AreOctets c.requests
  pub packets : AllByRecursion (λ m. AreOctets m.packet) c.moments
  pub few : length c.requests ≤ 16384
  pub room : length c.moments ≤ 1048576
  pub early : c.slot_now * c.tailoring.widths.slot ≤ greatest_tag c.tailoring

-- a session as the ground may have it: its start is known or not, and it has requests of its own
abbrev pub on_ground : Session → Bool → List (List ℕ) → Session
on_ground s known requests = record { protocol = s.protocol; known = known; long = s.long; initial = s.initial; requests = requests }

-- a session with other requests
abbrev pub exchanged : Session → List (List ℕ) → Session
exchanged s other = on_ground s s.known other

-- two lists of packets agree at the number that an act names
abbrev pub Agrees : List (List ℕ) → List (List ℕ) → Act → Type 0
Agrees requests other act = IfSome (request_number act) (λ k. slice_get requests k ≡ slice_get other k)

-- they agree at each number that a moment names
abbrev pub AgreeOn : List (List ℕ) → List (List ℕ) → List Moment → Type 0
AgreeOn requests other moments = AllByRecursion (λ m. Agrees requests other m.act) moments
