-- How a run stands before a slot and in it: what is under way, and which lines were sent.
use Rattle.std.specs.Prelude.{◌≡◌, ℕ, ◌+◌, ◌<◌, nat_lt, List, ◌++◌, length, map, filter, flat_map}
use Rattle.std.specs.List.{AllByRecursion}
use Rattle.hk_base.specs.TailoringParts.{TailoringParts}
use Rattle.hk_world.specs.declared.moment.Moment.{Moment}
use Rattle.session_record.specs.Records.{entry_octets}
use Rattle.session_record.specs.declared.entry.Entry.TheVariants.{Sent, Got}
use Rattle.simulated_link.specs.Links.{Given, renamed}
use Rattle.simulated_link.specs.Holding.{IsHeld}
use Rattle.simulated_link.specs.declared.link.Link.{Link}
use Rattle.simulated_link.specs.declared.settings.Direction.{Direction}
use Rattle.simulated_link.specs.declared.settings.Direction.TheVariants.{Request, Report}
use Rattle.board_scripts.specs.declared.script.Script.{Script}
use Rattle.board_scripts.specs.declared.script.Sending.{Sending}
use Rattle.board_runs.specs.Slots.{sent_in, requests_given, given_in, deliveries}
use Rattle.run_slots.specs.Arrivals.{reported, requested}

-- what a number stands for: a request is that of a line, and a report that of a moment
abbrev pub packet_of : List Sending → List Moment → Direction → ℕ → List ℕ
packet_of sendings journal Request number = requested sendings number
packet_of sendings journal Report number = reported journal number

-- a report is known by the number of a moment of the journal
abbrev pub HasMoment : List Moment → Given ℕ → Type 0
HasMoment journal g = g.direction ≡ Report → g.packet < length journal

-- The link was given these packets, each by its number. What arrives of them from a slot on is held.
pub record HoldsPackets (sendings : List Sending) (journal : List Moment) (from : ℕ) (given : List (Given (List ℕ))) (link : Link) : Type 0 where
  pub numbers : List (Given ℕ)
  pub packets : map (renamed (packet_of sendings journal)) numbers ≡ given
  pub known : AllByRecursion (HasMoment journal) numbers
  pub held : (d : Direction) → IsHeld d from numbers link

-- how many lines are of slots before this one
abbrev pub lines_before : ℕ → List Sending → ℕ
lines_before slot sendings = length (filter (λ x. nat_lt x.slot slot) sendings)

-- A run stands before the slot after some: its link holds what was given in those, and the next line is the first that isn't of them.
pub record IsBeforeSlot (t : TailoringParts) (s : Script) (slots : List (List Moment)) (journal : List Moment) (slot next : ℕ) (link : Link) : Type 0 where
  pub number : slot ≡ length slots
  pub lines : next ≡ lines_before slot s.sendings
  pub settings : link.settings ≡ s.link
  pub held : HoldsPackets s.sendings journal slot (given_in t s slots) link

-- It stands in that slot: what is sent in it was given too, and what arrives in it was taken.
pub record IsInSlot (t : TailoringParts) (s : Script) (slots : List (List Moment)) (journal : List Moment) (slot next : ℕ) (link : Link) : Type 0 where
  pub number : slot ≡ length slots
  pub lines : next ≡ lines_before (slot + 1) s.sendings
  pub settings : link.settings ≡ s.link
  pub held : HoldsPackets s.sendings journal (slot + 1) (given_in t s slots ++ requests_given s slot) link

-- the octets with which the slot after some begins in the record: what the ground gets, and what it sends
abbrev pub opening_octets : TailoringParts → Script → List (List Moment) → List ℕ
opening_octets t s slots = flat_map entry_octets (map Got (deliveries t s slots) ++ map Sent (sent_in s (length slots)))
