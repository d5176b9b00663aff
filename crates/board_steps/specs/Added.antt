-- What the moments say that a step adds: samples, parameter reports, and numbers in their ranges.
use Rattle.std.specs.Prelude.{◌≡◌, ℕ, ◌+◌, ◌*◌, ◌^◌, ◌≤◌, ◌<◌, max, ⊤, List, [], ◌∷◌, ◌++◌, length, reverse, map, filter, filter_map, nat_lt, pos, true, Option, Some, None, unwrap_or, option_map}
use Rattle.std.specs.List.{AllByRecursion}
use Rattle.hk_base.specs.Fields.{FitsSignedOctets}
use Rattle.hk_base.specs.Fit.{greatest_tag}
use Rattle.hk_base.specs.Parameters.{parameter, fits}
use Rattle.hk_base.specs.TailoringParts.{TailoringParts}
use Rattle.hk_base.specs.declared.types.Key.{Key}
use Rattle.hk_base.specs.declared.types.Param.{Param}
use Rattle.body_fields.specs.Spelling.{AreOctets}
use Rattle.st03_grammar.specs.declared.bodies.Report03.TheVariants as hk
use Rattle.pus_messages.specs.Protocol.{Protocol, Reception, readable}
use Rattle.pus_messages.specs.declared.message.ReportBody.{ReportBody}
use Rattle.pus_messages.specs.declared.message.ReportBody.TheVariants.{Hk}
use Rattle.hk_world.specs.declared.moment.Moment.{Moment}
use Rattle.hk_world.specs.declared.moment.Act.{Act}
use Rattle.hk_world.specs.declared.moment.Act.TheVariants.{Accepted, TurnedAway, Started, NotStarted, Executed, Completed, Emitted, Filed}
use Rattle.board_steps.specs.Cores.{Core, state_of, next_tag}
use Rattle.board_steps.specs.Plans.{settables, end_of_slot, every_key, is_reported, planned, slot_after_event}
use Rattle.board_steps.specs.SlotRuns.{filings}
use Rattle.board_steps.specs.declared.event.Sample.{Sample}
use Rattle.board_steps.specs.declared.event.Event.{Event}
use Rattle.board_steps.specs.declared.event.Event.TheVariants.{Filing, CloseSlot}

-- the value of a settable parameter as the sample of the slot that runs
abbrev pub own_sample : Core → Param → Sample
own_sample c p = record { param = p.id; slot = c.slot_now; value = unwrap_or ((state_of c).value p.id) (pos 0) }

-- the samples that an event files: a filing its own, the end of a slot those of the settable parameters, every other event none
abbrev pub filed_by : Core → Event → List Sample
filed_by c (Filing x) = x ∷ []
filed_by c CloseSlot = map (own_sample c) (settables c.tailoring)
filed_by c _ = []

-- the structure whose parameter report a body is, message types [3,25] and [3,26]
abbrev pub body_key : ReportBody → Option Key
body_key (Hk (hk.Values key payload)) = Some key
body_key _ = None

-- the structure whose parameter report octets are
abbrev pub report_key : Reception → Option Key
report_key (readable r) = body_key r.body
report_key _ = None

-- a structure's report, with its tag
pub record Reported : Type 0 where
  pub key : Key
  pub tag : ℕ

-- the parameter reports among moments, in the order of the moments
abbrev pub parameter_reports : Protocol → List Moment → List Reported
parameter_reports p moments =
    filter_map (λ m. option_map (λ key. record { key = key; tag = m.tag }) (report_key (p.reception m.packet))) moments

-- reports on these structures, one tag after the other
abbrev pub tagged : ℕ → List Key → List Reported
tagged tag [] = []
tagged tag (key ∷ keys) = record { key = key; tag = tag } ∷ tagged (tag + 1) keys

-- the tag of the first report at the end of a slot: it comes behind the samples of the settable parameters
abbrev pub first_report_tag : Core → ℕ
first_report_tag c = next_tag (max c.clock (end_of_slot c)) c.moments + length (settables c.tailoring)

-- The parameter reports that an event adds. At the end of a slot they are those of the structures that are due, all of whose places have a sample, in the order of keys; each takes the next tag, and is there where that is below the end of the slot after. No other event adds one.
abbrev pub reports_due : Core → Event → List Reported
reports_due c CloseSlot =
    filter (λ r. nat_lt r.tag ((c.slot_now + 2) * c.tailoring.widths.slot)) (tagged (first_report_tag c) (filter (is_reported c) (every_key c.tailoring)))
reports_due c _ = []

-- The moments that a step adds, the oldest first: as many as are planned. Their samples and their parameter reports are those of the event.
pub record Adds (before : Core) (event : Event) (new : List Moment) (after : Core) : Type 0 where
  pub moments : after.moments ≡ reverse new ++ before.moments
  pub count : length new ≡ length (planned before event)
  pub tailoring : after.tailoring ≡ before.tailoring
  pub slot_now : after.slot_now ≡ slot_after_event before event
  pub samples : filings new ≡ filed_by before event

-- the numbers of an act: counts have 14 bits, a request has at most 255 instructions, and a sample is of a slot up to the one that runs, of a known parameter and with a value that fits it
abbrev pub IsActWithin : TailoringParts → ℕ → Act → Type 0
IsActWithin t slot (Accepted k) = k < 16384
IsActWithin t slot (TurnedAway k) = k < 16384
IsActWithin t slot (Started k) = k < 16384
IsActWithin t slot (NotStarted k) = k < 16384
IsActWithin t slot (Executed k number flag) = (k < 16384) × (number ≤ 255)
IsActWithin t slot (Completed k refused) = (k < 16384) × (length refused ≤ 255) × AllByRecursion (λ n. n ≤ 255) refused
IsActWithin t slot Emitted = ⊤
IsActWithin t slot (Filed id x value) =
    (id < 65536) × (x ≤ slot) × FitsSignedOctets 16 value × ((p : Param) × (parameter t id ≡ Some p) × (fits p value ≡ true))

-- a moment within its ranges: a tag that a packet can carry, the numbers of its act, and a packet of at most 65,542 octets
pub record IsWithin (t : TailoringParts) (slot : ℕ) (m : Moment) : Type 0 where
  pub tag : m.tag ≤ greatest_tag t
  pub act : IsActWithin t slot m.act
  pub octets : AreOctets m.packet
  pub size : length m.packet ≤ 65542

-- A journal that can be written and carried: it has no more moments than it can hold, and each is within its ranges. Tags and slots have at most 56 bits.
pub record IsJournal (c : Core) : Type 0 where
  pub room : length c.moments ≤ 1048576
  pub greatest : greatest_tag c.tailoring < 2 ^ 56
  pub slot : c.slot_now ≤ greatest_tag c.tailoring
  pub moments : AllByRecursion (IsWithin c.tailoring c.slot_now) c.moments
