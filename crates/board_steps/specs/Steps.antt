-- What a step of a board's core is, and when it can't be made.
use Rattle.std.specs.Prelude.{◌≡◌, ℕ, ◌+◌, ⊤, List, [], ◌∷◌, length, map, ℤ, Bool, true, false, ◌&&◌, ◌||◌, nat_lt, Some, Result, Ok, Err}
use Rattle.std.specs.List.{AllByRecursion, AllZip}
use Rattle.body_fields.specs.Spelling.{AreOctets}
use Rattle.hk_base.specs.Fit.{greatest_tag}
use Rattle.hk_base.specs.Parameters.{parameter, fits, is_settable}
use Rattle.hk_base.specs.Payload.{places, IsPayload}
use Rattle.hk_base.specs.declared.types.Key.{Key}
use Rattle.hk_base.specs.declared.types.Param.{Param}
use Rattle.hk_base.specs.declared.types.Structure.{Structure}
use Rattle.st03_grammar.specs.declared.bodies.PeriodicRow.{PeriodicRow}
use Rattle.st03_grammar.specs.declared.bodies.Report03.TheVariants as hk
use Rattle.st04_grammar.specs.declared.bodies.StatReport.{StatReport}
use Rattle.st04_grammar.specs.declared.bodies.Report04.TheVariants as stat
use Rattle.st20_grammar.specs.declared.bodies.Setting.{Setting}
use Rattle.pus_messages.specs.declared.message.ReportBody.{ReportBody}
use Rattle.pus_messages.specs.declared.message.ReportBody.TheVariants.{Hk, Stat, Par}
use Rattle.hk_world.specs.Timelines.{Session, tailoring, state_after}
use Rattle.hk_world.specs.Honest.{Carries, IsReport, IsFiled, IsStatisticsReport}
use Rattle.hk_world.specs.declared.moment.Moment.{Moment}
use Rattle.hk_world.specs.declared.moment.Act.TheVariants.{Emitted}
use Rattle.board_steps.specs.Cores.{Core, session, pending, next_tag, HasNextHeader}
use Rattle.board_steps.specs.Slots.{is_filed}
use Rattle.board_steps.specs.Plans.{Topic, samples_of, structure_of, properties_of, statistics, definitions, values_of, Plan, does, tells, prepared, planned, one_shot_after, slot_after_event}
use Rattle.board_steps.specs.declared.event.Sample.{Sample}
use Rattle.board_steps.specs.declared.event.Event.{Event}
use Rattle.board_steps.specs.declared.event.Event.TheVariants.{Uplink, Filing, CloseSlot}
use Rattle.board_steps.specs.declared.event.BoardFault.{BoardFault}
use Rattle.board_steps.specs.declared.event.BoardFault.TheVariants.{JournalFull, TimeExhausted, Memory}

-- a payload has the samples of a structure's places, the last of them in this slot
pub record HasSamples (s : Session) (slot : ℕ) (earlier : List Moment) (key : Key) (payload : List ℕ) : Type 0 where
  pub structure : Structure
  pub values : List ℤ
  pub is_there : (state_after s earlier).structure key ≡ Some structure
  pub samples : AllZip (IsFiled earlier) (places structure.def slot) values
  pub payload_is : IsPayload (tailoring s) structure.def values payload

-- the properties of a structure
abbrev pub row_of : Key → Structure → PeriodicRow
row_of key x = record { id = key.id; enabled = x.enabled; interval = x.def.interval }

-- the body of a report on a topic that is made after some moments, while this slot runs
abbrev pub IsAbout : Session → ℕ → List Moment → ℕ → Topic → ReportBody → Type 0
IsAbout s slot earlier tag (samples_of key) body =
    (payload : List ℕ) × (body ≡ Hk (hk.Values key payload)) × HasSamples s slot earlier key payload
IsAbout s slot earlier tag (structure_of key) body =
    (x : Structure) × (body ≡ Hk (hk.Structure key x)) × ((state_after s earlier).structure key ≡ Some x)
IsAbout s slot earlier tag (properties_of key) body =
    (x : Structure) × (body ≡ Hk (hk.Periodic key.kind (row_of key x ∷ []))) × ((state_after s earlier).structure key ≡ Some x)
IsAbout s slot earlier tag statistics body = (r : StatReport) × (body ≡ Stat (stat.Statistics r)) × IsStatisticsReport s earlier tag r
IsAbout s slot earlier tag definitions body =
    let x = (state_after s earlier).statistics in
    body ≡ Stat (stat.Definitions x.enabled x.interval (map (λ m. m.param) x.members))
IsAbout s slot earlier tag (values_of ids) body =
    (pairs : List Setting) × (body ≡ Par (record { pairs = pairs })) × (map (λ x. x.param) pairs ≡ ids)
    × AllByRecursion (λ x. (state_after s earlier).value x.param ≡ Some x.value) pairs

-- a moment does or tells what was planned
abbrev pub IsAsPlanned : Session → ℕ → List Moment → Moment → Plan → Type 0
IsAsPlanned s slot earlier m (does act) = (m.act ≡ act) × Carries s earlier m act
IsAsPlanned s slot earlier m (tells topic) = (m.act ≡ Emitted) × ((body : ReportBody) × IsReport s m body × IsAbout s slot earlier m.tag topic body)

-- a moment is the next one, as planned: it takes the next tag, and its report the next header; its packet is of octets
pub record IsNext (s : Session) (clock slot : ℕ) (earlier : List Moment) (plan : Plan) (m : Moment) : Type 0 where
  pub tag : m.tag ≡ next_tag clock earlier
  pub follows : IsAsPlanned s slot earlier m plan
  pub header : HasNextHeader s.protocol earlier m
  pub octets : AreOctets m.packet

-- after some moments come those that were planned, one after the other
abbrev pub AreNext : Session → ℕ → ℕ → List Moment → List Plan → List Moment → Type 0
AreNext s clock slot earlier [] after = after ≡ earlier
AreNext s clock slot earlier (plan ∷ plans) after =
    (m : Moment) × IsNext s clock slot earlier plan m × AreNext s clock slot (m ∷ earlier) plans after

-- A step: the core as the event finds it does what is planned then.
pub record IsStep (before : Core) (event : Event) (after : Core) : Type 0 where
  pub tailoring : after.tailoring ≡ before.tailoring
  pub clock : after.clock ≡ (prepared before event).clock
  pub requests : after.requests ≡ (prepared before event).requests
  pub slot_now : after.slot_now ≡ slot_after_event before event
  pub one_shots : (key : Key) → pending after key ≡ one_shot_after before event key
  pub moments : AreNext (session (prepared before event)) (prepared before event).clock before.slot_now before.moments (planned before event) after.moments

-- whether the journal would have more moments than it holds
abbrev pub is_full : Core → Event → Bool
is_full c event = nat_lt 1048576 (length c.moments + length (planned c event))

-- whether an event ends the slot that runs
abbrev pub is_closing : Event → Bool
is_closing CloseSlot = true
is_closing _ = false

-- whether a tag would be greater than a packet can carry: that of the last moment, or the clock where a slot ends
abbrev pub is_late : Core → Event → Bool
is_late c event =
    (nat_lt 0 (length (planned c event))
    && nat_lt (greatest_tag c.tailoring + 1) (next_tag (prepared c event).clock c.moments + length (planned c event)))
    || (is_closing event && nat_lt (greatest_tag c.tailoring) (prepared c event).clock)

-- what a step answers; want of memory can come in place of each other answer
abbrev pub Answers : Core → Event → Core → Result ℕ BoardFault → Type 0
Answers before event after (Ok count) =
    (is_full before event ≡ false) × (is_late before event ≡ false) × (count ≡ length (planned before event)) × IsStep before event after
Answers before event after (Err JournalFull) = (is_full before event ≡ true) × (after ≡ before)
Answers before event after (Err TimeExhausted) = (is_full before event ≡ false) × (is_late before event ≡ true) × (after ≡ before)
Answers before event after (Err Memory) = after ≡ before

-- a sample that may be filed: the parameter is sensed, the value fits, the slot runs, and there is no sample of it yet
pub record MayFile (c : Core) (x : Sample) : Type 0 where
  pub param : Param
  pub known : parameter c.tailoring x.param ≡ Some param
  pub sensed : is_settable param ≡ false
  pub fit : fits param x.value ≡ true
  pub slot : x.slot ≡ c.slot_now
  pub once : is_filed c x.param ≡ false

-- what an event has to meet: a packet is of octets, and a sample may be filed
abbrev pub IsEvent : Core → Event → Type 0
IsEvent c (Uplink packet) = AreOctets packet
IsEvent c (Filing x) = MayFile c x
IsEvent c _ = ⊤
