-- Worlds: what the ground sends, what the board does and what is delivered, in any order. Steps stand with the newest first.
use Rattle.std.specs.Prelude.{◌≡◌, ◌≢◌, ℕ, suc, max, unwrap_or, ◌+◌, ◌-◌, ◌%◌, ◌<◌, ◌≤◌, ⊤, ◌⊎◌, List, [], ◌∷◌, ◌++◌, slice_get, ℤ, Bool, false, ◌==◌, Some, IfSome, IsTrue, MatchBool, if◌then◌else◌}
use Rattle.hk_base.specs.Fit.{IsFit, slot_of}
use Rattle.hk_base.specs.Payload.{IsValid, places}
use Rattle.hk_base.specs.declared.types.Key.{Key}
use Rattle.hk_base.specs.declared.types.Structure.{Structure}
use Rattle.pus_packet.specs.declared.header.TcHeader.{TcHeader}
use Rattle.st03_grammar.specs.declared.bodies.Report03.TheVariants as hk
use Rattle.st04_grammar.specs.declared.bodies.StatRow.{StatRow}
use Rattle.st04_grammar.specs.declared.bodies.StatReport.{StatReport}
use Rattle.st04_grammar.specs.declared.bodies.Report04.TheVariants as stat
use Rattle.st20_grammar.specs.declared.bodies.Setting.{Setting}
use Rattle.st20_grammar.specs.declared.bodies.Report20.{Report20}
use Rattle.pus_messages.specs.Protocol.{Reception, foreign, skipped, unread, readable}
use Rattle.pus_messages.specs.declared.message.ReportBody.{ReportBody}
use Rattle.pus_messages.specs.declared.message.ReportBody.TheVariants.{Hk, Stat, Par}
use Rattle.hk_world.specs.States.{BoardState, boot_state}
use Rattle.hk_world.specs.Timelines.{EachAfter, Session, tailoring, state_at}
use Rattle.hk_world.specs.Legal.{TagRises, HandlesNext, IsInOrder, TellsOutcome, FilesSample, handled_number}
use Rattle.hk_world.specs.Honest.{Carries, IsReport, IsFiled}
use Rattle.hk_world.specs.Timelines as timelines
use Rattle.hk_world.specs.declared.moment.Moment.{Moment}
use Rattle.hk_world.specs.declared.moment.Act.{Act}
use Rattle.hk_world.specs.declared.moment.Act.TheVariants.{Started, NotStarted, Executed, Completed}

-- a step of a world: a request is sent, first or again, by its number; the board does something; a moment's packet is delivered; or another packet comes
pub data Step : Type 0 where
  send : ℕ → Step
  happen : Moment → Step
  deliver : Moment → Step
  stray : List ℕ → Step

-- what the ground sees of a step
pub data Entry : Type 0 where
  sent : List ℕ → Entry
  got : List ℕ → Entry

-- a session, and the steps so far, the newest first
pub record World : Type 0 where
  pub session : Session
  pub steps : List Step

-- the count of a request with this number
abbrev pub count_of : Bool → ℕ → ℕ
count_of long k = if long then k % 16384 else k

-- how many requests were sent: they are sent in the order of their numbers
abbrev pub sent_count : List Step → ℕ
sent_count [] = 0
sent_count (send k ∷ earlier) = max (sent_count earlier) (suc k)
sent_count (_ ∷ earlier) = sent_count earlier

-- the moments, the newest first
abbrev pub moments_of : List Step → List Moment
moments_of [] = []
moments_of (happen m ∷ earlier) = m ∷ moments_of earlier
moments_of (_ ∷ earlier) = moments_of earlier

-- the moments whose packets were delivered, the newest first
abbrev pub deliveries_of : List Step → List Moment
deliveries_of [] = []
deliveries_of (deliver m ∷ earlier) = m ∷ deliveries_of earlier
deliveries_of (_ ∷ earlier) = deliveries_of earlier

-- the packet of a request
abbrev pub packet_of : List (List ℕ) → ℕ → List ℕ
packet_of requests k = unwrap_or (slice_get requests k) []

-- what the ground saw, the newest first
abbrev pub entries_seen : List (List ℕ) → List Step → List Entry
entries_seen requests [] = []
entries_seen requests (send k ∷ earlier) = sent (packet_of requests k) ∷ entries_seen requests earlier
entries_seen requests (happen m ∷ earlier) = entries_seen requests earlier
entries_seen requests (deliver m ∷ earlier) = got m.packet ∷ entries_seen requests earlier
entries_seen requests (stray packet ∷ earlier) = got packet ∷ entries_seen requests earlier

-- whether an act shows that a request was begun
abbrev pub shows_begun : ℕ → Act → Bool
shows_begun k (Started j) = j == k
shows_begun k (NotStarted j) = j == k
shows_begun k (Executed j number flag) = j == k
shows_begun k (Completed j refused) = j == k
shows_begun k _ = false

-- a report that request k or a later one was begun was delivered
abbrev pub IsKnownBegun : List Step → ℕ → Type 0
IsKnownBegun steps k =
    (i : ℕ) × (m : Moment) × (j : ℕ) × (slice_get (deliveries_of steps) i ≡ Some m) × (k ≤ j) × IsTrue (shows_begun j m.act)

-- A request is sent again, in a long session one of the last 8,192, or it is the next. In a long session the next one waits until a request no more than 8,191 before it is known to have begun.
abbrev pub MaySend : Bool → List Step → ℕ → Type 0
MaySend long earlier k =
    ((k < sent_count earlier) × MatchBool long (sent_count earlier ≤ k + 8192) ⊤)
    ⊎ ((k ≡ sent_count earlier) × MatchBool long ((k ≤ 8190) ⊎ IsKnownBegun earlier (k - 8191)) ⊤)

-- the packet of request k is one of the ground's, with the count of its number
pub record IsRequest (s : Session) (k : ℕ) : Type 0 where
  pub packet : List ℕ
  pub header : TcHeader
  pub listed : slice_get s.requests k ≡ Some packet
  pub command : s.protocol.command packet ≡ Some header
  pub apid : header.apid ≡ (tailoring s).widths.apid
  pub source : header.source ≡ (tailoring s).widths.ground
  pub count : header.count ≡ count_of s.long k

-- a moment may come after these, and its packet is honest
pub record MayHappen (s : Session) (earlier : List Moment) (m : Moment) : Type 0 where
  pub tag : TagRises s earlier m
  pub handling : HandlesNext s earlier m.act
  pub order : IfSome (timelines.request_number m.act) (IsInOrder s earlier m.act)
  pub outcome : TellsOutcome s earlier m.act
  pub sample : FilesSample s earlier m.act
  pub packet : Carries s earlier m m.act

-- a request that is handled was sent before
abbrev pub WasSent : List Step → Act → Type 0
WasSent earlier act = IfSome (handled_number act) (λ k. k < sent_count earlier)

-- octets that another process sent, or of a type that isn't known
abbrev pub IsStray : Reception → Type 0
IsStray (foreign apid) = ⊤
IsStray (skipped service subtype) = ⊤
IsStray unread = ⊥
IsStray (readable r) = ⊥

-- which step may come next
abbrev pub MayStep : Session → List Step → Step → Type 0
MayStep s earlier (send k) = IsRequest s k × MaySend s.long earlier k
MayStep s earlier (happen m) = WasSent earlier m.act × MayHappen s (moments_of earlier) m
MayStep s earlier (deliver m) = ((i : ℕ) × (slice_get (moments_of earlier) i ≡ Some m)) × (m.packet ≢ [])
MayStep s earlier (stray packet) = IsStray (s.protocol.reception packet)

-- a session may begin so: in the boot state where its start is known, and else with any valid structures
pub record IsSession (s : Session) : Type 0 where
  pub fit : IsFit (tailoring s)
  pub valid : (key : Key) → IfSome (s.initial.structure key) (λ x. IsValid (tailoring s) x.def)
  pub booted : IsTrue s.known → s.initial ≡ boot_state (tailoring s)

-- a world
pub record IsWorld (w : World) : Type 0 where
  pub session : IsSession w.session
  pub steps : EachAfter (MayStep w.session) w.steps

-- A moment whose packet was delivered is one of the timeline, and its packet tells what those before it left.
pub record IsDelivered (s : Session) (moments : List Moment) (m : Moment) : Type 0 where
  pub number : ℕ
  pub made : slice_get moments number ≡ Some m
  pub some : m.packet ≢ []
  pub low : 1 ≤ m.tag
  pub later : List Moment
  pub earlier : List Moment
  pub before : moments ≡ later ++ earlier
  pub honest : Carries s earlier m m.act

-- the board's state in a world at a tag
abbrev pub world_state_at : World → ℕ → BoardState
world_state_at w tag = state_at w.session (moments_of w.steps) tag

-- the timeline has a report with this tag and body
abbrev pub Reports : World → ℕ → ReportBody → Type 0
Reports w tag body = (i : ℕ) × (m : Moment) × (slice_get (moments_of w.steps) i ≡ Some m) × (m.tag ≡ tag) × IsReport w.session m body

-- A decided value is true: the board took it as the sample of its parameter and slot, and that is its place in the report under the definition in force.
pub record IsTrueValue (w : World) (key : Key) (tag interval row : ℕ) (param slot : ℕ) (value : ℤ) : Type 0 where
  pub payload : List ℕ
  pub structure : Structure
  pub reported : Reports w tag (Hk (hk.Values key payload))
  pub in_force : (world_state_at w tag).structure key ≡ Some structure
  pub interval_is : structure.def.interval ≡ interval
  pub place : slice_get (places structure.def (slot_of (tailoring w.session) tag - 1)) row ≡ Some (record { param = param; slot = slot })
  pub sample : IsFiled (moments_of w.steps) (record { param = param; slot = slot }) value

-- a row of statistics is true: the board reported it
abbrev pub IsTrueStat : World → ℕ → ℕ → StatRow → Type 0
IsTrueStat w tag row stat_row = (r : StatReport) × Reports w tag (Stat (stat.Statistics r)) × (slice_get r.rows row ≡ Some stat_row)

-- a current value is true: the board reported it
abbrev pub IsTrueCurrent : World → ℕ → ℕ → Setting → Type 0
IsTrueCurrent w tag row pair = (r : Report20) × Reports w tag (Par r) × (slice_get r.pairs row ≡ Some pair)
