-- The journal as it is written: moments are drafted and then added together.
use Rattle.std.specs.Prelude.{◌≡◌, ℕ, ◌+◌, ◌≤◌, List, [], ◌∷◌, ◌++◌, length, reverse, Bool, true, false, ◌&&◌, nat_lt, Option, Some, None, Result, Ok, Err}
use Rattle.hk_base.specs.Fit.{greatest_tag}
use Rattle.hk_base.specs.TailoringParts.{TailoringParts}
use Rattle.body_fields.specs.Spelling.{AreOctets}
use Rattle.pus_messages.specs.Messages.{protocol}
use Rattle.pus_messages.specs.Protocol.{Protocol, readable}
use Rattle.pus_messages.specs.Spelling.{IsReportBody, HasRoom, report_body_octets}
use Rattle.pus_messages.specs.declared.message.ReportBody.{ReportBody}
use Rattle.hk_world.specs.declared.moment.Moment.{Moment}
use Rattle.hk_world.specs.declared.moment.Act.{Act}
use Rattle.board_steps.specs.Cores.{last_tag, next_tag, header_of}
use Rattle.board_core.specs.Counts.{AreCounts}
use Rattle.board_core.specs.declared.counters.Counters.{Counters}
use Rattle.board_steps.specs.declared.event.BoardFault.{BoardFault}
use Rattle.board_steps.specs.declared.event.BoardFault.TheVariants.{JournalFull, TimeExhausted, Memory}
use Rattle.board_core.specs.declared.log.Draft.{Draft}

-- what a log holds: the tailoring, and the moments, the newest first
pub record LogParts : Type 0 where
  pub tailoring : TailoringParts
  pub moments : List Moment

-- a log with other moments
abbrev pub with_moments : LogParts → List Moment → LogParts
with_moments l moments = record { tailoring = l.tailoring; moments = moments }

-- what is kept beside the moments is what they say
pub record IsKept (t : TailoringParts) (moments : List Moment) (last : ℕ) (c : Counters) : Type 0 where
  pub last_is : last ≡ last_tag moments
  pub fit : last ≤ greatest_tag t
  pub counts : AreCounts (protocol t) moments c

-- the moments of a log with those of a draft
abbrev pub drafted : LogParts → List Moment → List Moment
drafted l new = reverse new ++ l.moments

-- a draft goes on from a log
abbrev pub IsDraft : LogParts → Draft → Type 0
IsDraft l d = IsKept l.tailoring (drafted l d.moments.items) d.last_tag d.counters

-- a body that a packet can carry
pub record IsWritable (t : TailoringParts) (body : ReportBody) : Type 0 where
  pub grammar : IsReportBody t body
  pub room : HasRoom body
  pub short : length (report_body_octets t body) ≤ 65000

-- a packet is the next report with this body, or there is none
abbrev pub IsPacket : Protocol → List Moment → ℕ → Option ReportBody → List ℕ → Type 0
IsPacket p earlier tag None packet = packet ≡ []
IsPacket p earlier tag (Some body) packet = p.reception packet ≡ readable (record { header = header_of p earlier tag body; body = body })

-- a moment is the next one, with this act and with this report; its packet is of octets
pub record IsAdded (t : TailoringParts) (clock : ℕ) (earlier : List Moment) (act : Act) (body : Option ReportBody) (m : Moment) : Type 0 where
  pub tag : m.tag ≡ next_tag clock earlier
  pub act_is : m.act ≡ act
  pub packet : IsPacket (protocol t) earlier m.tag body m.packet
  pub octets : AreOctets m.packet

-- a draft with one moment more
pub record IsDrafted (l : LogParts) (clock : ℕ) (act : Act) (body : Option ReportBody) (old new : Draft) : Type 0 where
  pub moment : Moment
  pub added : IsAdded l.tailoring clock (drafted l old.moments.items) act body moment
  pub moments : new.moments.items ≡ old.moments.items ++ moment ∷ []
  pub draft : IsDraft l new
  pub clock_is : new.clock ≡ old.clock

-- whether the journal would have more moments than it holds
abbrev pub is_full : LogParts → ℕ → Bool
is_full l count = nat_lt 1048576 (length l.moments + count)

-- whether the last of so many moments would have a tag above the greatest
abbrev pub is_late : LogParts → ℕ → ℕ → Bool
is_late l clock count = nat_lt 0 count && nat_lt (greatest_tag l.tailoring + 1) (next_tag clock l.moments + count)

-- what is answered where a draft of so many moments is asked for
abbrev pub AnswersDraft : LogParts → ℕ → ℕ → Result Draft BoardFault → Type 0
AnswersDraft l clock count (Ok d) =
    (is_full l count ≡ false) × (is_late l clock count ≡ false) × IsDraft l d × (d.moments.items ≡ []) × (d.clock ≡ clock)
AnswersDraft l clock count (Err JournalFull) = is_full l count ≡ true
AnswersDraft l clock count (Err TimeExhausted) = (is_full l count ≡ false) × (is_late l clock count ≡ true)
AnswersDraft l clock count (Err Memory) = ⊥

-- what is answered where one moment is to be added
abbrev pub AnswersOne : LogParts → ℕ → Act → Option ReportBody → LogParts → Result ℕ BoardFault → Type 0
AnswersOne old clock act body new (Ok count) =
    (is_full old 1 ≡ false) × (is_late old clock 1 ≡ false) × (count ≡ 1)
    × ((m : Moment) × IsAdded old.tailoring clock old.moments act body m × (new ≡ with_moments old (m ∷ old.moments)))
AnswersOne old clock act body new (Err JournalFull) = (is_full old 1 ≡ true) × (new ≡ old)
AnswersOne old clock act body new (Err TimeExhausted) = (is_full old 1 ≡ false) × (is_late old clock 1 ≡ true) × (new ≡ old)
AnswersOne old clock act body new (Err Memory) = new ≡ old
