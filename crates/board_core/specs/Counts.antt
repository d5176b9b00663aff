-- The counts of reports: of all, and of each message type, which has a place among them.
use Rattle.std.specs.Prelude.{◌≡◌, ℕ, ◌+◌, ◌%◌, List, length, filter, slice_index, slice_set}
use Rattle.hk_base.specs.declared.types.Kind.{Kind}
use Rattle.hk_base.specs.declared.types.Kind.TheVariants.{Housekeeping, Diagnostic}
use Rattle.st01_reports.specs.declared.verification.Verification.{Verification}
use Rattle.st01_reports.specs.declared.verification.Verification.TheVariants as verify
use Rattle.st03_grammar.specs.declared.bodies.Report03.TheVariants as hk
use Rattle.st04_grammar.specs.declared.bodies.Report04.TheVariants as stat
use Rattle.pus_messages.specs.Protocol.{Protocol}
use Rattle.pus_messages.specs.declared.message.ReportBody.{ReportBody}
use Rattle.pus_messages.specs.declared.message.ReportBody.TheVariants.{Verify, Hk, Stat, Par}
use Rattle.hk_world.specs.declared.moment.Moment.{Moment}
use Rattle.board_steps.specs.Cores.{reports_of, is_of_type}
use Rattle.board_core.specs.declared.counters.Counters.{Counters}

-- one of two places by the kind of a structure
abbrev pub place_by : Kind → ℕ → ℕ → ℕ
place_by Housekeeping a b = a
place_by Diagnostic a b = b

-- the place of a verification report's type
abbrev pub verification_place : Verification → ℕ
verification_place (verify.Accepted id) = 0
verification_place (verify.Refused id cause) = 1
verification_place (verify.Started id) = 2
verification_place (verify.NotStarted id cause) = 3
verification_place (verify.Step id step) = 4
verification_place (verify.StepFailed id step cause) = 5
verification_place (verify.Completed id) = 6
verification_place (verify.Incomplete id code steps) = 7
verification_place (verify.NotRouted id cause) = 8

-- the place of a body's message type
abbrev pub type_place : ReportBody → ℕ
type_place (Verify v) = verification_place v
type_place (Hk (hk.Structure key x)) = place_by key.kind 9 10
type_place (Hk (hk.Values key payload)) = place_by key.kind 11 12
type_place (Hk (hk.Periodic kind rows)) = place_by kind 13 14
type_place (Stat (stat.Statistics r)) = 15
type_place (Stat (stat.Definitions enabled interval params)) = 16
type_place (Par r) = 17

-- the counts are those of the reports among moments
pub record AreCounts (p : Protocol) (moments : List Moment) (c : Counters) : Type 0 where
  pub sequence : c.sequence ≡ length (reports_of p moments) % 16384
  pub types : (body : ReportBody) → slice_index c.of_types (type_place body) ≡ length (filter (is_of_type body) (reports_of p moments)) % 65536
  pub places : length c.of_types ≡ 18

-- the counts with one report more, of the type with this place
abbrev pub counted : ℕ → Counters → Counters
counted place c =
    record { sequence = (c.sequence + 1) % 16384; of_types = slice_set c.of_types place ((slice_index c.of_types place + 1) % 65536) }
