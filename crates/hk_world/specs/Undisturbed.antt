-- Worlds in which nothing is commanded: the board files samples and reports parameters, and the ground listens.
use Rattle.std.specs.Prelude.{◌≡◌, ℕ, ◌<◌, ◌≤◌, ⊤, List, ◌++◌, slice_get, Some, IsTrue, IsFalse}
use Rattle.std.specs.List.{AllByRecursion}
use Rattle.hk_base.specs.declared.types.Key.{Key}
use Rattle.hk_base.specs.declared.types.Kind.TheVariants.{Housekeeping}
use Rattle.st03_grammar.specs.Instructions.{key_of}
use Rattle.st03_grammar.specs.declared.bodies.Report03.TheVariants as hk
use Rattle.pus_messages.specs.declared.message.ReportBody.TheVariants.{Hk}
use Rattle.hk_world.specs.Timelines.{EachAfter, Session}
use Rattle.hk_world.specs.Honest.{IsReport, IsParameterReport}
use Rattle.hk_world.specs.Worlds.{Step, send, happen, deliver, stray, World, deliveries_of}
use Rattle.hk_world.specs.declared.moment.Moment.{Moment}
use Rattle.hk_world.specs.declared.moment.Act.{Act}
use Rattle.hk_world.specs.declared.moment.Act.TheVariants.{Emitted, Filed}

-- the key of a housekeeping structure
abbrev pub housekeeping : ℕ → Key
housekeeping id = key_of Housekeeping id

-- the packet of a moment is a housekeeping parameter report, message type [3,25]: the ID of a structure, and a payload
abbrev pub IsHousekeepingReport : Session → Moment → ℕ → List ℕ → Type 0
IsHousekeepingReport s m id payload = IsReport s m (Hk (hk.Values (housekeeping id) payload))

-- a moment files a sample or sends a housekeeping parameter report
abbrev pub IsUnasked : Session → Moment → Act → Type 0
IsUnasked s m Emitted = (id : ℕ) × (payload : List ℕ) × IsHousekeepingReport s m id payload
IsUnasked s m (Filed param slot value) = ⊤
IsUnasked s m _ = ⊥

-- a step in which nothing is sent, no request is worked on, and no packet comes that isn't the board's
abbrev pub IsUndisturbedStep : Session → Step → Type 0
IsUndisturbedStep s (send k) = ⊥
IsUndisturbedStep s (happen m) = IsUnasked s m m.act
IsUndisturbedStep s (deliver m) = ⊤
IsUndisturbedStep s (stray packet) = ⊥

-- each moment has a tag above those before it, the newest first
abbrev pub AreInOrder : List Moment → Type 0
AreInOrder moments = EachAfter (λ earlier m. AllByRecursion (λ e. e.tag < m.tag) earlier) moments

-- A world whose start is known, and in which nothing is sent and no packet comes that isn't the board's. Some packets may be lost; the others come once, and in the order of their tags.
pub record IsUndisturbed (w : World) : Type 0 where
  pub known : IsTrue w.session.known
  pub short : IsFalse w.session.long
  pub steps : AllByRecursion (IsUndisturbedStep w.session) w.steps
  pub order : AreInOrder (deliveries_of w.steps)

-- a moment sends a housekeeping parameter report that tells its samples
abbrev pub SendsReport : Session → List Moment → Moment → Type 0
SendsReport s earlier m = (id : ℕ) × (payload : List ℕ) × IsHousekeepingReport s m id payload × IsParameterReport s earlier m.tag (housekeeping id) payload

-- A report that was delivered: the board made it from moments before it, which are among those of the timeline.
pub record IsDeliveredReport (s : Session) (moments : List Moment) (m : Moment) : Type 0 where
  pub number : ℕ
  pub made : slice_get moments number ≡ Some m
  pub low : 1 ≤ m.tag
  pub later : List Moment
  pub earlier : List Moment
  pub before : moments ≡ later ++ earlier
  pub report : SendsReport s earlier m

-- what was delivered are reports of the board, in the order of their tags
pub record AreDeliveredReports (s : Session) (moments delivered : List Moment) : Type 0 where
  pub each : AllByRecursion (IsDeliveredReport s moments) delivered
  pub order : AreInOrder delivered
