-- What a board holds of its statistics: what the moments say.
use Rattle.std.specs.Prelude.{◌≡◌, ℕ, ◌*◌, ◌^◌, ◌<◌, ◌++◌, ◌∷◌, List, [], map, filter, Bool, true, false, not, ◌==◌, nat_lt, Option, Some, None, MatchBool}
use Rattle.std.specs.List.{AllByRecursion, AllZip, list_any}
use Rattle.hk_base.specs.TailoringParts.{TailoringParts}
use Rattle.body_fields.specs.Spelling.{IsInterval}
use Rattle.statistics.specs.Summaries.{Sample, Totals, AreTotals, IsSummary}
use Rattle.st04_grammar.specs.Instructions.{StatisticsChange, report, reset, enable, disable, add, delete, delete_all, show_definitions}
use Rattle.st04_grammar.specs.Spelling.{AreNumericIds}
use Rattle.st04_grammar.specs.declared.bodies.StatRow.{StatRow}
use Rattle.st04_grammar.specs.declared.bodies.StatReport.{StatReport}
use Rattle.hk_world.specs.States as states
use Rattle.hk_world.specs.States.{BoardState}
use Rattle.hk_world.specs.Timelines.{Session, Done, tailoring, done_instructions, is_resetting_report, newest_did, state_after}
use Rattle.hk_world.specs.Honest.{samples_of}
use Rattle.hk_world.specs.declared.moment.Moment.{Moment}
use Rattle.board_steps.specs.Slots.{begins_statistics, slot_after}
use Rattle.board_state.specs.declared.members.Member.{Member}

-- the parameters whose statistics are kept, and how they are reported
pub record StatisticsHeld : Type 0 where
  pub members : List Member
  pub enabled : Bool
  pub interval : ℕ
  pub first_slot : ℕ
  pub start : ℕ

-- the IDs of members
abbrev pub params_of : List Member → List ℕ
params_of members = map (λ m. m.param) members

-- a member that is held: its totals are those of the samples that a report would count now
abbrev pub IsMember : BoardState → List Moment → states.Member → Member → Type 0
IsMember state moments member m = (m.param ≡ member.param) × AreTotals (samples_of state moments member) m.stat

-- the statistics that are held after some moments, by the state and the done instructions that they leave; their parameters and their interval can stand in a report
pub record AreStatisticsOf (t : TailoringParts) (state : BoardState) (done : List Done) (moments : List Moment) (x : StatisticsHeld) : Type 0 where
  pub members : AllZip (IsMember state moments) state.statistics.members x.members
  pub enabled : x.enabled ≡ state.statistics.enabled
  pub interval : x.interval ≡ state.statistics.interval
  pub start : x.start ≡ state.start
  pub first_slot : x.first_slot ≡ slot_after t begins_statistics done
  pub ids : AreNumericIds t 0 (params_of x.members)
  pub span : IsInterval t x.interval

-- the statistics that are held are those that the moments leave
abbrev pub AreStatistics : Session → List Moment → StatisticsHeld → Type 0
AreStatistics s moments x = AreStatisticsOf (tailoring s) (state_after s moments) (done_instructions s moments) moments x

-- no report that resets is still to come: where it was ordered, it came directly after
abbrev pub IsSettled : Session → List Moment → Type 0
IsSettled s moments = newest_did is_resetting_report s moments ≡ false

-- a member without samples
pub record IsEmpty (id : ℕ) (m : Member) : Type 0 where
  pub param : m.param ≡ id
  pub totals : AreTotals [] m.stat

-- a member with this ID has no samples from now on, and another one is as it was
abbrev pub RestartsAt : ℕ → Member → Member → Type 0
RestartsAt id old new = MatchBool (old.param == id) (IsEmpty id new) (new ≡ old)

-- totals with one sample more
abbrev pub Counts : Sample → Totals → Totals → Type 0
Counts x old new = (samples : List Sample) → AreTotals samples old → AreTotals (samples ++ x ∷ []) new

-- a member with this ID has one sample more, and another one is as it was
abbrev pub CountsAt : ℕ → Sample → Member → Member → Type 0
CountsAt id x old new = MatchBool (old.param == id) ((new.param ≡ id) × Counts x old.stat new.stat) (new ≡ old)

-- whether a member has samples
abbrev pub is_sampled : Member → Bool
is_sampled m = nat_lt 0 m.stat.count

-- the times of a member's samples can be told
pub record IsTimely (t : TailoringParts) (m : Member) : Type 0 where
  pub samples : List Sample
  pub totals : AreTotals samples m.stat
  pub times : AllByRecursion (λ x. x.slot * t.widths.slot < 2 ^ 63) samples

-- the row of a member that has samples; a time is slot times the ticks of a slot
pub record IsRowOf (t : TailoringParts) (m : Member) (row : StatRow) : Type 0 where
  pub param : row.param ≡ m.param
  pub max_slot : ℕ
  pub min_slot : ℕ
  pub max_time : row.max_time ≡ max_slot * t.widths.slot
  pub min_time : row.min_time ≡ min_slot * t.widths.slot
  pub summary : (samples : List Sample) → AreTotals samples m.stat
      → IsSummary t.widths.mean_fraction samples (record { count = row.count; max = row.max; max_slot = max_slot; min = row.min; min_slot = min_slot; mean = row.mean })

-- the row of a member, which has one where it has samples
abbrev pub IsRowIfAny : TailoringParts → Member → Option StatRow → Type 0
IsRowIfAny t m None = m.stat.count ≡ 0
IsRowIfAny t m (Some row) = (0 < m.stat.count) × IsRowOf t m row

-- rows of the members that have samples, in order
abbrev pub AreRowsOf : TailoringParts → List Member → List StatRow → Type 0
AreRowsOf t members rows = AllZip (IsRowOf t) (filter is_sampled members) rows

-- the report of the statistics at a tag
pub record IsReportOf (t : TailoringParts) (x : StatisticsHeld) (tag : ℕ) (r : StatReport) : Type 0 where
  pub start : r.start ≡ x.start
  pub end : r.end ≡ tag
  pub rows : AreRowsOf t x.members r.rows

-- the members are others
abbrev pub with_members : StatisticsHeld → List Member → StatisticsHeld
with_members x members = record x { members = members }

-- one more sample of a parameter
abbrev pub Files : ℕ → Sample → StatisticsHeld → StatisticsHeld → Type 0
Files id x old new = AllZip (CountsAt id x) old.members new.members × (new ≡ with_members old new.members)

-- a parameter stands last, or stays where it is, and has no samples
pub record Adds (id : ℕ) (old new : StatisticsHeld) : Type 0 where
  pub there : list_any (λ m. m.param == id) old.members ≡ true → AllZip (RestartsAt id) old.members new.members
  pub absent : list_any (λ m. m.param == id) old.members ≡ false → (m : Member) × IsEmpty id m × (new.members ≡ old.members ++ m ∷ [])
  pub rest : new ≡ with_members old new.members

-- all samples are forgotten, and the statistics start from this tag
abbrev pub Resets : ℕ → StatisticsHeld → StatisticsHeld → Type 0
Resets tag old new = AllZip (λ x y. IsEmpty x.param y) old.members new.members × (new ≡ record old { members = new.members; start = tag })

-- what a change leaves: the last of its moments has this tag, and this is the slot after that of the first
abbrev pub Changes : StatisticsChange → ℕ → ℕ → StatisticsHeld → StatisticsHeld → Type 0
Changes (report true) tag slot old new = Resets tag old new
Changes (report false) tag slot old new = new ≡ old
Changes reset tag slot old new = Resets tag old new
Changes (enable n) tag slot old new = new ≡ record old { enabled = true; interval = n; first_slot = slot }
Changes disable tag slot old new = new ≡ record old { enabled = false }
Changes (add id) tag slot old new = Adds id old new
Changes (delete id) tag slot old new = new ≡ with_members old (filter (λ m. not (m.param == id)) old.members)
Changes delete_all tag slot old new = new ≡ with_members old []
Changes show_definitions tag slot old new = new ≡ old
