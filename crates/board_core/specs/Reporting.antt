-- What the code holds of the statistics where they are changed and reported.
use Rattle.std.specs.Prelude.{◌≡◌, ℕ, ◌≤◌, List, [], ◌∷◌, length, filter_map, option_map, Bool, ◌==◌, nat_lt, Option, Some, None, if◌then◌else◌}
use Rattle.std.specs.List.{list_any}
use Rattle.statistics.specs.Summaries.{Sample, sample, AreTotals}
use Rattle.st04_grammar.specs.Instructions.{StatisticsChange, add, delete}
use Rattle.st04_grammar.specs.declared.bodies.StatReport.{StatReport}
use Rattle.st04_grammar.specs.declared.bodies.Report04.TheVariants as told
use Rattle.st20_grammar.specs.declared.bodies.Setting.{Setting}
use Rattle.hk_base.specs.TailoringParts.{TailoringParts}
use Rattle.pus_messages.specs.declared.message.ReportBody.{ReportBody}
use Rattle.pus_messages.specs.declared.message.ReportBody.TheVariants.{Stat}
use Rattle.report_structures.specs.declared.refusal.Refusal.{Refusal}
use Rattle.report_structures.specs.declared.refusal.Refusal.TheVariants.{Absent, TooMany}
use Rattle.board_state.specs.Values.{value_at}
use Rattle.board_state.specs.declared.channels.Channel.{Channel}
use Rattle.board_state.specs.Statistics.{StatisticsHeld, IsReportOf, Files, params_of}
use Rattle.board_state.specs.declared.members.Member.{Member}

-- whether a parameter is a member
abbrev pub is_held : ℕ → List Member → Bool
is_held id members = list_any (λ m. m.param == id) members

-- why a change of the statistics is refused, if it is
abbrev pub refusal_held : List Member → StatisticsChange → Option Refusal
refusal_held members (add id) = if is_held id members then None else if nat_lt (length members) 255 then None else Some (TooMany 256)
refusal_held members (delete id) = if is_held id members then None else Some Absent
refusal_held members _ = None

-- samples of a slot, one after the other
abbrev pub FilesAll : ℕ → List Setting → StatisticsHeld → StatisticsHeld → Type 0
FilesAll slot [] old new = new ≡ old
FilesAll slot (x ∷ xs) old new = (mid : StatisticsHeld) × Files x.param (sample slot x.value) old mid × FilesAll slot xs mid new

-- a member has so many samples at most
pub record HasAtMost (n : ℕ) (m : Member) : Type 0 where
  pub samples : List Sample
  pub totals : AreTotals samples m.stat
  pub few : length samples ≤ n

-- a body is the report of the statistics at a tag
abbrev pub IsStatisticsBody : TailoringParts → StatisticsHeld → ℕ → ReportBody → Type 0
IsStatisticsBody t x tag body = (r : StatReport) × (body ≡ Stat (told.Statistics r)) × IsReportOf t x tag r

-- a body is the report of what the statistics are taken of
abbrev pub IsDefinitionsBody : StatisticsHeld → ReportBody → Type 0
IsDefinitionsBody x body = body ≡ Stat (told.Definitions x.enabled x.interval (params_of x.members))

-- a parameter with the value that is held of it, if it has one
abbrev pub pair_held : List (ℕ × Channel) → ℕ → Option Setting
pair_held channels id = option_map (λ v. record { param = id; value = v }) (value_at channels id)

-- parameters with the values that are held of them
abbrev pub pairs_held : List (ℕ × Channel) → List ℕ → List Setting
pairs_held channels ids = filter_map (pair_held channels) ids
