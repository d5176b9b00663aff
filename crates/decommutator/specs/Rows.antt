-- The values of decided reports, each with its place.
use Rattle.std.specs.Prelude.{ℕ, ℤ, List, [], filter, length, map, zip, Bool, true, false, Option, Some, None, Result, Ok, Err, slice_get}
use Rattle.hk_base.specs.TailoringParts.{TailoringParts}
use Rattle.hk_base.specs.Payload.{payload_read}
use Rattle.hk_base.specs.declared.types.Place.{Place}
use Rattle.hk_base.specs.declared.types.PayloadFault.{PayloadFault}
use Rattle.st03_grammar.specs.declared.bodies.Report03.TheVariants as hk
use Rattle.pus_messages.specs.declared.message.ReportBody.{ReportBody}
use Rattle.pus_messages.specs.declared.message.ReportBody.TheVariants.{Hk}
use Rattle.ground_history.specs.Histories.{Kept, History, tag_of}
use Rattle.ground_history.specs.Ground.{Ground}
use Rattle.definition_intervals.specs.Verdicts.{verdict}
use Rattle.definition_intervals.specs.declared.answer.Verdict.{Verdict}
use Rattle.definition_intervals.specs.declared.answer.Verdict.TheVariants.{Decided}
use Rattle.session_texts.specs.Blocks.{report_places}
use Rattle.decommutator.specs.declared.row.ValueRow.{ValueRow}

-- a value with its place
abbrev pub row_of : Place × ℤ → ValueRow
row_of (place, value) = record { param = place.param; slot = place.slot; value = value }

-- a row for each place
abbrev pub rows_by : List Place → Result (List ℤ) PayloadFault → List ValueRow
rows_by ps (Ok vs) = map row_of (zip ps vs)
rows_by ps (Err fault) = []

-- the rows of a report, by the verdict on it: none where it isn't decided
abbrev pub verdict_rows : TailoringParts → ℕ → List ℕ → Verdict → List ValueRow
verdict_rows t tag payload (Decided d) = rows_by (report_places t d tag) (payload_read t d payload)
verdict_rows t tag payload _ = []

-- whether a body is that of a parameter report
abbrev pub is_parameter_body : ReportBody → Bool
is_parameter_body (Hk (hk.Values key payload)) = true
is_parameter_body _ = false

-- whether a kept packet is a parameter report
abbrev pub is_parameter_report : Kept → Bool
is_parameter_report k = is_parameter_body k.report.body

-- the rows of a report with a tag and a body
abbrev pub body_rows : TailoringParts → History → ℕ → ReportBody → List ValueRow
body_rows t h tag (Hk (hk.Values key payload)) = verdict_rows t tag payload (verdict t h key tag payload)
body_rows t h tag _ = []

-- the kept parameter reports, in the order of tags
abbrev pub parameter_reports : Ground → List Kept
parameter_reports g = filter is_parameter_report g.history.kept

-- how many parameter reports were kept
abbrev pub report_count : Ground → ℕ
report_count g = length (parameter_reports g)

-- the rows of a kept packet, if there is one
abbrev pub kept_rows : TailoringParts → History → Option Kept → List ValueRow
kept_rows t h None = []
kept_rows t h (Some k) = body_rows t h (tag_of k) k.report.body

-- the rows of a parameter report, by its number from 0 in the order of tags
abbrev pub report_rows : Ground → ℕ → List ValueRow
report_rows g number = kept_rows g.tailoring g.history (slice_get (parameter_reports g) number)
