-- The block of lines of a report that was kept.
use Rattle.std.specs.Prelude.{ℕ, ◌-◌, ◌^◌, ℤ, List, [], ◌∷◌, ◌++◌, flat_map, zip, codes, Result, Ok, Err}
use Rattle.std.specs.Fmt.{decimal, signed_decimal}
use Rattle.hk_base.specs.TailoringParts.{TailoringParts}
use Rattle.hk_base.specs.Fit.{slot_of}
use Rattle.hk_base.specs.Payload.{places, payload_read}
use Rattle.hk_base.specs.declared.types.Key.{Key}
use Rattle.hk_base.specs.declared.types.Place.{Place}
use Rattle.hk_base.specs.declared.types.Definition.{Definition}
use Rattle.hk_base.specs.declared.types.PayloadFault.{PayloadFault}
use Rattle.st03_grammar.specs.declared.bodies.Report03.{Report03}
use Rattle.st03_grammar.specs.declared.bodies.Report03.TheVariants as hk
use Rattle.st04_grammar.specs.declared.bodies.StatRow.{StatRow}
use Rattle.st04_grammar.specs.declared.bodies.StatReport.{StatReport}
use Rattle.st04_grammar.specs.declared.bodies.Report04.{Report04}
use Rattle.st04_grammar.specs.declared.bodies.Report04.TheVariants as stat
use Rattle.st20_grammar.specs.declared.bodies.Setting.{Setting}
use Rattle.message_words.specs.Words.{kind_word}
use Rattle.pus_messages.specs.declared.message.ReportBody.{ReportBody}
use Rattle.pus_messages.specs.declared.message.ReportBody.TheVariants.{Verify, Hk, Stat, Par}
use Rattle.ground_history.specs.Histories.{Kept, History, tag_of}
use Rattle.definition_intervals.specs.Verdicts.{verdict}
use Rattle.definition_intervals.specs.declared.answer.Verdict.{Verdict}
use Rattle.definition_intervals.specs.declared.answer.Verdict.TheVariants.{Decided, Undecidable, Crowded, NoOpening, Impossible}

-- the end of a line
abbrev pub line_end : List ℕ
line_end = 10 ∷ []

-- a value with its place
abbrev pub value_line : Place × ℤ → List ℕ
value_line (place, value) =
    codes "value " ++ (decimal place.param ++ (codes " slot " ++ (decimal place.slot ++ (codes " = " ++ (signed_decimal value ++ line_end)))))

-- a line for each place
abbrev pub value_lines : List Place → Result (List ℤ) PayloadFault → List ℕ
value_lines ps (Ok vs) = flat_map value_line (zip ps vs)
value_lines ps (Err fault) = []

-- the front of the first line of a parameter report
abbrev pub report_front : Key → ℕ → List ℕ
report_front key tag = codes "report " ++ (kind_word key.kind ++ (codes " " ++ (decimal key.id ++ (codes " tag " ++ decimal tag))))

-- where a report with this tag has its samples from
abbrev pub report_places : TailoringParts → Definition → ℕ → List Place
report_places t d tag = places d (slot_of t tag - 1)

-- the rest of a parameter report's block, by the verdict on it
abbrev pub verdict_lines : TailoringParts → ℕ → List ℕ → Verdict → List ℕ
verdict_lines t tag payload (Decided d) =
    codes " decided interval " ++ (decimal d.interval ++ (line_end ++ value_lines (report_places t d tag) (payload_read t d payload)))
verdict_lines t tag payload (Undecidable k) = codes " undecidable " ++ (decimal k ++ line_end)
verdict_lines t tag payload (Crowded k) = codes " crowded " ++ (decimal k ++ line_end)
verdict_lines t tag payload NoOpening = codes " no-opening" ++ line_end
verdict_lines t tag payload Impossible = codes " impossible" ++ line_end

-- the statistics of a parameter
abbrev pub stat_line : TailoringParts → StatRow → List ℕ
stat_line t r =
    codes "stat "
    ++ (decimal r.param
    ++ (codes " count "
    ++ (decimal r.count
    ++ (codes " max "
    ++ (signed_decimal r.max
    ++ (codes " at "
    ++ (decimal r.max_time
    ++ (codes " min "
    ++ (signed_decimal r.min
    ++ (codes " at "
    ++ (decimal r.min_time
    ++ (codes " mean " ++ (signed_decimal r.mean ++ (codes " scale " ++ (decimal (256 ^ t.widths.mean_fraction) ++ line_end)))))))))))))))

-- the block of a statistics report
abbrev pub statistics_lines : TailoringParts → ℕ → StatReport → List ℕ
statistics_lines t tag r =
    codes "statistics tag "
    ++ (decimal tag ++ (codes " from " ++ (decimal r.start ++ (codes " to " ++ (decimal r.end ++ (line_end ++ flat_map (stat_line t) r.rows))))))

-- the value of a parameter
abbrev pub current_line : Setting → List ℕ
current_line x = codes "current " ++ (decimal x.param ++ (codes " = " ++ (signed_decimal x.value ++ line_end)))

-- the block of a report of values
abbrev pub current_lines : ℕ → List Setting → List ℕ
current_lines tag pairs = codes "values tag " ++ (decimal tag ++ (line_end ++ flat_map current_line pairs))

-- the block of a housekeeping report
abbrev pub housekeeping_block : TailoringParts → History → ℕ → Report03 → List ℕ
housekeeping_block t h tag (hk.Values key payload) = report_front key tag ++ verdict_lines t tag payload (verdict t h key tag payload)
housekeeping_block t h tag _ = []

-- the block of a report on statistics
abbrev pub statistics_block : TailoringParts → ℕ → Report04 → List ℕ
statistics_block t tag (stat.Statistics r) = statistics_lines t tag r
statistics_block t tag (stat.Definitions enabled n ids) = []

-- the block of a report with a tag, by what is known
abbrev pub body_block : TailoringParts → History → ℕ → ReportBody → List ℕ
body_block t h tag (Verify v) = []
body_block t h tag (Hk r) = housekeeping_block t h tag r
body_block t h tag (Stat r) = statistics_block t tag r
body_block t h tag (Par r) = current_lines tag r.pairs

-- the block of a packet that was kept
abbrev pub block : TailoringParts → History → Kept → List ℕ
block t h k = body_block t h (tag_of k) k.report.body
