-- The block of a parameter report by the verdict on it, and which verdicts have one.
use Rattle.std.specs.Prelude.{◌≡◌, ⊤, ℕ, List, ◌++◌, codes, true}
use Rattle.std.specs.Fmt.{decimal}
use Rattle.hk_base.specs.TailoringParts.{TailoringParts}
use Rattle.hk_base.specs.Definitions.{IsWellFormed}
use Rattle.hk_base.specs.Payload.{payload_read}
use Rattle.hk_base.specs.declared.types.Key.{Key}
use Rattle.hk_base.specs.declared.types.Definition.{Definition}
use Rattle.definition_intervals.specs.Verdicts.{explains}
use Rattle.definition_intervals.specs.declared.answer.Verdict.{Verdict}
use Rattle.definition_intervals.specs.declared.answer.Verdict.TheVariants.{Decided}
use Rattle.session_texts.specs.Blocks.{line_end, report_front, report_places, verdict_lines, value_lines}

-- a decision names a well-formed definition under which the report can have its payload
abbrev pub IsExplained : TailoringParts → ℕ → List ℕ → Verdict → Type 0
IsExplained t tag payload (Decided d) = IsWellFormed t d × (explains t tag payload d ≡ true)
IsExplained t tag payload _ = ⊤

-- the block of a parameter report by the verdict on it
abbrev pub report_lines : TailoringParts → Key → ℕ → List ℕ → Verdict → List ℕ
report_lines t key tag payload verdict = report_front key tag ++ verdict_lines t tag payload verdict

-- a line for each value that a payload is read as under this definition
abbrev pub payload_lines : TailoringParts → ℕ → List ℕ → Definition → List ℕ
payload_lines t tag payload d = value_lines (report_places t d tag) (payload_read t d payload)

-- the rest of the block where the verdict names this definition
abbrev pub decision_lines : TailoringParts → ℕ → List ℕ → Definition → List ℕ
decision_lines t tag payload d = codes " decided interval " ++ (decimal d.interval ++ (line_end ++ payload_lines t tag payload d))
