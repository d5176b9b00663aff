-- The block of a parameter report.
use Rattle.std.specs.Prelude.{ℕ, List, ◌++◌}
use Rattle.hk_base.specs.TailoringParts.{TailoringParts}
use Rattle.hk_base.specs.declared.types.Key.{Key}
use Rattle.ground_history.specs.Histories.{History}
use Rattle.definition_intervals.specs.Verdicts.{verdict}
use Rattle.session_texts.specs.Blocks.{report_front, verdict_lines}

-- the block of a parameter report by what is known
abbrev pub parameter_block : TailoringParts → History → Key → ℕ → List ℕ → List ℕ
parameter_block t h key tag payload = report_front key tag ++ verdict_lines t tag payload (verdict t h key tag payload)
