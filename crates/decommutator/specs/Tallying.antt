-- Verdicts that are counted one by one.
use Rattle.std.specs.Prelude.{⊤, ℕ, List, filter_map, Option}
use Rattle.hk_base.specs.TailoringParts.{TailoringParts}
use Rattle.hk_base.specs.Definitions.{IsWellFormed}
use Rattle.ground_history.specs.Histories.{Kept, History, tag_of}
use Rattle.definition_intervals.specs.declared.answer.Verdict.{Verdict}
use Rattle.definition_intervals.specs.declared.answer.Verdict.TheVariants.{Decided}
use Rattle.session_texts.specs.Tallies.{body_verdict}

-- a definition that a verdict names is well-formed
abbrev pub IsFormedVerdict : TailoringParts → Verdict → Type 0
IsFormedVerdict t (Decided d) = IsWellFormed t d
IsFormedVerdict t _ = ⊤

-- the verdict on a report with its tag
abbrev pub with_tag : ℕ → Verdict → ℕ × Verdict
with_tag tag verdict = (tag, verdict)

-- the verdict on a kept packet with its tag, if it is a parameter report
abbrev pub verdict_on : TailoringParts → History → Kept → Option (ℕ × Verdict)
verdict_on t h k = body_verdict t h (tag_of k) k.report.body

-- the verdicts on those of some kept packets that are parameter reports, each with its tag
abbrev pub verdicts_on : TailoringParts → History → List Kept → List (ℕ × Verdict)
verdicts_on t h ks = filter_map (verdict_on t h) ks
