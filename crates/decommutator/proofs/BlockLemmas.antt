-- What is needed to write the block of a parameter report.
use Rattle.std.proofs.Common.{◌≡◌, ℕ, sym, List}
use Rattle.hk_base.specs.Fit.{IsFit}
use Rattle.hk_base.specs.declared.types.Key.{Key}
use Rattle.ground_history.specs.Ground.{Ground, IsGrounded}
use Rattle.definition_intervals.specs.Soundness.{DecisionsAreFormed}
use Rattle.definition_intervals.specs.Verdicts as verdicts
use Rattle.definition_intervals.specs.declared.answer.Verdict.{Verdict}
use Rattle.definition_intervals.specs.declared.answer.Verdict.TheVariants.{Decided, Undecidable, Crowded, NoOpening, Impossible}
use Rattle.block_lines.specs.Decisions.{IsExplained}

-- a verdict by what is known has a block
pub explained : (g : Ground) (key : Key) (tag : ℕ) (payload : List ℕ) (v : Verdict) → DecisionsAreFormed → IsFit g.tailoring → IsGrounded g
    → v ≡ verdicts.verdict g.tailoring g.history key tag payload → IsExplained g.tailoring tag payload v
explained g key tag payload (Decided d) formed fit grounded is = formed g key tag payload d fit grounded (sym is)
explained g key tag payload (Undecidable k) formed fit grounded is = tt
explained g key tag payload (Crowded k) formed fit grounded is = tt
explained g key tag payload NoOpening formed fit grounded is = tt
explained g key tag payload Impossible formed fit grounded is = tt
