-- What openings leave gives the verdict from them.
use Rattle.std.proofs.Common.{arith, ◌≤◌, sym, ◌∙◌, ap, List, [], ◌∷◌, length}
use Rattle.std.specs.Prelude.{filter_map}
use Rattle.hk_base.specs.TailoringParts.{TailoringParts}
use Rattle.definition_intervals.specs.Openings.{Opening}
use Rattle.definition_intervals.specs.Verdicts.{explanation, verdict_by, verdict_of}
use Rattle.definition_intervals.specs.Findings.{uncrowded_openings}
use Rattle.definition_intervals.specs.Bases.{BasesDecide}
use Rattle.definition_intervals.specs.declared.answer.Basis.TheVariants.{NoOpening, Crowded, Open}
use Rattle.definition_intervals.specs.declared.answer.Verdict.TheVariants as v
use Rattle.definition_intervals.proofs.AgreementLemmas.{verdict-common, verdict-crowded}

-- openings of which some aren't crowded are some
some_openings : (t : TailoringParts) (os : List Opening) → 1 ≤ length (uncrowded_openings t os) → 1 ≤ length os
some_openings t [] h = h
some_openings t (o ∷ os) h = omega arith

pub bases_decide : BasesDecide
bases_decide t os NoOpening tag payload is = sym (ap (λ l. verdict_of t tag payload l) is)
bases_decide t os (Crowded k) tag payload is = ap (λ n. v.Crowded n) (sym is.2) ∙ verdict-crowded t tag payload os is.0 is.1
bases_decide t os (Open states k) tag payload is =
    ap (λ n. verdict_by (filter_map (explanation t tag payload) states) n) (sym is.1)
    ∙ verdict-common t tag payload os states (some_openings t os is.0.0) is.0
