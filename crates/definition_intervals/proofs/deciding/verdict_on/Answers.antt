use Rattle.std.proofs.Common.{◌≡◌, ◌∙◌, List, Option, IfOk, sym, ap, subst}
use Rattle.std.specs.Prelude.{filter_map}
use Rattle.hk_base.specs.declared.types.Structure.{Structure}
use Rattle.definition_intervals.specs.Verdicts.{explanation, verdict_by}
use Rattle.definition_intervals.specs.Bases.{verdict_on}
use Rattle.definition_intervals.specs.declared.answer.Basis.{Basis}
use Rattle.definition_intervals.specs.declared.answer.Verdict.{Verdict}
use Rattle.definition_intervals.proofs.BasisLemmas.{bases_decide}
use Rattle.definition_intervals.proofs.deciding.verdict_on.Goals as goal

pub returns-in-Open-clause-of_openings : goal.returns-in-Open-clause-of_openings
returns-in-Open-clause-of_openings c =
    let t = c.args.tailoring.now in
    let tag = c.args.tag in
    let payload = c.args.payload.now in
    let slice = ap (λ (ss : List (Option Structure)). verdict_by (filter_map (explanation t tag payload) ss) c.in-Open.number) c.as_slice-states.ensures in
    λ os is. subst (λ (v : Verdict). IfOk c.verdict_among.result (λ verdict. verdict ≡ v))
    (slice ∙ (sym (ap (λ (b : Basis). verdict_on t tag payload b) c.in-Open.is) ∙ bases_decide t os c.args.basis.now tag payload is))
    c.verdict_among.ensures
