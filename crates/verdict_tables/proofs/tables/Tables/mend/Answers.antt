use Rattle.std.proofs.Common.{◌∙◌, Bool, Some, sym, subst}
use Rattle.hk_base.specs.TailoringParts.{TailoringParts}
use Rattle.verdict_tables.specs.Tables.{StandsFor}
use Rattle.verdict_tables.proofs.TableLemmas.{built-stands}
use Rattle.verdict_tables.proofs.tables.Tables.mend.Goals as goal

pub returns-clause-stands : goal.returns-clause-stands
returns-clause-stands c =
    let g = c.args.history.now in
    let structures = c.in_ok-structures.structures in
    let known = c.known-self-inside.result in
    subst (λ (t : TailoringParts). StandsFor (record { tailoring = Some t; known = known; structures = structures }) g) (sym (c.in_ok-tailoring.ensures ∙ c.tailoring.ensures.tailoring))
    (subst (λ (k : Bool). StandsFor (record { tailoring = Some g.tailoring; known = k; structures = structures }) g) (sym c.known-self-inside.ensures)
    (built-stands g structures c.bases_decide.ensures c.in_ok-structures.ensures))
