use Rattle.std.proofs.Common.{◌∙◌, sym}
use Rattle.hk_tailoring.specs.Ids.{has_id}
use Rattle.hk_tailoring.proofs.IdLemmas.{id-unknown, id-doubled, id-met, untrue, unfalse}
use Rattle.hk_tailoring.proofs.definitions.check_id.Goals as goal

pub returns-then-not-has-clause-checked : goal.returns-then-not-has-clause-checked
returns-then-not-has-clause-checked c =
    λ params ids are same _. id-unknown params ids c.args.known.now c.args.id are (sym c.has.ensures ∙ c.if-not-has.true)

pub returns-then-not-new-clause-checked : goal.returns-then-not-new-clause-checked
returns-then-not-new-clause-checked c =
    λ params ids are same _.
    id-doubled params ids c.args.known.now c.args.earlier.now c.args.id are (sym c.has.ensures ∙ c.if-not-has.false) same
    (untrue (has_id c.args.earlier.now c.args.id) c.in_ok-new.new c.in_ok-new.ensures.new c.if-not-new.true)

pub returns-clause-checked : goal.returns-clause-checked
returns-clause-checked c =
    λ params ids are same.
    id-met params ids c.args.known.now c.args.earlier.now c.args.id are (sym c.has.ensures ∙ c.if-not-has.false) same
    (unfalse (has_id c.args.earlier.now c.args.id) c.in_ok-new.new c.in_ok-new.ensures.new c.if-not-new.false)
