use Rattle.std.proofs.Common.{arith, ◌≡◌, ◌∙◌, ◌+◌, ◌-◌, ◌<◌, sym, ap, subst}
use Rattle.std.proofs.lemmas.Bool.{ltb-true}
use Rattle.definition_intervals.specs.Openings.{is_at_most}
use Rattle.live_verdicts.proofs.SplitLemmas.{have-passed}
use Rattle.live_verdicts.proofs.firm.have_passed.Goals as goal

pub returns-then-is_at_most : goal.returns-then-is_at_most
returns-then-is_at_most c =
    λ yes.
    let last : c.args.past ≡ c.args.past - 1 + 1 = omega (arith, c.if-past-eq0.false) in
    have-passed c.bounds_rise.ensures c.args.history.now c.args.past c.args.tag (c.args.past - 1) c.tailoring-tailoring.ensures.grounded c.requires last
    (ap (λ known. is_at_most known c.args.tag) (sym c.high.ensures) ∙ (sym c.is_at_most.ensures ∙ c.if-is_at_most.true))
    (subst (λ n. n < c.args.tag) c.low.ensures (ltb-true c.low.result c.args.tag yes))
