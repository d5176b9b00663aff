use Rattle.std.proofs.Common.{arith, ◌≡◌, ◌+◌, ◌-◌, ◌<◌, subst}
use Rattle.std.proofs.lemmas.Bool.{ltb-true}
use Rattle.live_verdicts.proofs.SplitLemmas.{have-begun}
use Rattle.live_verdicts.proofs.firm.have_begun.Goals as goal

pub returns-else-end-eq0 : goal.returns-else-end-eq0
returns-else-end-eq0 c =
    λ yes.
    let last : c.args.end ≡ c.args.end - 1 + 1 = omega (arith, c.if-end-eq0.false) in
    have-begun c.bounds_rise.ensures c.args.history.now c.args.end c.args.tag (c.args.end - 1) c.tailoring-tailoring.ensures.grounded c.requires last
    (subst (λ n. n < c.args.tag) c.low.ensures (ltb-true c.low.result c.args.tag yes))
