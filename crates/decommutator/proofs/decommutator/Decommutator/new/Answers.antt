use Rattle.std.proofs.Common.{rules, sym, subst}
use Rattle.ground_history.specs.Ground.{Ground}
use Rattle.live_verdicts.specs.Marks.{StandsFor}
use Rattle.decommutator.specs.Follows.{AreWaiting}
use Rattle.decommutator.proofs.decommutator.Decommutator.new.Goals as goal

pub invariant_of-result : goal.invariant_of-result
invariant_of-result c =
    let stands : StandsFor c.new-2.result c.new.result =
    subst (λ (g : Ground). StandsFor c.new-2.result g) (sym c.new.ensures) (c.new-2.ensures c.args.tailoring c.args.known c.args.long) in
    let waiting : AreWaiting c.new-3.result.items c.new.result = search rules in
    (search rules, (stands, waiting))
