use Rattle.decommutator.proofs.OrderLemmas.{orderly-next}
use Rattle.decommutator.proofs.decommutator.Decommutator.entry.Goals as goal

pub invariant_of-self-2 : goal.invariant_of-self-2
invariant_of-self-2 c =
    let told = c.in_ok-take.ensures in (
      orderly-next c.self.inside.history c.self.inside.counts c.args.entry.now c.self.inside.entries c.take.new.history c.take.new.counts told.history told.counts c.self.invariant.0,
      tt,
    )
