use Rattle.std.proofs.Common.{◌≡◌, sym, ◌∙◌, subst}
use Rattle.sampler_threads.specs.Deeds.{Took}
use Rattle.sampler_threads.specs.Rings.{TookKnown}
use Rattle.sampler_threads.specs.Slots.{WithEach, Settled}
use Rattle.sampler_threads.proofs.ServeLemmas.{on_ok}
use Rattle.sampler_threads.proofs.SettleLemmas.{bare, met_kept, kept_twice, all_settled, met_twice}
use Rattle.sampler_threads.proofs.executor.Executor.settle.Goals as goal

pub returns-clause-taken : goal.returns-clause-taken
returns-clause-taken c =
    let d = c.drain-drained.ensures.taken in (
      d.0,
      subst (λ k. Took c.args.self.now.core d.0 k) (sym c.meet-2.ensures.core) (subst (λ k. Took k d.0 c.drain-drained.new.self.core) c.meet.ensures.core d.1),
      met_twice bare c.args.self.now.rings.items c.meet.new.self.rings.items c.drain-drained.new.self.rings.items c.meet-2.new.self.rings.items d.0
          c.args.ends.now c.meet.new.ends c.meet-2.new.ends c.requires.count c.meet.ensures.met d.2 c.meet-2.ensures.met,
    )

pub returns-clause-kept : goal.returns-clause-kept
returns-clause-kept c =
    let d = c.drain-drained.ensures.taken in
    kept_twice bare c.args.self.now.rings.items c.drain-drained.new.self.rings.items c.meet-2.new.self.rings.items c.args.ends.now c.meet.new.ends c.meet-2.new.ends
    (met_kept bare c.args.self.now.rings.items c.meet.new.self.rings.items c.drain-drained.new.self.rings.items d.0 c.args.ends.now c.meet.new.ends c.meet.ensures.met d.2)
    c.meet-2.ensures.met

pub returns-clause-settled : goal.returns-clause-settled
returns-clause-settled c =
    let d = c.drain-drained.ensures.taken in
    on_ok c.drain-drained.result (TookKnown c.meet.new.self.rings.items d.0) (WithEach Settled c.meet-2.new.self.rings.items c.meet-2.new.ends)
    (λ known. all_settled bare c.args.self.now.rings.items c.meet.new.self.rings.items c.drain-drained.new.self.rings.items c.meet-2.new.self.rings.items d.0
    c.args.ends.now c.meet.new.ends c.meet-2.new.ends c.requires.count c.meet.ensures.met d.2 known c.meet-2.ensures.met)
    d.4
