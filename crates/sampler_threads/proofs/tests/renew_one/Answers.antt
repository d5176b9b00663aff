use Rattle.std.proofs.Common.{◌∙◌, List, sym, ap, subst}
use Rattle.hk_base.specs.Fit.{IsFit}
use Rattle.board_steps.specs.Cores.{Core}
use Rattle.sampler_threads.specs.Executors.{core_of, count_of}
use Rattle.sampler_threads.specs.Slots.{AreKnown}
use Rattle.sampler_threads.specs.declared.item.Order.{Order}
use Rattle.sampler_threads.proofs.OrderLaws.{known_law}
use Rattle.sampler_threads.proofs.tests.renew_one.Goals as goal

pub returns-clause-known : goal.returns-clause-known
returns-clause-known c =
    let core = core_of c.args.executor.now in
    let fit : IsFit core.tailoring =
    subst IsFit (c.tailoring.ensures ∙ ap (λ (k : Core). k.tailoring) c.core.ensures) c.widths-fit.ensures.fit in
    subst (λ (orders : List Order). AreKnown core.tailoring orders) (sym c.in_ok-orders.ensures)
    (known_law core.tailoring (count_of c.args.executor.now) c.unwrap_or.result core.slot_now fit)
