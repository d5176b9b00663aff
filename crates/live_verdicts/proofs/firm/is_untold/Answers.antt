use Rattle.std.proofs.Common.{◌<◌, subst, inl}
use Rattle.std.proofs.lemmas.Bool.{ltb-true}
use Rattle.live_verdicts.proofs.MarkLemmas.{untold-same}
use Rattle.live_verdicts.proofs.firm.is_untold.Goals as goal

pub returns-else-from-tag : goal.returns-else-from-tag
returns-else-from-tag c =
    λ yes le.
    untold-same c.args.history.now c.args.key c.args.from c.args.tag c.tailoring-tailoring.ensures.grounded le
    (inl (subst (λ n. n < c.args.from) c.newest_told.ensures (ltb-true c.newest_told.result c.args.from yes)))
