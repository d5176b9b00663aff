use Rattle.std.proofs.Common.{arith, sym, subst, length}
use Rattle.ground_history.specs.Ground.{IsCounted, AreCounted}
use Rattle.ground_history.proofs.RequestLemmas.{counted-more}
use Rattle.ground_history.proofs.requests.Requests.push.Goals as goal

pub invariant_of-self-2 : goal.invariant_of-self-2
invariant_of-self-2 c =
    let here = subst (λ xs. IsCounted (length xs) c.args.request) (sym c.self.view_is) c.requires in
    subst (AreCounted 0) (sym c.in_ok-push.ensures.items)
    (counted-more 0 c.self.inside.requests.items c.args.request c.self.invariant (subst (λ n. IsCounted n c.args.request) (omega arith) here))
