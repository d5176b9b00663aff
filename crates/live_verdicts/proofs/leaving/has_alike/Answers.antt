use Rattle.std.proofs.Common.{arith, ◌<◌, length}
use Rattle.live_verdicts.proofs.GrowLemmas.{has-item-alike}
use Rattle.live_verdicts.proofs.leaving.has_alike.Goals as goal

pub returns-then-is_alike : goal.returns-then-is_alike
returns-then-is_alike c =
    let within : c.loop-other.other-index < length c.args.requests.now = omega arith in
    λ yes. has-item-alike c.args.requests.now c.args.request.now c.other-item.result c.loop-other.other-index within c.other-item.is (c.is_alike.ensures c.if-is_alike.true)
