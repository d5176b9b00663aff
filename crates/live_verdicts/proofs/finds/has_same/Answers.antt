use Rattle.std.proofs.Common.{arith, ◌<◌, length}
use Rattle.live_verdicts.proofs.FindLemmas.{has-item}
use Rattle.live_verdicts.proofs.finds.has_same.Goals as goal

pub returns-then-is_same_found : goal.returns-then-is_same_found
returns-then-is_same_found c =
    let gs = c.args.finds.now in
    let i = c.loop-other.other-index in
    let g = c.other-item.result in
    let within : i < length gs = omega arith in
    λ yes. has-item gs c.args.found.now g i within c.other-item.is (c.is_same_found.ensures c.if-is_same_found.true)
