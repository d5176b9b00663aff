use Rattle.std.proofs.Common.{arith}
use Rattle.live_verdicts.proofs.SplitLemmas.{holds-below}
use Rattle.live_verdicts.proofs.behind.mark_from_start.Goals as goal

pub returns : goal.returns
returns c =
    λ comes.
    c.in_ok-later.ensures.mark
    (holds-below c.args.history.now.history c.in_ok-later.later c.numbers_from-numbers.result.end c.args.asked.listed c.args.asked.tag c.in_ok-later.ensures.past (let same = c.numbers_from-numbers.ensures.1 in omega (arith, same, c.requires.order)) comes.holds)
