use Rattle.std.proofs.Common.{◌≡◌}
use Rattle.live_verdicts.specs.Marks as marks
use Rattle.live_verdicts.proofs.between.among.Given as goal

abbrev pub invariant-loop-number : goal.invariant-loop-number
invariant-loop-number l = l.requests.items ≡ marks.among l.history.history l.key l.from l.tag l.fn.numbers.first l.number
