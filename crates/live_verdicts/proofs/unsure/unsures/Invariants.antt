use Rattle.std.proofs.Common.{◌≡◌}
use Rattle.entry_changes.specs.Changes as changes
use Rattle.live_verdicts.proofs.unsure.unsures.Given as goal

abbrev pub invariant-loop-number : goal.invariant-loop-number
invariant-loop-number l = l.requests.items ≡ changes.unsures l.history.history l.key l.fn.numbers.first l.number
