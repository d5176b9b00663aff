use Rattle.std.proofs.Common.{◌-◌, ◌≡◌, ◌<◌, ◌≤◌, IfSome, true}
use Rattle.ground_history.specs.Evidence.{high}
use Rattle.entry_changes.specs.Changes.{is_under}
use Rattle.entry_changes.proofs.changes.last_ended.Given as goal

abbrev pub invariant-loop-from : goal.invariant-loop-from
invariant-loop-from l = (l.to ≤ l.number) × IfSome l.last (λ last. (last < l.number) × (is_under (high l.history.history last) l.tag ≡ true))

abbrev pub decreases-loop-from : goal.decreases-loop-from
decreases-loop-from l = l.to - l.from
