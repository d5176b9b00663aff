use Rattle.std.proofs.Common.{◌≡◌}
use Rattle.std.specs.Option.{option_copied}
use Rattle.definition_intervals.proofs.GatherLemmas.{opened, first_candidates}
use Rattle.definition_intervals.proofs.gathering.opening.Given as goal

abbrev pub invariant-loop-number : goal.invariant-loop-number
invariant-loop-number l = l.opening ≡ opened l.from (option_copied l.fn.state) (first_candidates l.history.history l.key l.from l.tag l.number)
