use Rattle.std.proofs.Common.{take}
use Rattle.std.specs.List.{All}
use Rattle.definition_intervals.specs.Founds.{AreSameFound, found_after}
use Rattle.live_verdicts.proofs.leaving.leaves_finds.Given as goal

abbrev pub invariant-loop-found : goal.invariant-loop-found
invariant-loop-found l = All (λ f. AreSameFound f (found_after l.tailoring l.request f)) (take l.found-index l.finds)
