use Rattle.std.proofs.Common.{◌≡◌, ◌-◌, ℕ, List, length}
use Rattle.sampler_threads.specs.Deeds.{Deed, Went, takings}
use Rattle.board_steps.specs.SlotRuns.{at_work}
use Rattle.sampler_threads.specs.Rings.{Received}
use Rattle.sampler_threads.proofs.arms.work.Given as goal

abbrev pub invariant-loop-core : goal.invariant-loop-core
invariant-loop-core l =
    (l.core.tailoring ≡ l.initial.core.tailoring)
    × (l.tailoring ≡ l.core.tailoring)
    × ((deeds : List Deed) × ((later : List (List ℕ)) → Went (at_work later) l.initial.core deeds (at_work later) l.core) × Received l.initial.rings (takings deeds) l.rings)

abbrev pub decreases-loop-core : goal.decreases-loop-core
decreases-loop-core l = 1048576 - length l.core.moments
