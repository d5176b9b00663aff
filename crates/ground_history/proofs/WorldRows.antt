-- The bounds in a world in which a request was executed, and its completion delivered.
use Rattle.std.proofs.Common.{◌≡◌, refl, [], Some, lit<}
use Rattle.pus_messages.proofs.Lawful.{lawful}
use Rattle.hk_world.specs.Examples.{small, commanded_world}
use Rattle.hk_world.proofs.ExecutedExample.{commanded}
use Rattle.ground_history.specs.Evidence.{low, high, outcome}
use Rattle.ground_history.specs.Bounds.{history_in, AreBounds}
use Rattle.ground_history.specs.declared.answer.Outcome.TheVariants.{Done}
use Rattle.ground_history.proofs.WorldBounds.{world-bounds}

-- the ground knows that the request, executed at 4098, was executed below 4099, and its outcome
high-executed : high (history_in commanded_world) 0 ≡ Some 4099
high-executed = refl

-- nothing was kept before
low-executed : low (history_in commanded_world) 0 ≡ 0
low-executed = refl

-- the instruction was done
outcome-executed : outcome (history_in commanded_world) 0 1 ≡ Done
outcome-executed = refl

-- the theorem applies to it
bounds-executed : AreBounds commanded_world (history_in commanded_world) 0
bounds-executed = world-bounds commanded_world [] commanded_world.steps 0 (lawful small) commanded refl (lit< tt)
