use Rattle.std.proofs.Common.{length}
use Rattle.hk_base.specs.declared.types.Key.{Key}
use Rattle.verdict_tables.specs.Collecting.{held_for}
use Rattle.verdict_tables.proofs.BuildLemmas.{IsPartly}
use Rattle.verdict_tables.proofs.building.built.Given as goal

abbrev pub invariant-loop-key : goal.invariant-loop-key
invariant-loop-key l = (key : Key) → IsPartly l.history key (held_for l.places key) (held_for l.structures key)

abbrev pub decreases-loop-key : goal.decreases-loop-key
decreases-loop-key l = length l.places
