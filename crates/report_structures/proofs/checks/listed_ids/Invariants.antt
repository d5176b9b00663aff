use Rattle.std.proofs.Common.{◌≡◌, take}
use Rattle.hk_base.specs.Definitions as definitions
use Rattle.report_structures.proofs.checks.listed_ids.Given as goal

abbrev pub invariant-loop-array : goal.invariant-loop-array
invariant-loop-array l = l.ids.items ≡ definitions.listed_ids l.simple (take l.array-index l.arrays)
