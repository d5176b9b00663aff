use Rattle.std.proofs.Common.{◌≡◌, ◌++◌, drop}
use Rattle.std.specs.Prelude.{flat_map}
use Rattle.hk_base.specs.Definitions.{parameter_ids}
use Rattle.hk_tailoring.proofs.definitions.parameter_ids.Given as goal

abbrev pub invariant-loop-array : goal.invariant-loop-array
invariant-loop-array l = l.ids.items ++ flat_map (λ a. a.params) (drop l.array-index l.def.arrays) ≡ parameter_ids l.def
