use Rattle.std.proofs.Common.{◌≡◌, drop}
use Rattle.hk_tailoring.specs.Checks.{first_fault}
use Rattle.hk_tailoring.specs.Structures.{repetition_checks}
use Rattle.hk_tailoring.proofs.definitions.check_repetitions.Given as goal

abbrev pub invariant-loop-array : goal.invariant-loop-array
invariant-loop-array l = first_fault (repetition_checks l.interval (drop l.array-index l.arrays)) ≡ first_fault (repetition_checks l.interval l.arrays)
