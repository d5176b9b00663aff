use Rattle.std.proofs.Common.{◌≡◌, ◌%◌, ◌==◌, drop}
use Rattle.std.specs.Prelude.{find, not}
use Rattle.report_structures.proofs.checks.check_even.Given as goal

abbrev pub invariant-loop-array : goal.invariant-loop-array
invariant-loop-array l =
    find (λ a. not (l.interval % a.repetition == 0)) (drop l.array-index l.arrays) ≡ find (λ a. not (l.interval % a.repetition == 0)) l.arrays
