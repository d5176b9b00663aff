use Rattle.std.proofs.Common.{◌≡◌, ◌++◌, take}
use Rattle.report_structures.proofs.extension.append_copies.Given as goal

abbrev pub invariant-loop-array : goal.invariant-loop-array
invariant-loop-array l = l.out.items ≡ l.fn.out.items ++ take l.array-index l.arrays
