use Rattle.std.proofs.Common.{ℕ, drop, flat_map}
use Rattle.sample_slots.specs.Reading.{array_groups}
use Rattle.sample_slots.specs.Writing.{Keeps, Writes}
use Rattle.sample_slots.proofs.writing.write_arrays.Given as goal

abbrev pub invariant-loop-array : goal.invariant-loop-array
invariant-loop-array l = record {
  writes : (interval : ℕ) → Writes l.tailoring (flat_map (array_groups interval) l.arrays) (flat_map (array_groups interval) (drop l.array-index l.arrays)) l.fn.out.items l.values l.out.items l.rest;
  kept : Keeps l.fn.out.items l.out.items;
}
