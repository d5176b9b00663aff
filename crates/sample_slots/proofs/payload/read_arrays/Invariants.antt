use Rattle.std.proofs.Common.{◌≡◌, ◌≤◌, ◌+◌, ◌*◌, ℕ, length, drop, sum_by, flat_map}
use Rattle.hk_base.specs.Payload.{bits_of}
use Rattle.sample_slots.specs.Reading.{array_groups, array_octets, groups_after}
use Rattle.sample_slots.proofs.payload.read_arrays.Given as goal

abbrev pub invariant-loop-array : goal.invariant-loop-array
invariant-loop-array l = record {
  goes : (interval : ℕ) → groups_after l.tailoring l.fn.values.items l.first (flat_map (array_groups interval) l.arrays) (bits_of l.bytes) ≡ groups_after l.tailoring l.values.items l.group (flat_map (array_groups interval) (drop l.array-index l.arrays)) (bits_of l.rest);
  whole : length l.rest ≡ sum_by (array_octets l.tailoring) (drop l.array-index l.arrays);
  groups : l.group ≤ 1 + 4096 * l.array-index;
  count : length l.values.items ≤ 255 + 1044480 * l.array-index;
}
