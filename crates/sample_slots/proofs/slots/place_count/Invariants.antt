use Rattle.std.proofs.Common.{◌≡◌, ◌≤◌, ◌+◌, ◌*◌, ℕ, take, length, ◌++◌}
use Rattle.std.specs.List.{flat_map}
use Rattle.sample_slots.specs.Slots.{slot_places, array_places}
use Rattle.sample_slots.proofs.slots.place_count.Given as goal

abbrev pub invariant-loop-array : goal.invariant-loop-array
invariant-loop-array l = record {
  sum : (last : ℕ) → l.count ≡ length (slot_places last l.def.simple ++ flat_map (array_places last l.def.interval) (take l.array-index l.def.arrays));
  small : l.count ≤ 255 + l.array-index * 1044480;
}
