use Rattle.std.proofs.Common.{◌≡◌, drop}
use Rattle.std.specs.List.{slice_get, flat_map}
use Rattle.hk_base.specs.Payload.{places}
use Rattle.sample_slots.specs.Slots.{array_places}
use Rattle.sample_slots.proofs.slots.place.Given as goal

abbrev pub invariant-loop-array : goal.invariant-loop-array
invariant-loop-array l =
    slice_get (flat_map (array_places l.last l.def.interval) (drop l.array-index l.def.arrays)) l.left ≡ slice_get (places l.def l.last) l.number
