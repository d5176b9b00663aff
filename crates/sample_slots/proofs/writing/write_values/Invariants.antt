use Rattle.std.proofs.Common.{◌≡◌, ◌++◌, drop, filter_map}
use Rattle.hk_base.specs.Parameters.{parameter}
use Rattle.hk_base.specs.Payload.{bits_of, values_bits}
use Rattle.sample_slots.specs.Writing.{IsPending, written, Keeps, AreFitting}
use Rattle.sample_slots.proofs.writing.write_values.Given as goal

abbrev pub invariant-loop-id : goal.invariant-loop-id
invariant-loop-id l = record {
  bits : written l.out.items l.pending ++ values_bits (filter_map (parameter l.tailoring) (drop l.id-index l.ids)) l.rest ≡ bits_of l.fn.out.items ++ values_bits (filter_map (parameter l.tailoring) l.ids) l.values;
  fit : AreFitting l.tailoring (drop l.id-index l.ids) l.rest;
  pending : IsPending l.pending;
  kept : Keeps l.fn.out.items l.out.items;
}
