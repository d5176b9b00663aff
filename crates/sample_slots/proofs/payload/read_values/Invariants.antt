use Rattle.std.proofs.Common.{◌≡◌, ◌≤◌, ◌*◌, ◌+◌, length, drop}
use Rattle.hk_base.specs.Payload.{bits_of, ids_bits}
use Rattle.sample_slots.specs.Reading.{values_after}
use Rattle.sample_slots.proofs.payload.read_values.Given as goal

abbrev pub invariant-loop-id : goal.invariant-loop-id
invariant-loop-id l = record {
  goes : values_after l.tailoring l.fn.values.items l.ids (bits_of l.bytes) ≡ values_after l.tailoring l.values.items (drop l.id-index l.ids) (drop l.position (bits_of l.bytes));
  left : l.position + ids_bits l.tailoring.params (drop l.id-index l.ids) ≡ ids_bits l.tailoring.params l.ids;
  small : l.position ≤ 64 * l.id-index;
  count : length l.values.items ≡ length l.fn.values.items + l.id-index;
}
