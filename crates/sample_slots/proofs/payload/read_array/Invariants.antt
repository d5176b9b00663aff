use Rattle.std.proofs.Common.{◌≡◌, ◌+◌, ◌-◌, ◌*◌, ◌++◌, ℕ, List, length}
use Rattle.hk_base.specs.Payload.{Group, bits_of, ids_octets, repetitions}
use Rattle.sample_slots.specs.Reading.{groups_after}
use Rattle.sample_slots.proofs.payload.read_array.Given as goal

abbrev pub invariant-loop-repetition : goal.invariant-loop-repetition
invariant-loop-repetition l = record {
  goes : (spacing : ℕ) (more : List Group) → groups_after l.tailoring l.fn.values.items l.first (repetitions l.array.params spacing l.array.repetition ++ more) (bits_of l.bytes) ≡ groups_after l.tailoring l.values.items (l.first + l.repetition) (repetitions l.array.params spacing (l.array.repetition - l.repetition) ++ more) (bits_of l.rest);
  left : length l.rest + l.repetition * ids_octets l.tailoring.params l.array.params ≡ length l.bytes;
  count : length l.values.items ≡ length l.fn.values.items + l.repetition * length l.array.params;
}
