use Rattle.std.proofs.Common.{◌-◌, ℕ}
use Rattle.hk_base.specs.Payload.{repetitions}
use Rattle.sample_slots.specs.Writing.{Keeps, Writes}
use Rattle.sample_slots.proofs.writing.write_array.Given as goal

abbrev pub invariant-loop-repetition : goal.invariant-loop-repetition
invariant-loop-repetition l = record {
  writes : (spacing : ℕ) → Writes l.tailoring (repetitions l.array.params spacing l.array.repetition) (repetitions l.array.params spacing (l.array.repetition - l._repetition)) l.fn.out.items l.values l.out.items l.rest;
  kept : Keeps l.fn.out.items l.out.items;
}
