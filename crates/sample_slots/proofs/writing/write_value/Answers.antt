use Rattle.std.proofs.Common.{ℤ, sym, subst}
use Rattle.std.specs.Int.{w128}
use Rattle.std.proofs.lemmas.Int.{to_z-of_z}
use Rattle.sample_slots.specs.Writing.{IsHeld}
use Rattle.sample_slots.proofs.PayloadLaws.{held}
use Rattle.sample_slots.proofs.writing.write_value.Goals as goal

pub unsigned-number-requires-clause-held : goal.unsigned-number-requires-clause-held
unsigned-number-requires-clause-held c = subst (λ (z : ℤ). IsHeld c.args.param.now.bits z) (sym (to_z-of_z w128 c.args.value c.ranges.value)) (held c.args.param.now c.args.value c.requires.shape c.requires.fits)
