use Rattle.std.proofs.Common.{◌-◌, ◌%◌, ◌^◌, ℕ, ℤ, of_z, bit_and, arith, ap, ◌∙◌}
use Rattle.std.specs.Int.{w128}
use Rattle.std.proofs.lemmas.Int.{to_z-of_z}
use Rattle.std.proofs.lemmas.Nat.{one_shl, and_mask}
use Rattle.sample_slots.proofs.PackingLemmas.{masked}
use Rattle.sample_slots.proofs.packing.unsigned.Goals as goal

pub returns-clause-number : goal.returns-clause-number
returns-clause-number c =
    let bits = c.args.bits in
    let v = c.args.value in
    ap (λ (m : ℕ). bit_and c.cast_unsigned.result (m - 1)) (one_shl bits 128 (omega (arith, c.requires.width)))
    ∙ (and_mask c.cast_unsigned.result bits
    ∙ (ap (λ (n : ℕ). n % 2 ^ bits) (c.cast_unsigned.ensures ∙ ap (λ (z : ℤ). of_z w128 z) (to_z-of_z w128 v c.ranges.value))
    ∙ (masked bits v c.requires.width c.requires.held).0))
