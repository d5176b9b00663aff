use Rattle.std.proofs.Common.{◌≡◌, ◌≤◌, ◌<◌, ℕ, suc, negsuc, ◌-◌, ◌*◌, ◌^◌, ◌%◌, ◌-ℤ◌, ◌∙◌, ℤ, pos, Bool, true, ap, arith, sym, rules, to_z, of_z, FitsSigned, subst}
use Rattle.std.specs.Prelude.{◌&&◌}
use Rattle.std.proofs.lemmas.Int.{ints, to_z-of_z}
use Rattle.std.proofs.Math.Nat.{pow-le-pow_right}
use Rattle.std.specs.Int.{w128}
use Rattle.std.specs.Int.Signed.{le_z, lt_z}
use Rattle.hk_base.specs.Fields.{signed_of}
use Rattle.hk_base.proofs.FieldLemmas.{pow_pos}
use Rattle.hk_base.proofs.Numbers.{IsHalf, half_of, signed_of-above}
use Rattle.hk_base.proofs.ranges.is_signed.Goals as goal

negated : (b h : ℕ) → b ≡ 2 * h → 0 < h → pos 0 -ℤ pos h ≡ negsuc (b - suc h)
negated b h e some = omega (arith, ints)

pub returns-then-half-value : goal.returns-then-half-value
returns-then-half-value c =
    let bits = c.args.bits in
    let v = c.args.value in
    let h : IsHalf bits _ = half_of bits c.requires.0 (omega (arith, c.requires.1)) in
    let small : 2 ^ (bits - 1) ≤ 2 ^ 63 = pow-le-pow_right {n = 2} (omega arith) {i = bits - 1} {j = 63} (omega (arith, c.requires.1)) in
    let within : FitsSigned w128 v = search rules in
    let same : to_z w128 (of_z w128 v) ≡ v = to_z-of_z w128 v within in
    let half : to_z w128 (1 * 2 ^ (bits - 1) % 2 ^ 128) ≡ pos (2 ^ (bits - 1)) = omega (arith, ints, h.half) in
    let high : 2 ^ bits ≡ 2 * 2 ^ (bits - 1) = omega (arith, h.half, h.whole) in
    let negative : FitsSigned w128 (pos 0 -ℤ pos (2 ^ (bits - 1))) =
    subst (λ (z : ℤ). FitsSigned w128 z) (sym (negated (2 ^ bits) (2 ^ (bits - 1)) high (pow_pos 2 (bits - 1) (omega arith)))) (record { sfits = omega (arith, small, high) }) in
    let least : to_z w128 (of_z w128 (pos 0 -ℤ to_z w128 (1 * 2 ^ (bits - 1) % 2 ^ 128))) ≡ signed_of bits (2 ^ (bits - 1)) =
    ap (λ (z : ℤ). to_z w128 (of_z w128 (pos 0 -ℤ z))) half
    ∙ (to_z-of_z w128 (pos 0 -ℤ pos (2 ^ (bits - 1))) negative
    ∙ (negated (2 ^ bits) (2 ^ (bits - 1)) high (pow_pos 2 (bits - 1) (omega arith)) ∙ sym (signed_of-above bits (2 ^ (bits - 1)) (omega (arith, high))))) in
    let half_z = to_z w128 (1 * 2 ^ (bits - 1) % 2 ^ 128) in
    let low : le_z (signed_of bits (2 ^ (bits - 1))) v ≡ true = subst (λ (z : ℤ). le_z z v ≡ true) least (subst (λ (z : ℤ). le_z (to_z w128 (of_z w128 (pos 0 -ℤ half_z))) z ≡ true) same c.if-half-value.true) in
    ap (λ (z : ℤ). lt_z z half_z) same ∙ (ap (λ (z : ℤ). lt_z v z) half ∙ ap (λ (b : Bool). b && lt_z v (pos (2 ^ (bits - 1)))) (sym low))
