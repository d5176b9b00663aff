use Rattle.std.proofs.Common.{◌≡◌, ◌≤◌, ◌+◌, ◌-◌, ◌*◌, ◌/◌, ◌%◌, ◌^◌, ℕ, List, length, take, drop, bit_and, arith, ap, sym, ◌∙◌}
use Rattle.std.proofs.lemmas.Nat.{one_shl, and_mask}
use Rattle.hk_base.specs.Fields.{number, number_of}
use Rattle.hk_base.specs.Payload.{bits_of}
use Rattle.sample_slots.proofs.BitsLemmas.{number-between}
use Rattle.sample_slots.proofs.bits.get_bits.Goals as goal

pub returns-clause-value : goal.returns-clause-value
returns-clause-value c =
    let bytes = c.args.bytes.now in
    let q = c.args.position / 8 in
    let before = c.args.position % 8 in
    let count = c.div_ceil-octets.result in
    let behind = 8 * count - before - c.args.width in
    let size : 8 * count ≡ before + (c.args.width + behind) = omega (arith, c.div_ceil-octets.ensures) in
    let at : c.args.position ≡ 8 * q + before = omega arith in
    let back = c.split_at.ensures.back in
    let enough : count ≤ length (drop q bytes) = omega (arith, ap (λ (xs : List ℕ). length xs) back, c.in-Ok.ensures.enough) in
    ap (λ (m : ℕ). bit_and (c.in-Ok.whole / 2 ^ behind) (m - 1)) (one_shl c.args.width 128 (omega arith))
    ∙ (and_mask (c.in-Ok.whole / 2 ^ behind) c.args.width
    ∙ (ap (λ (n : ℕ). n / 2 ^ behind % 2 ^ c.args.width) (c.in-Ok.ensures.value ∙ ap (λ (xs : List ℕ). number_of (take count xs)) back)
    ∙ (sym (number-between bytes q before c.args.width behind count (λ i. omega (arith, c.type_inv.bytes i)) enough size)
    ∙ ap (λ (n : ℕ). number 2 (take c.args.width (drop n (bits_of bytes)))) (sym at))))
