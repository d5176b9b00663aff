use Rattle.std.proofs.Common.{◌≡◌, ◌+◌, ◌-◌, ◌*◌, ◌/◌, ◌%◌, ◌==◌, not, ℕ, take, drop, arith, ap, sym, ◌∙◌}
use Rattle.std.proofs.lemmas.List.{drop-take}
use Rattle.hk_base.specs.Payload.{bits_of}
use Rattle.sample_slots.specs.Reading.{is_set}
use Rattle.sample_slots.proofs.BitsLemmas.{is_set-number, bits-below, parts-below}
use Rattle.sample_slots.proofs.bits.is_dirty.Goals as goal

pub returns-then-over-ne0 : goal.returns-then-over-ne0
returns-then-over-ne0 c =
    let bits = bits_of c.args.bytes.now in
    let p = c.args.position in
    let over = p % 8 in
    let end : 8 * ((p + 7) / 8) ≡ p + (8 - over) = omega (arith, c.if-over-ne0.true) in
    let below = (parts-below (8 - over) (drop p bits) (parts-below p bits (bits-below c.args.bytes.now)).1).0 in
    ap (λ (n : ℕ). not (n == 0)) c.get_bits.ensures.value
    ∙ (sym (is_set-number (take (8 - over) (drop p bits)) below)
    ∙ ap is_set (sym (drop-take p (8 - over) bits) ∙ ap (λ (k : ℕ). drop p (take k bits)) (sym end)))
