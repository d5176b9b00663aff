use Rattle.std.proofs.Common.{◌≡◌, ◌++◌, ◌+◌, ◌-◌, ◌*◌, ◌/◌, ◌%◌, ◌^◌, ◌<◌, ℕ, bit_and, arith, ap, sym, subst, ◌∙◌}
use Rattle.std.proofs.lemmas.Nat.{one_shl, and_mask}
use Rattle.hk_base.specs.Fields.{digits}
use Rattle.hk_base.specs.Payload.{bits_of}
use Rattle.sample_slots.proofs.PackingLemmas.{packed, whole-small, high-fits}
use Rattle.sample_slots.proofs.packing.put_bits.Goals as goal

pub put_octets-requires-clause-fits : goal.put_octets-requires-clause-fits
put_octets-requires-clause-fits c =
    let p = c.args.pending in
    let width = c.args.width in
    let whole = p.held * (1 * 2 ^ width % 2 ^ 128) + c.args.value in
    let small : whole < 2 ^ (p.count + width) =
    subst (λ n. p.held * n + c.args.value < 2 ^ (p.count + width)) (sym (one_shl width 128 (omega (arith, c.requires.width)))) (whole-small p.held p.count c.args.value width c.requires.pending.small c.requires.fits) in
    high-fits whole ((p.count + width) / 8) ((p.count + width) % 8) (p.count + width) small (omega arith)

pub returns-clause-bits : goal.returns-clause-bits
returns-clause-bits c =
    let p = c.args.pending in
    let width = c.args.width in
    let octets = (p.count + width) / 8 in
    let behind = (p.count + width) % 8 in
    let whole = p.held * (1 * 2 ^ width % 2 ^ 128) + c.args.value in
    let is : whole ≡ p.held * 2 ^ width + c.args.value = ap (λ n. p.held * n + c.args.value) (one_shl width 128 (omega (arith, c.requires.width))) in
    ap (λ (n : ℕ). bits_of c.put_octets.new.out.items ++ digits 2 behind n) (ap (λ (m : ℕ). bit_and whole (m - 1)) (one_shl behind 128 (omega arith)) ∙ and_mask whole behind)
    ∙ packed c.args.out.now.items c.put_octets.new.out.items p.held p.count c.args.value width whole octets behind c.requires.fits is (omega arith) c.in_ok-put_octets.ensures.ok
