use Rattle.std.proofs.Common.{◌≡◌, ◌++◌, ◌-◌, ◌%◌, ℕ, List, arith, ap, sym, ◌∙◌, append-nil}
use Rattle.hk_base.specs.Fields.{digits}
use Rattle.hk_base.specs.Payload.{bits_of}
use Rattle.sample_slots.specs.Writing.{written}
use Rattle.sample_slots.proofs.PackingLemmas.{digits-zero}
use Rattle.sample_slots.proofs.packing.pad.Goals as goal

pub returns-clause-bits : goal.returns-clause-bits
returns-clause-bits c =
    let p = c.args.pending in
    let next = c.in_ok-put_bits.field-0 in
    let bits = bits_of c.put_bits.new.out.items in
    let none : next.count ≡ 0 = omega (arith, c.in_ok-put_bits.ensures.count, c.requires.few) in
    sym (ap (λ (k : ℕ). bits ++ digits 2 k next.held) none ∙ append-nil bits)
    ∙ (c.in_ok-put_bits.ensures.bits ∙ ap (λ (xs : List ℕ). written c.args.out.now.items p ++ xs) (digits-zero ((8 - p.count) % 8)))
