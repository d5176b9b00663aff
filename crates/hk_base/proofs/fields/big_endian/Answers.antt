use Rattle.std.proofs.Common.{take, length, arith}
use Rattle.std.proofs.lemmas.List.{length-take}
use Rattle.hk_base.proofs.Numbers.{IsBytes-take, number_bound, number_of_more, one_more_fits}
use Rattle.hk_base.proofs.fields.big_endian.Goals as goal

pub overflow_mul-value : goal.overflow_mul-value
overflow_mul-value c =
    let more = one_more_fits c.args.field.now c.loop-octet.octet-index (λ i. omega (arith, c.type_inv.field i)) c.requires c.loop-octet-test.true in
    omega (arith, more, c.loop-octet.invariant)

pub overflow_add-value : goal.overflow_add-value
overflow_add-value c =
    let more = one_more_fits c.args.field.now c.loop-octet.octet-index (λ i. omega (arith, c.type_inv.field i)) c.requires c.loop-octet-test.true in
    omega (arith, more, c.loop-octet.invariant, c.from.ensures)

pub loop-octet-preserved : goal.loop-octet-preserved
loop-octet-preserved c =
    let more = number_of_more c.args.field.now c.loop-octet.octet-index c.loop-octet-test.true in
    omega (arith, more, c.loop-octet.invariant, c.from.ensures)

pub returns-clause-fits : goal.returns-clause-fits
returns-clause-fits c =
    let field = c.args.field.now in
    let i = c.loop-octet.octet-index in
    let small = number_bound (length field) (take i field) (IsBytes-take i field (λ i. omega (arith, c.type_inv.field i))) (omega (arith, length-take i field)) in
    omega (arith, small, c.loop-octet.invariant)
