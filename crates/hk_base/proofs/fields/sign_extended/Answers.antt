use Rattle.std.proofs.Common.{arith}
use Rattle.std.proofs.lemmas.Int.{ints}
use Rattle.hk_base.proofs.Numbers.{half_of, IsHalf, signed_of-below, signed_of-above}
use Rattle.hk_base.proofs.fields.sign_extended.Goals as goal

pub overflow_cast-result : goal.overflow_cast-result
overflow_cast-result c = let h : IsHalf c.args.bits _ = half_of c.args.bits c.requires.width.0 c.requires.width.1 in omega (arith, ints)

pub overflow_cast-result-else-number-half : goal.overflow_cast-result-else-number-half
overflow_cast-result-else-number-half c = let h = half_of c.args.bits c.requires.width.0 c.requires.width.1 in omega (arith, ints)

pub overflow_sub-result-else-number-half-3 : goal.overflow_sub-result-else-number-half-3
overflow_sub-result-else-number-half-3 c = let h = half_of c.args.bits c.requires.width.0 c.requires.width.1 in omega (arith, ints)

pub overflow_sub-result-else-number-half-4 : goal.overflow_sub-result-else-number-half-4
overflow_sub-result-else-number-half-4 c = let h = half_of c.args.bits c.requires.width.0 c.requires.width.1 in omega (arith, ints)

pub returns-then-number-half : goal.returns-then-number-half
returns-then-number-half c = let h = half_of c.args.bits c.requires.width.0 c.requires.width.1 in
    rw (signed_of-below c.args.bits c.args.number (omega arith)) (omega (arith, ints))

pub returns-else-number-half : goal.returns-else-number-half
returns-else-number-half c = let h = half_of c.args.bits c.requires.width.0 c.requires.width.1 in
    rw (signed_of-above c.args.bits c.args.number (omega arith)) (omega (arith, ints))
