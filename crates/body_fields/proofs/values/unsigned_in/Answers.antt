use Rattle.std.proofs.Common.{◌∙◌, ◌<◌, ◌≤◌, ◌^◌, ap, arith, pos, ℕ}
use Rattle.std.specs.Int.{w128}
use Rattle.std.proofs.lemmas.Int.{ints, to_z_pos}
use Rattle.std.proofs.Math.Nat.{pow-le-pow_right}
use Rattle.std.proofs.lemmas.List.{take_all}
use Rattle.hk_base.specs.Fields.{number_of}
use Rattle.body_fields.proofs.values.unsigned_in.Goals as goal

small : (n width : ℕ) → n < 256 ^ width → width ≤ 15 → n < 2 ^ 127
small n width fits few = omega (arith, fits, pow-le-pow_right {n = 256} (omega arith) {i = width} {j = 15} few)

pub overflow_cast-result : goal.overflow_cast-result
overflow_cast-result c = let h = small c.in-Ok.number c.args.width c.in-Ok.ensures.fits c.requires.width.1 in omega (arith, ints)

pub returns : goal.returns
returns c =
    let h = small c.in-Ok.number c.args.width c.in-Ok.ensures.fits c.requires.width.1 in
    to_z_pos w128 c.in-Ok.number h
    ∙ ap pos (c.in-Ok.ensures.value ∙ ap number_of (take_all c.args.width c.args.field.now (omega (arith, c.requires.whole))))
