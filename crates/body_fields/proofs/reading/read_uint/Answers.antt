use Rattle.std.proofs.Common.{arith}
use Rattle.std.proofs.Math.Nat.{pow-le-pow_right}
use Rattle.body_fields.proofs.reading.read_uint.Goals as goal

pub overflow_cast-result : goal.overflow_cast-result
overflow_cast-result c = omega (arith, c.in-Ok.ensures.fits, pow-le-pow_right {n = 256} (omega arith) {i = c.args.width} {j = 7} c.requires.1)
