use Rattle.std.proofs.Common.{arith}
use Rattle.std.proofs.Math.Nat.{pow-le-pow_right, one-le-pow}
use Rattle.message_words.proofs.words.hex_digit.Goals as goal

pub pow-requires : goal.pow-requires
pow-requires c = omega (arith, pow-le-pow_right {n = 16} (omega arith) {i = c.args.behind} {j = 7} (omega (arith, c.requires)))

pub nonzero_div-digit : goal.nonzero_div-digit
nonzero_div-digit c = omega (arith, one-le-pow c.args.behind 16 (omega arith), c.pow.ensures)
