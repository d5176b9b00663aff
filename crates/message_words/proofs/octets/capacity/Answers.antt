use Rattle.std.proofs.Common.{◌≤◌, arith}
use Rattle.std.proofs.Math.Nat.{pow-le-pow_right}
use Rattle.message_words.proofs.octets.capacity.Goals as goal

pub pow-requires : goal.pow-requires
pow-requires c =
    let few : c.from.result ≤ 4 = omega (arith, c.requires, c.from.ensures) in
    omega (arith, pow-le-pow_right {n = 256} (omega arith) {i = c.from.result} {j = 4} few)
