use Rattle.std.proofs.Common.{arith, ◌≤◌, ◌^◌}
use Rattle.std.proofs.Math.Nat.{pow-le-pow_right}
use Rattle.pus_packet.proofs.split.tag_at.Goals as goal

-- at most seven octets
pub overflow_cast-result : goal.overflow_cast-result
overflow_cast-result c =
    let most : 256 ^ c.args.octets ≤ 256 ^ 7 = pow-le-pow_right {n = 256} (omega arith) {i = c.args.octets} {j = 7} c.requires.width.1 in
    omega (arith, most, c.in-Ok.ensures.fits)
