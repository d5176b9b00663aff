use Rattle.std.proofs.Common.{◌≡◌, ◌≤◌, arith, ap}
use Rattle.std.proofs.Math.Nat.{pow-le-pow_right}
use Rattle.block_lines.proofs.parameters.scale.Goals as goal

pub pow-requires : goal.pow-requires
pow-requires c =
    let widths_are : c.widths.result.now.mean_fraction ≡ c.args.tailoring.now.widths.mean_fraction = ap (λ w. w.mean_fraction) c.widths.ensures.widths in
    let few : c.from.result ≤ 2 = omega (arith, c.widths.ensures.fit.widths.mean_fraction, c.from.ensures, widths_are) in
    omega (arith, pow-le-pow_right {n = 256} (omega arith) {i = c.from.result} {j = 2} few)
