use Rattle.std.proofs.Common.{◌≡◌, ◌*◌, ◌^◌, ◌≤◌, arith}
use Rattle.std.proofs.Math.Nat.{pow-le-pow_right}
use Rattle.hk_tailoring.proofs.NumberLemmas.{octets-bits}
use Rattle.hk_tailoring.proofs.widths.greatest_interval_of.Goals as goal

pub returns-clause-within : goal.returns-clause-within
returns-clause-within c =
    let big : 256 ^ 1 ≤ 256 ^ c.args.octets = pow-le-pow_right {n = 256} (omega arith) {i = 1} {j = c.args.octets} c.requires.0 in
    let same : 2 ^ (8 * c.args.octets) ≡ 256 ^ c.args.octets = octets-bits c.args.octets in
    ((omega arith, omega arith), omega arith)
