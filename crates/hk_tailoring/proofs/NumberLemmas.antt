-- Numbers in octets.
use Rattle.std.proofs.Common.{◌≡◌, ℕ, zero, suc, ◌+◌, ◌*◌, ◌^◌, refl, ap, sym, ◌∙◌, arith}
use Rattle.std.proofs.Common.{pow-add}
use Rattle.std.proofs.Math.Nat.{pow-suc}

-- so many octets have eight times as many bits
pub octets-bits : (octets : ℕ) → 2 ^ (8 * octets) ≡ 256 ^ octets
octets-bits zero = refl
octets-bits (suc n) =
    let split : 8 * suc n ≡ 8 * n + 8 = omega arith in
    ap (λ m. 2 ^ m) split ∙ (pow-add 2 (8 * n) 8 ∙ (ap (λ m. m * 256) (octets-bits n) ∙ sym (pow-suc 256 n)))
