-- Numbers of calls that are listed.
use Rattle.std.proofs.Common.{◌≡◌, ◌+◌, ◌≤◌, ℕ, false, List, eqb, arith}
use Rattle.std.proofs.lemmas.Bool.Decides.{nat_tests}
use Rattle.std.proofs.lemmas.List.Elements.{All-weaker}
use Rattle.std.proofs.lemmas.List.Folds.{list_any_none}
use Rattle.hk_base.specs.Memory.{NoneAhead, is_next_listed}

above : (number calls : ℕ) → number ≤ calls → eqb number (calls + 1) ≡ false
above number calls le = grind (arith, nat_tests)

-- where no number is ahead, the next call isn't listed
pub none_listed : (failing : List ℕ) (calls : ℕ) → NoneAhead failing calls → is_next_listed failing calls ≡ false
none_listed failing calls none =
    list_any_none (λ (number : ℕ). eqb number (calls + 1)) failing
    (All-weaker (λ (number : ℕ). number ≤ calls) (λ (number : ℕ). eqb number (calls + 1) ≡ false) (λ number le. above number calls le) failing none)
