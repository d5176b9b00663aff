use Rattle.std.proofs.Common.{◌≡◌, drop, find}
use Rattle.hk_base.specs.Parameters.{key_eq}
use Rattle.hk_base.proofs.tailoring.Tailoring.boot.Given as goal

abbrev pub invariant-loop-boot : goal.invariant-loop-boot
invariant-loop-boot l = find (λ boot. key_eq boot.key l.key) (drop l.boot-index l.boot-items) ≡ find (λ boot. key_eq boot.key l.key) l.self.boots
