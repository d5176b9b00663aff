use Rattle.std.proofs.Common.{◌≡◌, take}
use Rattle.hk_base.proofs.tailoring.Tailoring.copied_params.Given as goal

abbrev pub invariant-loop-number : goal.invariant-loop-number
invariant-loop-number l = l.copies.items ≡ take l.number l.self.params
