use Rattle.std.proofs.Common.{◌∙◌, ◌+◌, ℕ, ap}
use Rattle.hk_base.specs.Memory.{is_listed}
use Rattle.hk_base.proofs.ListedLemmas.{none_listed}
use Rattle.hk_base.proofs.listed.is_next_listed.Goals as goal

pub returns-clause-none : goal.returns-clause-none
returns-clause-none c =
    λ none. c.is_listed.ensures ∙ (ap (λ (n : ℕ). is_listed c.args.failing.now (n + 1)) c.from-number.ensures ∙ none_listed c.args.failing.now c.args.calls.now none)
