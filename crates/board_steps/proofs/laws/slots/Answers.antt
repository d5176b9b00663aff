use Rattle.std.proofs.Common.{arith, ap, ◌≡◌}
use Rattle.std.specs.Prelude.{if◌then◌else◌}
use Rattle.board_steps.specs.SlotRuns.{at_start}
use Rattle.board_steps.proofs.SlotLemmas.{ended, leads-run, leads-slot, slot-next, slot-idle}
use Rattle.board_steps.proofs.laws.slots.Goals as goal

pub returns-clause-runs : goal.returns-clause-runs
returns-clause-runs c t earlier ahead next before after events run leads = leads-run t earlier ahead next before after events run leads

pub returns-clause-same : goal.returns-clause-same
returns-clause-same c uplinks ahead before after part is_open =
    let e = leads-slot (at_start uplinks) ahead before after part.0 part.1 in
    let none : ended ahead ≡ 0 = ap (λ b. if b then 0 else 1) is_open in
    omega (arith, e, none)

pub returns-clause-next : goal.returns-clause-next
returns-clause-next c uplinks before after slot = slot-next uplinks before after slot

pub returns-clause-idle : goal.returns-clause-idle
returns-clause-idle c uplinks before after slot none = slot-idle uplinks before after slot none
