use Rattle.std.proofs.Common.{◌≡◌, drop}
use Rattle.std.specs.Prelude.{is_some}
use Rattle.std.specs.List.{list_all}
use Rattle.hk_base.specs.Payload.{places}
use Rattle.board_core.specs.Closing.{held_sample}
use Rattle.board_core.proofs.samples.has_samples.Given as goal

abbrev pub invariant-loop-number : goal.invariant-loop-number
invariant-loop-number l =
    list_all (λ p. is_some (held_sample l.channels l.slot p)) (drop l.number (places l.def l.slot)) ≡ list_all (λ p. is_some (held_sample l.channels l.slot p)) (places l.def l.slot)
