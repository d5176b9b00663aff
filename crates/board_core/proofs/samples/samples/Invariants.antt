use Rattle.std.proofs.Common.{◌≡◌, ◌++◌, drop}
use Rattle.std.specs.Prelude.{filter_map}
use Rattle.hk_base.specs.Payload.{places}
use Rattle.board_core.specs.Closing.{held_sample}
use Rattle.board_core.proofs.samples.samples.Given as goal

abbrev pub invariant-loop-number : goal.invariant-loop-number
invariant-loop-number l =
    l.values.items ++ filter_map (held_sample l.channels l.slot) (drop l.number (places l.def l.slot)) ≡ filter_map (held_sample l.channels l.slot) (places l.def l.slot)
