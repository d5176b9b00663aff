use Rattle.std.proofs.Common.{◌≡◌, drop}
use Rattle.board_state.specs.Values.{with_settings}
use Rattle.board_state.proofs.channels.Channels.set.Given as goal

abbrev pub invariant-loop-setting : goal.invariant-loop-setting
invariant-loop-setting l = with_settings (drop l.setting-index l.settings) l.self ≡ with_settings l.settings l.fn.self
