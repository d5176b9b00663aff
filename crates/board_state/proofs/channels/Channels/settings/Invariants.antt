use Rattle.std.proofs.Common.{◌≡◌, ◌++◌}
use Rattle.board_state.specs.Values.{settings_held}
use Rattle.board_state.proofs.channels.Channels.settings.Given as goal

abbrev pub invariant-loop-param : goal.invariant-loop-param
invariant-loop-param l = l.settings.items ++ settings_held l.param-iterator ≡ settings_held l.self
