use Rattle.std.proofs.Common.{◌≡◌, ◌++◌, [], replicate}
use Rattle.board_state.proofs.requests.append_packet.Given as goal

abbrev pub invariant-loop-passed : goal.invariant-loop-passed
invariant-loop-passed l = l.packets.items ≡ l.fn.packets.items ++ replicate l._passed []
