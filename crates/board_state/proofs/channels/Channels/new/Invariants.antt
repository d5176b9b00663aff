use Rattle.std.proofs.Common.{◌≡◌, take, map}
use Rattle.board_state.specs.Values.{new_channel}
use Rattle.board_state.proofs.channels.Channels.new.Given as goal

abbrev pub invariant-loop-number : goal.invariant-loop-number
invariant-loop-number l = l.by_id.entries ≡ map (new_channel l.tailoring) (take l.number l.tailoring.params)
