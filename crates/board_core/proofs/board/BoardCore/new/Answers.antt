use Rattle.std.proofs.Common.{ℕ, List, [], subst, sym}
use Rattle.board_state.specs.Statistics.{StatisticsHeld}
use Rattle.board_state.specs.Values.{new_channels}
use Rattle.board_state.specs.Waiting.{RequestsHeld}
use Rattle.board_state.specs.declared.channels.Channel.{Channel}
use Rattle.board_core.specs.Boards.{core_of, IsWhole}
use Rattle.board_core.specs.Logs.{LogParts}
use Rattle.board_core.proofs.NewLemmas.{at_boot, new-whole}
use Rattle.board_core.proofs.board.BoardCore.new.Goals as goal

pub invariant_of-result : goal.invariant_of-result
invariant_of-result c =
    let t = c.args.tailoring in
    let s = c.in_ok-structures.structures in
    let whole = new-whole t s c.widths-fit.ensures.fit c.in_ok-structures.ensures.held c.in_ok-structures.ensures.none in
    subst (λ (r : RequestsHeld). IsWhole (core_of 0 0 r s c.new-log.result) r.waiting s c.in_ok-channels.channels c.new-members.result) (sym c.new-requests.ensures)
    (subst (λ (l : LogParts). IsWhole (core_of 0 0 (record { packets = []; waiting = [] }) s l) [] s c.in_ok-channels.channels c.new-members.result) (sym c.new-log.ensures)
    (subst (λ (cs : List (ℕ × Channel)). IsWhole (at_boot t s) [] s cs c.new-members.result) (sym c.in_ok-channels.ensures)
    (subst (λ (x : StatisticsHeld). IsWhole (at_boot t s) [] s (new_channels t) x) (sym c.new-members.ensures) whole)))
