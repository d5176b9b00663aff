use Rattle.std.proofs.Common.{arith, subst, ◌≡◌, ◌≤◌, length}
use Rattle.hk_base.specs.declared.types.Widths.{Widths}
use Rattle.pus_packet.specs.Joining.{command_packet}
use Rattle.pus_packet.proofs.Lengths.{command_length}
use Rattle.pus_packet.proofs.join.join_tc.Goals as goal

pub returns : goal.returns
returns c =
    let h = c.args.header.now in
    let body = c.args.body.now in
    let IsJoined : Widths → Type 0 = λ w. (c.in_ok-command.field-0 ≡ command_packet w.tc_checksum h body) × (length (command_packet w.tc_checksum h body) ≤ 65542) in
    subst IsJoined c.widths.ensures.widths (c.in_ok-command.ensures, omega (arith, command_length c.widths.result.now.tc_checksum h body))
