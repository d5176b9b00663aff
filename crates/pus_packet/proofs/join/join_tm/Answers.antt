use Rattle.std.proofs.Common.{arith, subst, ◌≡◌, ◌≤◌, ◌+◌, length}
use Rattle.hk_base.specs.declared.types.Widths.{Widths}
use Rattle.pus_packet.specs.Joining.{report_packet}
use Rattle.pus_packet.proofs.Lengths.{report_length}
use Rattle.pus_packet.proofs.join.join_tm.Goals as goal

pub returns : goal.returns
returns c =
    let h = c.args.header.now in
    let body = c.args.body.now in
    let w = c.widths-widths.result.now in
    let IsJoined : Widths → Type 0 =
    λ w. (c.in_ok-report.field-0 ≡ report_packet w.tm_checksum (w.coarse + w.fine) h body) × (length (report_packet w.tm_checksum (w.coarse + w.fine) h body) ≤ 65542) in
    subst IsJoined c.widths-widths.ensures.widths (c.in_ok-report.ensures, omega (arith, report_length w.tm_checksum (w.coarse + w.fine) h body))
