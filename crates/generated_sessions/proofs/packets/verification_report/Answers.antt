use Rattle.std.proofs.Common.{◌≤◌, ◌<◌, ◌+◌, ◌*◌, ◌^◌, length, refl, ap, arith}
use Rattle.pus_packet.specs.Joining.{most_octets}
use Rattle.pus_messages.specs.Spelling.{IsReport, report_octets}
use Rattle.pus_messages.specs.declared.message.ReportBody.TheVariants as tell
use Rattle.session_record.specs.declared.entry.Entry.TheVariants.{Got}
use Rattle.generated_sessions.specs.Generated.{round_tag}
use Rattle.generated_sessions.proofs.Messages.{of_report, packet_is, verification_stands, verification_size}
use Rattle.generated_sessions.proofs.packets.verification_report.Goals as goal

pub report_packet-requires-clause-message : goal.report_packet-requires-clause-message
report_packet-requires-clause-message c =
    let tag = c.round_tag.result + c.args.ticks in
    let early : tag < 2 ^ 33 = omega (arith, c.round_tag.ensures.early, c.requires.ticks) in
    of_report (λ t r. IsReport t r) c.args.tailoring.now c.report_header.result tag (tell.Verify c.args.verification) c.requires.tailoring
    (record { service = 1; subtype = c.subtype-subtype.result; is = c.report_header.ensures; service_is = refl; subtype_is = c.subtype-subtype.ensures })
    (verification_stands tag c.args.verification early c.requires.plain)

pub report_packet-requires-clause-short : goal.report_packet-requires-clause-short
report_packet-requires-clause-short c =
    let tag = c.round_tag.result + c.args.ticks in
    of_report (λ t r. length (report_octets t r) ≤ most_octets) c.args.tailoring.now c.report_header.result tag (tell.Verify c.args.verification)
    c.requires.tailoring
    (record { service = 1; subtype = c.subtype-subtype.result; is = c.report_header.ensures; service_is = refl; subtype_is = c.subtype-subtype.ensures })
    (verification_size tag c.args.verification c.requires.plain)

pub returns : goal.returns
returns c =
    let tag = c.round_tag.result + c.args.ticks in
    ap Got
    (packet_is c.args.tailoring.now c.report_header.result tag (round_tag (16 * c.args.request) + c.args.ticks) (tell.Verify c.args.verification)
    c.in_ok-report_packet.field-0 c.requires.tailoring
    (record { service = 1; subtype = c.subtype-subtype.result; is = c.report_header.ensures; service_is = refl; subtype_is = c.subtype-subtype.ensures })
    (ap (λ n. n + c.args.ticks) c.round_tag.ensures.tag) c.in_ok-report_packet.ensures)
