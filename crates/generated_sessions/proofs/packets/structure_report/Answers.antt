use Rattle.std.proofs.Common.{◌≤◌, ◌<◌, ◌+◌, ◌^◌, length, refl, ap, ◌∙◌, arith}
use Rattle.pus_packet.specs.Joining.{most_octets}
use Rattle.pus_messages.specs.Spelling.{IsReport, report_octets}
use Rattle.generated_sessions.specs.Generated.{round_tag, values_body}
use Rattle.generated_sessions.proofs.Messages.{of_report, packet_is, entry_is, values_stand, values_size}
use Rattle.generated_sessions.proofs.packets.structure_report.Goals as goal

pub report_packet-requires-clause-message : goal.report_packet-requires-clause-message
report_packet-requires-clause-message c =
    let tag = c.round_tag.result + c.from.result in
    let early : tag < 2 ^ 33 = omega (arith, c.round_tag.ensures.early, c.from.ensures, c.requires.structure.1) in
    of_report (λ t r. IsReport t r) c.args.tailoring.now c.report_header.result tag (values_body c.args.structure c.in_ok-payload.payload) c.requires.tailoring
    (record { service = 3; subtype = 25; is = c.report_header.ensures; service_is = refl; subtype_is = refl })
    (values_stand tag c.args.structure c.in_ok-payload.payload early c.requires.structure.1)

pub report_packet-requires-clause-short : goal.report_packet-requires-clause-short
report_packet-requires-clause-short c =
    let tag = c.round_tag.result + c.from.result in
    of_report (λ t r. length (report_octets t r) ≤ most_octets) c.args.tailoring.now c.report_header.result tag
    (values_body c.args.structure c.in_ok-payload.payload) c.requires.tailoring
    (record { service = 3; subtype = 25; is = c.report_header.ensures; service_is = refl; subtype_is = refl })
    (values_size tag c.args.structure c.in_ok-payload.payload c.in_ok-payload.ensures.short)

pub returns : goal.returns
returns c =
    let tag = c.round_tag.result + c.from.result in
    entry_is c.args.seed c.args.round c.args.structure (round_tag c.args.round + c.args.structure) c.in_ok-report_packet.field-0
    c.in_ok-payload.payload refl c.in_ok-payload.ensures.payload
    (packet_is c.args.tailoring.now c.report_header.result tag (round_tag c.args.round + c.args.structure)
    (values_body c.args.structure c.in_ok-payload.payload) c.in_ok-report_packet.field-0 c.requires.tailoring
    (record { service = 3; subtype = 25; is = c.report_header.ensures; service_is = refl; subtype_is = refl })
    (ap (λ n. n + c.from.result) c.round_tag.ensures.tag ∙ ap (λ n. round_tag c.args.round + n) c.from.ensures) c.in_ok-report_packet.ensures)
