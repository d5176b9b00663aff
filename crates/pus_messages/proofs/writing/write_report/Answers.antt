use Rattle.std.proofs.Common.{◌∙◌}
use Rattle.pus_packet.specs.Joining.{report_octets}
use Rattle.pus_messages.specs.Spelling.{report_body_octets}
use Rattle.pus_messages.proofs.WritingLemmas.{written}
use Rattle.pus_messages.proofs.writing.write_report.Goals as goal

pub returns : goal.returns
returns c =
    let t = c.args.tailoring.now in
    let message = c.args.report.now in
    written (report_body_octets t message.body) c.as_slice.result.now (report_octets t message.header) c.join_tm.result (c.as_slice.ensures ∙ c.in_ok-body.ensures.octets) c.join_tm.ensures
