use Rattle.std.proofs.Common.{◌∙◌}
use Rattle.pus_packet.specs.Joining.{command_octets}
use Rattle.pus_messages.specs.Spelling.{request_body_octets}
use Rattle.pus_messages.proofs.WritingLemmas.{written}
use Rattle.pus_messages.proofs.writing.write_request.Goals as goal

pub returns : goal.returns
returns c =
    let t = c.args.tailoring.now in
    let message = c.args.request.now in
    written (request_body_octets t message.body) c.as_slice.result.now (command_octets t message.header) c.join_tc.result (c.as_slice.ensures ∙ c.in_ok-body.ensures.octets) c.join_tc.ensures
