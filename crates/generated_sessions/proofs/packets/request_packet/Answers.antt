use Rattle.std.proofs.Common.{◌≡◌, ◌≤◌, length, Ok}
use Rattle.std.proofs.lemmas.Result.{IfOk-weaker}
use Rattle.pus_packet.specs.Joining.{most_octets}
use Rattle.pus_messages.specs.Spelling.{IsRequest, request_octets}
use Rattle.generated_sessions.specs.Generated.{made_request}
use Rattle.generated_sessions.proofs.Messages.{of_request, request_stands, request_size, request_written, not_too_long}
use Rattle.generated_sessions.proofs.packets.request_packet.Goals as goal

pub write_request-requires : goal.write_request-requires
write_request-requires c =
    of_request (λ t r. IsRequest t r) c.args.tailoring.now c.in_ok-request.request c.args.request c.requires.tailoring c.in_ok-request.ensures
    (request_stands c.args.request c.requires.request)

pub packet_or_memory-requires : goal.packet_or_memory-requires
packet_or_memory-requires c =
    not_too_long (request_octets c.args.tailoring.now c.in_ok-request.request) c.write_request.result c.write_request.ensures
    (of_request (λ t r. length (request_octets t r) ≤ most_octets) c.args.tailoring.now c.in_ok-request.request c.args.request c.requires.tailoring
    c.in_ok-request.ensures
    (request_size c.args.request))

pub returns : goal.returns
returns c =
    IfOk-weaker c.packet_or_memory.result (λ packet. c.write_request.result ≡ Ok packet) (λ packet. packet ≡ made_request c.args.request)
    (λ packet e. request_written c.args.tailoring.now c.in_ok-request.request c.args.request packet c.write_request.result c.requires.tailoring
    c.in_ok-request.ensures c.write_request.ensures e)
    c.packet_or_memory.ensures
