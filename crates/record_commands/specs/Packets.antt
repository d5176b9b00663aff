-- The packet of a line of words.
use Rattle.std.specs.Prelude.{ℕ, List, length, ◌==◌, ◌&&◌, nat_le, Option, Some, None, if◌then◌else◌}
use Rattle.hk_base.specs.TailoringParts.{TailoringParts}
use Rattle.pus_packet.specs.Joining.{most_octets}
use Rattle.pus_messages.specs.declared.message.Request.{Request}
use Rattle.pus_messages.specs.Spelling.{request_octets}
use Rattle.message_words.specs.Reading.{request_in_words}

-- the packet of a request, if its count is this number and a packet can be so long
abbrev pub numbered_packet : TailoringParts → ℕ → Request → Option (List ℕ)
numbered_packet t number r =
    if r.header.count == number && nat_le (length (request_octets t r)) most_octets then Some (request_octets t r) else None

-- the packet of a request that is there
abbrev pub packet_if : TailoringParts → ℕ → Option Request → Option (List ℕ)
packet_if t number None = None
packet_if t number (Some r) = numbered_packet t number r

-- the packet of a line, if it is the words of a request with this count whose packet isn't too long
unfoldable pub line_packet : TailoringParts → ℕ → List ℕ → Option (List ℕ)
line_packet t number line = packet_if t number (request_in_words t line)
