use Rattle.std.proofs.Common.{◌≡◌, drop}
use Rattle.pus_packet.specs.Packets.{crc}
use Rattle.pus_packet.proofs.Registers.{left_by}
use Rattle.pus_packet.proofs.checksum.crc16.Given as goal

abbrev pub invariant-loop-octet : goal.invariant-loop-octet
invariant-loop-octet l = left_by l.register (drop l.octet-index l.bytes) ≡ crc l.bytes
