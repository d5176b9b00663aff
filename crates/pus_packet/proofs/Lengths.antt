-- How many octets packets have.
use Rattle.std.proofs.Common.{arith, ◌≡◌, ℕ, ◌+◌, List, length, Bool, true, false, length-append}
use Rattle.hk_base.proofs.FieldLemmas.{length-digits}
use Rattle.pus_packet.specs.Packets.{checksum_octets}
use Rattle.pus_packet.specs.Joining.{with_checksum, command_packet, report_packet}
use Rattle.hk_base.specs.Fields.{octets_of}
use Rattle.pus_packet.specs.declared.header.TcHeader.{TcHeader}
use Rattle.pus_packet.specs.declared.header.TmHeader.{TmHeader}

with_checksum_length : (checksum : Bool) (octets : List ℕ) (n : ℕ) → length octets ≡ n → length (with_checksum checksum octets) ≡ n + checksum_octets checksum
with_checksum_length false octets n e = omega (arith, e)
with_checksum_length true octets n e = omega (arith, e, length-append {A = ℕ})

pub command_length : (checksum : Bool) (h : TcHeader) (body : List ℕ) → length (command_packet checksum h body) ≡ 11 + length body + checksum_octets checksum
command_length checksum h body = with_checksum_length checksum _ (11 + length body) (omega arith)

pub report_length : (checksum : Bool) (time : ℕ) (h : TmHeader) (body : List ℕ) → length (report_packet checksum time h body) ≡ 13 + time + length body + checksum_octets checksum
report_length checksum time h body = with_checksum_length checksum _ (13 + time + length body) (omega (arith, length-append (octets_of time h.tag) body, length-digits 256 time h.tag))
