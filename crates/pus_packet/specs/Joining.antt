-- The octets of whole packets.
use Rattle.std.specs.Prelude.{◌≡◌, ℕ, ◌+◌, ◌^◌, ◌<◌, ◌≤◌, List, ◌∷◌, ◌++◌, length, slice_index, take, Bool, true, false, Result, Ok, Err}
use Rattle.hk_base.specs.TailoringParts.{TailoringParts}
use Rattle.hk_base.specs.Fields.{octets_of, number_of}
use Rattle.hk_base.specs.declared.types.RequestId.{RequestId}
use Rattle.pus_packet.specs.Packets.{crc, checksum_octets, time_octets, split_command, split_report}
use Rattle.pus_packet.specs.declared.header.TcHeader.{TcHeader}
use Rattle.pus_packet.specs.declared.header.TmHeader.{TmHeader}
use Rattle.pus_packet.specs.declared.header.JoinFault.{JoinFault}
use Rattle.pus_packet.specs.declared.header.JoinFault.TheVariants.{TooLong, Memory}

-- octets with their checksum, where it is on
abbrev pub with_checksum : Bool → List ℕ → List ℕ
with_checksum false octets = octets
with_checksum true octets = octets ++ octets_of 2 (crc octets)

-- the primary header: version, direction, secondary header flag and process as one number, the count of an unsegmented packet, and the number of octets that follow, less one
abbrev pub primary_octets : ℕ → ℕ → ℕ → ℕ → List ℕ
primary_octets direction apid count claimed = octets_of 2 (direction + apid) ++ (octets_of 2 (0xc000 + count) ++ octets_of 2 claimed)

-- a request packet, with its checksum or without one
abbrev pub command_packet : Bool → TcHeader → List ℕ → List ℕ
command_packet checksum h body =
    with_checksum checksum
    (primary_octets 0x1800 h.apid h.count (4 + length body + checksum_octets checksum) ++ ((0x20 + h.flags) ∷ h.service ∷ h.subtype ∷ octets_of 2 h.source ++ body))

-- a request packet under a tailoring
abbrev pub command_octets : TailoringParts → TcHeader → List ℕ → List ℕ
command_octets t h body = command_packet t.widths.tc_checksum h body

-- a report packet whose time has so many octets, with its checksum or without one
abbrev pub report_packet : Bool → ℕ → TmHeader → List ℕ → List ℕ
report_packet checksum time h body =
    with_checksum checksum
    (primary_octets 0x800 h.apid h.count (6 + time + length body + checksum_octets checksum)
    ++ ((0x20 + h.status) ∷ h.service ∷ h.subtype ∷ octets_of 2 h.counter ++ (octets_of 2 h.destination ++ (octets_of time h.tag ++ body))))

-- a report packet under a tailoring
abbrev pub report_octets : TailoringParts → TmHeader → List ℕ → List ℕ
report_octets t h body = report_packet t.widths.tm_checksum (time_octets t) h body

-- a packet has at most so many octets
abbrev pub most_octets : ℕ
most_octets = 65542

-- headers of a request that fit their fields
pub record IsCommand (h : TcHeader) : Type 0 where
  pub apid : h.apid < 2 ^ 11
  pub count : h.count < 2 ^ 14
  pub flags : h.flags < 2 ^ 4
  pub service : h.service < 2 ^ 8
  pub subtype : h.subtype < 2 ^ 8
  pub source : h.source < 2 ^ 16

-- headers of a report that fit their fields, with a time of so many octets
pub record IsReport (time : ℕ) (h : TmHeader) : Type 0 where
  pub apid : h.apid < 2 ^ 11
  pub count : h.count < 2 ^ 14
  pub status : h.status < 2 ^ 4
  pub service : h.service < 2 ^ 8
  pub subtype : h.subtype < 2 ^ 8
  pub counter : h.counter < 2 ^ 16
  pub destination : h.destination < 2 ^ 16
  pub tag : h.tag < 256 ^ time

-- What joining answers where a packet would have these octets: them, or that they are too many; there may be no memory for them.
abbrev pub Joins : List ℕ → Result (List ℕ) JoinFault → Type 0
Joins octets (Ok joined) = (joined ≡ octets) × (length octets ≤ most_octets)
Joins octets (Err (TooLong len)) = (len ≡ length octets) × (most_octets < length octets)
Joins octets (Err Memory) = length octets ≤ most_octets

-- the first four octets of a request packet name the request
abbrev pub id_of_packet : List ℕ → RequestId
id_of_packet octets = record { word = number_of (take 4 octets) }

-- octets, as a list of numbers
abbrev pub AreOctets : List ℕ → Type 0
AreOctets octets = (place : ℕ) → slice_index octets place < 2 ^ 8

-- octets are split into these headers of a request and this body
abbrev pub SplitsToCommand : TailoringParts → List ℕ → TcHeader → List ℕ → Type 0
SplitsToCommand t octets h body = split_command t octets ≡ Ok (h, body)

-- octets are split into these headers of a report and this body
abbrev pub SplitsToReport : TailoringParts → List ℕ → TmHeader → List ℕ → Type 0
SplitsToReport t octets h body = split_report t octets ≡ Ok (h, body)

-- a request packet that these headers and this body make
pub record IsCommandPacket (checksum : Bool) (h : TcHeader) (body octets : List ℕ) : Type 0 where
  pub headers : IsCommand h
  pub spelling : octets ≡ command_packet checksum h body
  pub size : length octets ≤ most_octets

-- a report packet that these headers and this body make, with a time of so many octets
pub record IsReportPacket (checksum : Bool) (time : ℕ) (h : TmHeader) (body octets : List ℕ) : Type 0 where
  pub headers : IsReport time h
  pub spelling : octets ≡ report_packet checksum time h body
  pub size : length octets ≤ most_octets
