-- Packets: the fields of their headers, their faults in the order of checking, and the checksum.
use Rattle.std.specs.Prelude.{◌≡◌, ℕ, zero, suc, ◌+◌, ◌-◌, ◌*◌, ◌/◌, ◌%◌, ◌^◌, List, [], ◌∷◌, ◌++◌, length, take, drop, replicate, slice_range, slice_index, Bool, true, false, ◌==◌, nat_lt, not, Option, Some, None, Result, Ok, Err, if◌then◌else◌}
use Rattle.std.specs.Option.{option_or}
use Rattle.hk_base.specs.TailoringParts.{TailoringParts}
use Rattle.hk_base.specs.Fields.{digits, number, number_of}
use Rattle.hk_base.specs.Payload.{bits_of}
use Rattle.pus_packet.specs.declared.header.TcHeader.{TcHeader}
use Rattle.pus_packet.specs.declared.header.TmHeader.{TmHeader}
use Rattle.pus_packet.specs.declared.header.PacketFault.{PacketFault}
use Rattle.pus_packet.specs.declared.header.PacketFault.TheVariants.{Short, Length, Version, Direction, NoSecondary, Segmented, PusVersion, Checksum}

-- two octets from a place on, as a number
abbrev pub word_at : ℕ → List ℕ → ℕ
word_at place octets = number_of (slice_range octets place (place + 2))

-- the version in the primary header
abbrev pub version : List ℕ → ℕ
version octets = word_at 0 octets / 2 ^ 13

-- 0 for a report, 1 for a request
abbrev pub direction : List ℕ → ℕ
direction octets = word_at 0 octets / 2 ^ 12 % 2

-- 1 where there is a secondary header
abbrev pub secondary_flag : List ℕ → ℕ
secondary_flag octets = word_at 0 octets / 2 ^ 11 % 2

-- the application process
abbrev pub process : List ℕ → ℕ
process octets = word_at 0 octets % 2 ^ 11

-- 3 for a packet that isn't segmented
abbrev pub sequence_flags : List ℕ → ℕ
sequence_flags octets = word_at 2 octets / 2 ^ 14

-- the count of the packet
abbrev pub sequence_count : List ℕ → ℕ
sequence_count octets = word_at 2 octets % 2 ^ 14

-- the length that a packet claims
abbrev pub claimed_length : List ℕ → ℕ
claimed_length octets = word_at 4 octets + 7

-- the version in the first half of the first octet of the secondary header
abbrev pub pus_version : List ℕ → ℕ
pus_version octets = slice_index octets 6 / 16

-- a request's acknowledgement flags, or a report's time reference status
abbrev pub low_half : List ℕ → ℕ
low_half octets = slice_index octets 6 % 16

-- polynomials over two elements, as bits with the highest power first: the sum of a polynomial and the front of another
abbrev pub sum_onto : List ℕ → List ℕ → List ℕ
sum_onto [] bits = bits
sum_onto (x ∷ xs) [] = []
sum_onto (x ∷ xs) (y ∷ ys) = (x + y) % 2 ∷ sum_onto xs ys

-- x^16 + x^12 + x^5 + 1, its highest power left out
abbrev pub generator : List ℕ
generator = digits 2 16 0x1021

-- what is left of a polynomial when so many of its highest powers are divided off
abbrev pub remainder : ℕ → List ℕ → List ℕ
remainder zero bits = bits
remainder (suc n) [] = []
remainder (suc n) (bit ∷ bits) = remainder n (if bit == 1 then sum_onto generator bits else bits)

-- the checksum: the remainder of the octets times x^16, with ones added to the first 16 bits
abbrev pub crc : List ℕ → ℕ
crc octets = number 2 (remainder (8 * length octets) (sum_onto (replicate 16 1) (bits_of octets ++ replicate 16 0)))

-- the octets of a checksum, where it is on
abbrev pub checksum_octets : Bool → ℕ
checksum_octets on = if on then 2 else 0

-- the octets of a packet without its checksum
abbrev pub checked_part : Bool → List ℕ → List ℕ
checked_part on octets = take (length octets - checksum_octets on) octets

-- the fault of a checksum, where it is on
abbrev pub checksum_fault : Bool → List ℕ → Option PacketFault
checksum_fault false octets = None
checksum_fault true octets =
    let field = word_at (length octets - 2) octets in
    let computed = crc (checked_part true octets) in
    if field == computed then None else Some (Checksum field computed)

-- a fault where a test doesn't pass
abbrev pub fault_unless : Bool → PacketFault → Option PacketFault
fault_unless b fault = if b then None else Some fault

-- the first of some faults
abbrev pub first_fault : List (Option PacketFault) → Option PacketFault
first_fault [] = None
first_fault (f ∷ fs) = option_or f (first_fault fs)

-- the faults of the headers of octets that are to be a packet of a direction and have so many octets at least, in the order of checking
abbrev pub header_faults : ℕ → ℕ → List ℕ → List (Option PacketFault)
header_faults wanted least octets =
    fault_unless (not (nat_lt (length octets) least)) (Short (length octets))
    ∷ fault_unless (claimed_length octets == length octets) (Length (claimed_length octets) (length octets))
    ∷ fault_unless (version octets == 0) (Version (version octets))
    ∷ fault_unless (direction octets == wanted) (Direction (direction octets))
    ∷ fault_unless (secondary_flag octets == 1) NoSecondary
    ∷ fault_unless (sequence_flags octets == 3) (Segmented (sequence_flags octets))
    ∷ fault_unless (pus_version octets == 2) (PusVersion (pus_version octets))
    ∷ []

-- the first fault of octets that are to be a packet of a direction, with headers of so many octets
abbrev pub packet_fault : ℕ → ℕ → Bool → List ℕ → Option PacketFault
packet_fault wanted headers checksum octets =
    option_or (first_fault (header_faults wanted (headers + checksum_octets checksum) octets)) (checksum_fault checksum octets)

-- a value, unless there is a fault
abbrev pub unless_fault : {A : Type 0} → Option PacketFault → A → Result A PacketFault
unless_fault None x = Ok x
unless_fault (Some fault) x = Err fault

-- the headers of a request packet
abbrev pub command_headers : List ℕ → TcHeader
command_headers octets =
    record {
      apid = process octets;
      count = sequence_count octets;
      flags = low_half octets;
      service = slice_index octets 7;
      subtype = slice_index octets 8;
      source = word_at 9 octets;
    }

-- the headers of a request packet and its body, or its first fault
abbrev pub split_command : TailoringParts → List ℕ → Result (TcHeader × List ℕ) PacketFault
split_command t octets =
    unless_fault (packet_fault 1 11 t.widths.tc_checksum octets) (command_headers octets, drop 11 (checked_part t.widths.tc_checksum octets))

-- how many octets a time has
abbrev pub time_octets : TailoringParts → ℕ
time_octets t = t.widths.coarse + t.widths.fine

-- the headers of a report packet
abbrev pub report_headers : TailoringParts → List ℕ → TmHeader
report_headers t octets =
    record {
      apid = process octets;
      count = sequence_count octets;
      status = low_half octets;
      service = slice_index octets 7;
      subtype = slice_index octets 8;
      counter = word_at 9 octets;
      destination = word_at 11 octets;
      tag = number_of (slice_range octets 13 (13 + time_octets t));
    }

-- the headers of a report packet and its body, or its first fault
abbrev pub split_report : TailoringParts → List ℕ → Result (TmHeader × List ℕ) PacketFault
split_report t octets =
    unless_fault (packet_fault 0 (13 + time_octets t) t.widths.tm_checksum octets)
    (report_headers t octets, drop (13 + time_octets t) (checked_part t.widths.tm_checksum octets))

-- the process of octets that have a primary header
abbrev pub process_of : List ℕ → Option ℕ
process_of octets = if nat_lt (length octets) 6 then None else Some (process octets)

-- What a function returned, seen by view, is what reading gives.
abbrev pub Gives : {X Y E : Type 0} → (X → Y) → Result X E → Result Y E → Type 0
Gives view (Ok x) read = read ≡ Ok (view x)
Gives view (Err e) read = read ≡ Err e
