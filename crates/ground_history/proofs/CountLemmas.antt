-- The count of a request packet is in its first four octets.
use Rattle.std.proofs.Common.{arith, ◌≡◌, ℕ, ◌+◌, ◌≤◌, ◌%◌, refl, sym, ◌∙◌, ap, length, List, [], ◌∷◌, Bool, true, false, nat_lt, Option, Some, None, Result, Ok, Err}
use Rattle.std.specs.Prelude.{take, drop, not}
use Rattle.std.specs.Option.{option_or}
use Rattle.std.proofs.lemmas.Bool.{not-true, ltb-false}
use Rattle.hk_base.specs.Fields.{number_of}
use Rattle.hk_base.specs.TailoringParts.{TailoringParts}
use Rattle.pus_packet.specs.Packets.{packet_fault, fault_unless, unless_fault, command_headers, checked_part, checksum_octets, sequence_count, split_command}
use Rattle.pus_packet.specs.declared.header.TcHeader.{TcHeader}
use Rattle.pus_packet.specs.declared.header.PacketFault.{PacketFault}
use Rattle.pus_packet.specs.declared.header.PacketFault.TheVariants.{Short}
use Rattle.ground_history.specs.Ground.{IsCountOf}

-- where there is no fault the first test passes
first-passes : (b : Bool) (fault : PacketFault) (rest more : Option PacketFault) → option_or (option_or (fault_unless b fault) rest) more ≡ None → b ≡ true
first-passes true fault rest more e = refl
first-passes false fault rest more e = cc

-- a request packet without a fault has at least the octets of its headers
enough-octets : (checksum : Bool) (packet : List ℕ) → packet_fault 1 11 checksum packet ≡ None → 11 ≤ length packet
enough-octets checksum packet e =
    let short = nat_lt (length packet) (11 + checksum_octets checksum) in
    let passes : not short ≡ true = first-passes (not short) (Short (length packet)) _ _ e in
    let le = ltb-false (length packet) (11 + checksum_octets checksum) (not-true short passes) in
    omega (arith, le)

count-in-front : (packet : List ℕ) → 11 ≤ length packet → sequence_count packet ≡ number_of (take 4 packet) % 16384
count-in-front [] le = absurd (omega (arith, le))
count-in-front (a ∷ []) le = absurd (omega (arith, le))
count-in-front (a ∷ b ∷ []) le = absurd (omega (arith, le))
count-in-front (a ∷ b ∷ c ∷ []) le = absurd (omega (arith, le))
count-in-front (a ∷ b ∷ c ∷ d ∷ rest) le = omega arith

-- the headers of a packet that was split
abbrev header_of : Result (TcHeader × List ℕ) PacketFault → TcHeader → TcHeader
header_of (Ok parts) h = parts.0
header_of (Err fault) h = h

pub count-of : (t : TailoringParts) (packet : List ℕ) (h : TcHeader) (body : List ℕ) → split_command t packet ≡ Ok (h, body) → IsCountOf h.count packet
count-of t packet h body e = go (packet_fault 1 11 t.widths.tc_checksum packet) refl e
  where
    go : (f : Option PacketFault) → packet_fault 1 11 t.widths.tc_checksum packet ≡ f
        → unless_fault {A = TcHeader × List ℕ} f (command_headers packet, drop 11 (checked_part t.widths.tc_checksum packet)) ≡ Ok (h, body) → IsCountOf h.count packet
    go None q g =
        let same : command_headers packet ≡ h = ap (λ (r : Result (TcHeader × List ℕ) PacketFault). header_of r h) g in
        let enough = enough-octets t.widths.tc_checksum packet q in
        (omega (arith, enough), sym (count-in-front packet enough) ∙ ap (λ (x : TcHeader). x.count) same)
    go (Some f) q g = cc
