-- Packets that are written part by part.
use Rattle.std.proofs.Common.{◌≡◌, refl, ℕ, ◌+◌, List, [], ◌∷◌, ◌++◌, length, Bool}
use Rattle.hk_base.specs.Fields.{octets_of}
use Rattle.pus_packet.specs.Packets.{checksum_octets}
use Rattle.pus_packet.specs.Joining.{with_checksum, primary_octets, command_packet, report_packet}
use Rattle.pus_packet.specs.declared.header.TcHeader.{TcHeader}
use Rattle.pus_packet.specs.declared.header.TmHeader.{TmHeader}

pub command_parts : (checksum : Bool) (h : TcHeader) (body : List ℕ) (claimed : ℕ) (a b c d e f : List ℕ)
    → a ≡ []
    → b ≡ a ++ primary_octets 0x1800 h.apid h.count claimed
    → c ≡ b ++ (0x20 + h.flags) ∷ h.service ∷ h.subtype ∷ []
    → d ≡ c ++ octets_of 2 h.source
    → e ≡ d ++ body
    → f ≡ with_checksum checksum e
    → claimed ≡ 4 + length body + checksum_octets checksum
    → f ≡ command_packet checksum h body
command_parts checksum h body claimed a b c d e f pa pb pc pd pe pf size = rw (pf, pe, pd, pc, pb, pa, size) refl

pub report_parts : (checksum : Bool) (time : ℕ) (h : TmHeader) (body : List ℕ) (claimed : ℕ) (a b c d e f g i : List ℕ)
    → a ≡ []
    → b ≡ a ++ primary_octets 0x800 h.apid h.count claimed
    → c ≡ b ++ (0x20 + h.status) ∷ h.service ∷ h.subtype ∷ []
    → d ≡ c ++ octets_of 2 h.counter
    → e ≡ d ++ octets_of 2 h.destination
    → f ≡ e ++ octets_of time h.tag
    → g ≡ f ++ body
    → i ≡ with_checksum checksum g
    → claimed ≡ 6 + time + length body + checksum_octets checksum
    → i ≡ report_packet checksum time h body
report_parts checksum time h body claimed a b c d e f g i pa pb pc pd pe pf pg pi size = rw (pi, pg, pf, pe, pd, pc, pb, pa, size) refl
