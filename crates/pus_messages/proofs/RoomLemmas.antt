-- The payload of a report that was read is no longer than its packet.
use Rattle.std.proofs.Common.{arith, ℕ, ◌+◌, ◌≤◌, ◌^◌, List, ◌∷◌, ◌++◌, length, length-append, ap, ◌≡◌, Bool, true, false, Result, Ok, Err, subst}
use Rattle.std.specs.Prelude.{IfOk}
use Rattle.hk_base.specs.TailoringParts.{TailoringParts}
use Rattle.hk_base.specs.Fields.{octets_of}
use Rattle.hk_base.specs.declared.types.Key.{Key}
use Rattle.body_fields.specs.Spelling.{structure_octets}
use Rattle.pus_packet.specs.Packets.{crc, checksum_octets, time_octets}
use Rattle.pus_packet.specs.Joining as joining
use Rattle.pus_packet.specs.Joining.{with_checksum, primary_octets, most_octets}
use Rattle.pus_packet.specs.declared.header.TmHeader.{TmHeader}
use Rattle.st03_grammar.specs.declared.bodies.Report03.TheVariants as told
use Rattle.pus_messages.specs.Spelling.{IsReportPacket, report_octets, HasRoom}
use Rattle.pus_messages.specs.declared.message.MessageFault.{MessageFault}
use Rattle.pus_messages.specs.declared.message.Report.{Report}
use Rattle.pus_messages.specs.declared.message.ReportBody.{ReportBody}
use Rattle.pus_messages.specs.declared.message.ReportBody.TheVariants.{Verify, Hk, Stat, Par}

-- octets with their checksum are no fewer
checksum-longer : (checksum : Bool) (octets : List ℕ) → length octets ≤ length (with_checksum checksum octets)
checksum-longer true octets = omega (arith, length-append octets (octets_of 2 (crc octets)))
checksum-longer false octets = omega arith

cons-longer : (octet : ℕ) (octets : List ℕ) → length octets ≤ length (octet ∷ octets)
cons-longer octet octets = omega arith

-- a body is no longer than its packet
body-shorter : (checksum : Bool) (time : ℕ) (h : TmHeader) (body : List ℕ) → length body ≤ length (joining.report_packet checksum time h body)
body-shorter checksum time h body =
    let front = primary_octets 0x800 h.apid h.count (6 + time + length body + checksum_octets checksum) in
    let tagged = octets_of time h.tag ++ body in
    let addressed = octets_of 2 h.destination ++ tagged in
    let counted = octets_of 2 h.counter ++ addressed in
    let fourth = h.subtype ∷ counted in
    let third = h.service ∷ fourth in
    let second = (0x20 + h.status) ∷ third in
    let a : length tagged ≡ length (octets_of time h.tag) + length body = length-append (octets_of time h.tag) body in
    let b : length addressed ≡ length (octets_of 2 h.destination) + length tagged = length-append (octets_of 2 h.destination) tagged in
    let c : length counted ≡ length (octets_of 2 h.counter) + length addressed = length-append (octets_of 2 h.counter) addressed in
    let d : length (front ++ second) ≡ length front + length second = length-append front second in
    let e : length (front ++ second) ≤ length (with_checksum checksum (front ++ second)) = checksum-longer checksum (front ++ second) in
    omega (arith, a, b, c, d, e, cons-longer h.subtype counted, cons-longer h.service fourth, cons-longer (0x20 + h.status) third)

-- a payload is no longer than its packet
payload-shorter : (t : TailoringParts) (h : TmHeader) (key : Key) (payload : List ℕ) → length payload ≤ length (joining.report_octets t h (structure_octets t key.id ++ payload))
payload-shorter t h key payload =
    let body = structure_octets t key.id ++ payload in
    let a : length body ≡ length (structure_octets t key.id) + length payload = length-append (structure_octets t key.id) payload in
    let b : length body ≤ length (joining.report_octets t h body) = body-shorter t.widths.tm_checksum (time_octets t) h body in
    omega (arith, a, b)

has-room : (t : TailoringParts) (h : TmHeader) (body : ReportBody) (octets : List ℕ) → IsReportPacket t (record { header = h; body = body }) octets → HasRoom body
has-room t h (Verify v) octets is = tt
has-room t h (Hk (told.Structure key structure)) octets is = tt
has-room t h (Hk (told.Periodic kind rows)) octets is = tt
has-room t h (Stat r) octets is = tt
has-room t h (Par r) octets is = tt
has-room t h (Hk (told.Values key payload)) octets is =
    let a : length octets ≡ length (joining.report_octets t h (structure_octets t key.id ++ payload)) = ap length is.spelling in
    let b : length octets ≤ most_octets = is.size in
    omega (arith, a, b, payload-shorter t h key payload)

-- a report that was read has room
pub room-found : (t : TailoringParts) (octets : List ℕ) (result : Result Report MessageFault) → IfOk result (λ r. IsReportPacket t r octets) → IfOk result (λ r. HasRoom r.body)
room-found t octets (Ok r) is = has-room t r.header r.body octets is
room-found t octets (Err fault) is = tt
