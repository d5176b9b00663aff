-- A packet is split into the headers and the body that it was joined of.
use Rattle.std.proofs.Common.{arith, ◌≡◌, refl, sym, ap, ◌∙◌, ℕ, ◌+◌, ◌-◌, ◌^◌, ◌<◌, ◌≤◌, List, ◌∷◌, ◌++◌, length, length-append, append_assoc, Bool, true, false, None, Result, Ok, take, drop}
use Rattle.std.specs.Prelude.{slice_index, slice_range}
use Rattle.std.proofs.Math.Seq.{take-append_seam, drop-append_seam}
use Rattle.std.proofs.Math.Nat.{mod-eq_of_lt}
use Rattle.std.proofs.lemmas.List.{take_all, drop-drop}
use Rattle.hk_base.specs.Fields.{octets_of, number_of}
use Rattle.hk_base.proofs.FieldLemmas.{number-digits, length-digits}
use Rattle.pus_packet.specs.Packets.{crc, checksum_octets, checked_part, checksum_fault, packet_fault, command_headers, unless_fault, process, sequence_count, low_half, word_at}
use Rattle.pus_packet.specs.Joining.{command_packet, report_packet, most_octets, IsCommand, IsReport}
use Rattle.pus_packet.specs.declared.header.TcHeader.{TcHeader}
use Rattle.pus_packet.specs.declared.header.TmHeader.{TmHeader}
use Rattle.pus_packet.specs.declared.header.PacketFault.{PacketFault}
use Rattle.pus_packet.proofs.Lengths.{command_length, report_length}
use Rattle.pus_packet.proofs.Checksums as checksums
use Rattle.pus_packet.proofs.Fronts.{front, front-again, first-word, second-word, word-two, process-again, count-again, half-again}

-- the front of a request packet, and what follows its headers
abbrev pub command : TcHeader → ℕ → List ℕ → List ℕ
command h claimed tail = front true h.apid h.count claimed h.flags (h.service ∷ h.subtype ∷ octets_of 2 h.source ++ tail)

command-headers : (h : TcHeader) (claimed : ℕ) (tail : List ℕ) → IsCommand h → command_headers (command h claimed tail) ≡ h
command-headers h claimed tail is =
    rw (first-word true h.apid is.apid, second-word h.count is.count, word-two h.source is.source, process-again true h.apid is.apid, count-again h.count is.count, half-again h.flags is.flags) refl

-- what octets are split into, with a checksum or without one
abbrev pub command_by : Bool → List ℕ → Result (TcHeader × List ℕ) PacketFault
command_by on octets = unless_fault (packet_fault 1 11 on octets) (command_headers octets, drop 11 (checked_part on octets))

abbrev pub command_parts : TcHeader → List ℕ → TcHeader × List ℕ
command_parts h body = (h, body)

command-again : (on : Bool) (h : TcHeader) (claimed : ℕ) (tail body : List ℕ)
    → IsCommand h
    → claimed ≡ 4 + length tail
    → claimed < 2 ^ 16
    → checksum_octets on ≤ length tail
    → checksum_fault on (command h claimed tail) ≡ None
    → checked_part on (command h claimed tail) ≡ command h claimed body
    → command_by on (command h claimed tail) ≡ Ok (command_parts h body)
command-again on h claimed tail body is size fits room none checked =
    let rest = h.service ∷ h.subtype ∷ octets_of 2 h.source ++ tail in
    let stands = front-again true h.apid h.count claimed h.flags (11 + checksum_octets on) rest is.apid is.count is.flags fits (omega (arith, size)) (omega (arith, room)) in
    rw (stands, none, command-headers h claimed tail is, checked) refl

-- A request packet is split into what it was joined of.
pub command-joined : (on : Bool) (h : TcHeader) (body : List ℕ) → IsCommand h → length (command_packet on h body) ≤ most_octets
    → command_by on (command_packet on h body) ≡ Ok (command_parts h body)
command-joined false h body is small =
    let claimed = 4 + length body + 0 in
    command-again false h claimed body body is (omega arith) (omega (arith, small, command_length false h body)) (omega arith) refl
    (take_all (length (command h claimed body) - 0) (command h claimed body) (omega arith))
command-joined true h body is small =
    let claimed = 4 + length body + 2 in
    let octets = command h claimed body in
    let sum = octets_of 2 (crc octets) in
    let two = length-append body sum in
    command-again true h claimed (body ++ sum) body is (omega (arith, two)) (omega (arith, small, command_length true h body)) (omega (arith, two)) (checksums.checksum-again octets)
    (checksums.front-again octets sum refl)

-- the front of a report packet, and what follows its headers
abbrev pub report : ℕ → TmHeader → ℕ → List ℕ → List ℕ
report time h claimed tail =
    front false h.apid h.count claimed h.status (h.service ∷ h.subtype ∷ octets_of 2 h.counter ++ (octets_of 2 h.destination ++ (octets_of time h.tag ++ tail)))

-- the headers of a report whose time has so many octets
abbrev pub headers_by : ℕ → List ℕ → TmHeader
headers_by time octets =
    record {
      apid = process octets;
      count = sequence_count octets;
      status = low_half octets;
      service = slice_index octets 7;
      subtype = slice_index octets 8;
      counter = word_at 9 octets;
      destination = word_at 11 octets;
      tag = number_of (slice_range octets 13 (13 + time));
    }

-- what octets are split into, with a checksum or without one
abbrev pub report_by : Bool → ℕ → List ℕ → Result (TmHeader × List ℕ) PacketFault
report_by on time octets = unless_fault (packet_fault 0 (13 + time) on octets) (headers_by time octets, drop (13 + time) (checked_part on octets))

abbrev pub report_parts : TmHeader → List ℕ → TmHeader × List ℕ
report_parts h body = (h, body)

-- the octets of a number stand before others
number-first : (count n : ℕ) (rest : List ℕ) → n < 256 ^ count → number_of (take (13 + count - 13) (octets_of count n ++ rest)) ≡ n
number-first count n rest fits =
    let places : 13 + count - 13 ≡ length (octets_of count n) = omega (arith, length-digits 256 count n) in
    ap (λ k. number_of (take k (octets_of count n ++ rest))) places
    ∙ (ap number_of (take-append_seam (octets_of count n) rest) ∙ (number-digits 256 count n (omega arith) ∙ mod-eq_of_lt fits))

-- what follows so many octets
rest-again : (count n : ℕ) (rest : List ℕ) → drop count (octets_of count n ++ rest) ≡ rest
rest-again count n rest = ap (λ k. drop k (octets_of count n ++ rest)) (sym (length-digits 256 count n)) ∙ drop-append_seam (octets_of count n) rest

report-headers : (time : ℕ) (h : TmHeader) (claimed : ℕ) (tail : List ℕ) → IsReport time h → headers_by time (report time h claimed tail) ≡ h
report-headers time h claimed tail is =
    let counter = word-two h.counter is.counter in
    let destination = word-two h.destination is.destination in
    let tag = number-first time h.tag tail is.tag in
    rw (first-word false h.apid is.apid, second-word h.count is.count, counter, destination, tag, process-again false h.apid is.apid, count-again h.count is.count, half-again h.status is.status) refl

report-again : (on : Bool) (time : ℕ) (h : TmHeader) (claimed : ℕ) (tail body : List ℕ)
    → IsReport time h
    → claimed ≡ 6 + time + length tail
    → claimed < 2 ^ 16
    → checksum_octets on ≤ length tail
    → checksum_fault on (report time h claimed tail) ≡ None
    → checked_part on (report time h claimed tail) ≡ report time h claimed body
    → report_by on time (report time h claimed tail) ≡ Ok (report_parts h body)
report-again on time h claimed tail body is size fits room none checked =
    let rest = h.service ∷ h.subtype ∷ octets_of 2 h.counter ++ (octets_of 2 h.destination ++ (octets_of time h.tag ++ tail)) in
    let many : length rest ≡ 6 + time + length tail = omega (arith, length-append (octets_of time h.tag) tail, length-digits 256 time h.tag) in
    let stands = front-again false h.apid h.count claimed h.status (13 + time + checksum_octets on) rest is.apid is.count is.status fits (omega (arith, size, many)) (omega (arith, room, many)) in
    let behind : drop (13 + time) (report time h claimed body) ≡ body = sym (drop-drop time 13 (report time h claimed body)) ∙ rest-again time h.tag body in
    rw (stands, none, report-headers time h claimed tail is, checked, behind) refl

-- A report packet is split into what it was joined of.
pub report-joined : (on : Bool) (time : ℕ) (h : TmHeader) (body : List ℕ) → IsReport time h → length (report_packet on time h body) ≤ most_octets
    → report_by on time (report_packet on time h body) ≡ Ok (report_parts h body)
report-joined false time h body is small =
    let claimed = 6 + time + length body + 0 in
    report-again false time h claimed body body is (omega arith) (omega (arith, small, report_length false time h body)) (omega arith) refl
    (take_all (length (report time h claimed body) - 0) (report time h claimed body) (omega arith))
report-joined true time h body is small =
    let claimed = 6 + time + length body + 2 in
    let octets = report time h claimed body in
    let sum = octets_of 2 (crc octets) in
    let two = length-append body sum in
    let regrouped : octets ++ sum ≡ report time h claimed (body ++ sum) =
    ap (λ tail. front false h.apid h.count claimed h.status (h.service ∷ h.subtype ∷ octets_of 2 h.counter ++ (octets_of 2 h.destination ++ tail))) (append_assoc (octets_of time h.tag) body sum) in
    ap (report_by true time) regrouped
    ∙ report-again true time h claimed (body ++ sum) body is (omega (arith, two)) (omega (arith, small, report_length true time h body)) (omega (arith, two))
    (ap (checksum_fault true) (sym regrouped) ∙ checksums.checksum-again octets)
    (ap (checked_part true) (sym regrouped) ∙ checksums.front-again octets sum refl)
