use Rattle.std.proofs.Common.{◌∙◌, ap, subst, ◌≤◌, length}
use Rattle.pus_packet.specs.Packets.{time_octets}
use Rattle.pus_packet.specs.Joining.{most_octets}
use Rattle.pus_packet.proofs.JoiningLemmas.{command_by, command-joined, report_by, report-joined}
use Rattle.pus_packet.proofs.SplittingLemmas.{command-split, report-split}
use Rattle.pus_packet.proofs.laws.packets.Goals as goal

pub returns-clause-requests : goal.returns-clause-requests
returns-clause-requests c t h body octets are =
    let on = t.widths.tc_checksum in
    (command-split on h body octets are, λ packet. ap (command_by on) packet.spelling ∙ command-joined on h body packet.headers (subst (λ xs. length xs ≤ most_octets) packet.spelling packet.size))

pub returns-clause-reports : goal.returns-clause-reports
returns-clause-reports c t h body octets are =
    let on = t.widths.tm_checksum in
    let time = time_octets t in
    (report-split on time h body octets are, λ packet. ap (report_by on time) packet.spelling ∙ report-joined on time h body packet.headers (subst (λ xs. length xs ≤ most_octets) packet.spelling packet.size))
