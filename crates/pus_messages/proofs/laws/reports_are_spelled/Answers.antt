use Rattle.pus_messages.proofs.SpellingLemmas.{ReportsAgain, ReportsOnly, report-again, report-only}
use Rattle.pus_messages.proofs.laws.reports_are_spelled.Goals as goal

pub returns-clause-again : goal.returns-clause-again
returns-clause-again c t r octets fit are =
    let known : ReportsAgain t =
    record {
      verification = λ v is. c.reports_are_spelled.ensures.again t v fit.widths.count_octets.0 is;
      housekeeping = c.reports_are_spelled-2.ensures.again t;
      statistics = λ v is. c.reports_are_spelled-3.ensures.again t v fit is;
      values = λ v is. c.reports_are_spelled-4.ensures.again t v fit is;
    } in
    report-again t (c.packets.ensures.reports t) known r octets are

pub returns-clause-only : goal.returns-clause-only
returns-clause-only c t r octets are =
    let known : ReportsOnly t =
    record {
      verification = c.reports_are_spelled.ensures.only t;
      housekeeping = c.reports_are_spelled-2.ensures.only t;
      statistics = c.reports_are_spelled-3.ensures.only t;
      values = c.reports_are_spelled-4.ensures.only t;
    } in
    report-only t (c.packets.ensures.reports t) known r octets are
