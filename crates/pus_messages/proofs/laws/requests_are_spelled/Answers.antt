use Rattle.pus_messages.proofs.SpellingLemmas.{RequestsAgain, RequestsOnly, request-again, request-only}
use Rattle.pus_messages.proofs.laws.requests_are_spelled.Goals as goal

pub returns-clause-again : goal.returns-clause-again
returns-clause-again c t r octets fit are =
    let known : RequestsAgain t =
    record {
      housekeeping = c.requests_are_spelled.ensures.again t;
      statistics = λ v is. c.requests_are_spelled-2.ensures.again t v fit is;
      values = λ v is. c.requests_are_spelled-3.ensures.again t v fit is;
    } in
    request-again t (c.packets.ensures.requests t) known r octets are

pub returns-clause-only : goal.returns-clause-only
returns-clause-only c t r octets are =
    let known : RequestsOnly t =
    record {
      housekeeping = c.requests_are_spelled.ensures.only t;
      statistics = c.requests_are_spelled-2.ensures.only t;
      values = c.requests_are_spelled-3.ensures.only t;
    } in
    request-only t (c.packets.ensures.requests t) known r octets are
