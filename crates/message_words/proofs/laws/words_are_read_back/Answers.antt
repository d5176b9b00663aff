use Rattle.message_words.proofs.LinesAgain.{request-again}
use Rattle.message_words.proofs.LinesOnly.{request-only}
use Rattle.message_words.proofs.laws.words_are_read_back.Goals as goal

pub returns-clause-again : goal.returns-clause-again
returns-clause-again c =
    λ t r fit is.
    request-again t r fit
    (record {
      housekeeping = c.requests_are_spelled.ensures.again t;
      statistics = λ v of. c.requests_are_spelled-2.ensures.again t v fit of;
      values = λ v of. c.requests_are_spelled-3.ensures.again t v fit of;
    })
    is

pub returns-clause-only : goal.returns-clause-only
returns-clause-only c =
    λ t line r fit e.
    request-only t line r fit
    (record {
      housekeeping = c.requests_are_spelled.ensures.only t;
      statistics = c.requests_are_spelled-2.ensures.only t;
      values = c.requests_are_spelled-3.ensures.only t;
    })
    e
