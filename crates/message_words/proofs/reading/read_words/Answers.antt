use Rattle.std.proofs.Common.{◌≡◌}
use Rattle.message_words.specs.Grammar.{IsOfGround}
use Rattle.message_words.specs.Words.{request_text}
use Rattle.message_words.specs.Reading.{request_in_words}
use Rattle.message_words.proofs.LinesOnly.{ok_from_gives}
use Rattle.message_words.proofs.reading.read_words.Goals as goal

pub returns-clause-grammar : goal.returns-clause-grammar
returns-clause-grammar c =
    let t = c.args.tailoring.now in
    let line = c.args.line.now in
    ok_from_gives c.request_in_line.result (request_in_words t line) (IsOfGround t) (λ r e. (c.words_are_read_back.ensures.only t line r c.widths-fit.ensures.fit e).0) c.request_in_line.ensures

pub returns-clause-words : goal.returns-clause-words
returns-clause-words c =
    let t = c.args.tailoring.now in
    let line = c.args.line.now in
    ok_from_gives c.request_in_line.result (request_in_words t line) (λ r. request_text r ≡ line) (λ r e. (c.words_are_read_back.ensures.only t line r c.widths-fit.ensures.fit e).1) c.request_in_line.ensures
