use Rattle.std.proofs.Common.{◌≡◌, true, rules}
use Rattle.message_words.specs.Reading.{is_ascii}
use Rattle.message_words.proofs.LineLemmas.{ascii-utf8}
use Rattle.message_words.proofs.lines.ascii_text.Goals as goal

pub returns-in-Err : goal.returns-in-Err
returns-in-Err c =
    let ascii : is_ascii c.args.line.now ≡ true = search rules in
    absurd (c.in-Err.ensures.cases.0 (ascii-utf8 c.args.line.now ascii))
