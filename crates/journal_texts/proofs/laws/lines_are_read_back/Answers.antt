use Rattle.journal_texts.proofs.MomentsAgain.{moment-again, moment-only}
use Rattle.journal_texts.proofs.laws.lines_are_read_back.Goals as goal

pub returns-clause-again : goal.returns-clause-again
returns-clause-again c =
    λ m is.
    moment-again
    (record {
      words = c.lines_are_divided.ensures.words;
      ascii = c.lines_are_divided.ensures.ascii;
    })
    (record {
      number = c.numbers_are_read_back.ensures.number;
      wide = c.numbers_are_read_back.ensures.wide;
      value = c.numbers_are_read_back.ensures.value;
      word = c.numbers_are_read_back.ensures.word;
      value_word = c.numbers_are_read_back.ensures.value_word;
    })
    m is

pub returns-clause-only : goal.returns-clause-only
returns-clause-only c = moment-only
