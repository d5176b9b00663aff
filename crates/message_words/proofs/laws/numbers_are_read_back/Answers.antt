use Rattle.message_words.proofs.NumberLemmas.{number_in-decimal, wide_number_in-decimal, value_in-text}
use Rattle.message_words.proofs.LineLemmas.{decimal-word, value-word}
use Rattle.message_words.proofs.laws.numbers_are_read_back.Goals as goal

pub returns-clause-number : goal.returns-clause-number
returns-clause-number c = number_in-decimal

pub returns-clause-wide : goal.returns-clause-wide
returns-clause-wide c = wide_number_in-decimal

pub returns-clause-value : goal.returns-clause-value
returns-clause-value c = value_in-text

pub returns-clause-word : goal.returns-clause-word
returns-clause-word c = decimal-word

pub returns-clause-value_word : goal.returns-clause-value_word
returns-clause-value_word c = value-word
