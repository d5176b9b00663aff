use Rattle.message_words.proofs.LineLemmas.{split-words, ascii-words}
use Rattle.message_words.proofs.laws.lines_are_divided.Goals as goal

pub returns-clause-words : goal.returns-clause-words
returns-clause-words c = split-words

pub returns-clause-ascii : goal.returns-clause-ascii
returns-clause-ascii c = ascii-words
