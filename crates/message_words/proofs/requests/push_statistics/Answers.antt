use Rattle.message_words.proofs.requests.push_statistics.Goals as goal

pub returns-in-Enable : goal.returns-in-Enable
returns-in-Enable c = rw c.in-Enable.is c.push_named.ensures

pub returns-in-Disable : goal.returns-in-Disable
returns-in-Disable c = rw c.in-Disable.is c.push_word-in-Disable.ensures

pub returns-in-ShowDefinitions : goal.returns-in-ShowDefinitions
returns-in-ShowDefinitions c = rw c.in-ShowDefinitions.is c.push_word-in-ShowDefinitions.ensures
