use Rattle.st04_grammar.proofs.SpellingLemmas.{numeric_known}
use Rattle.st04_grammar.proofs.fields.write_ids.Goals as goal

pub write_list-requires-clause-members : goal.write_list-requires-clause-members
write_list-requires-clause-members c = numeric_known c.args.tailoring.now 0 c.args.ids.now c.requires
