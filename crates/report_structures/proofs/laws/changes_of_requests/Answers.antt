use Rattle.report_structures.proofs.GrammarLemmas.{instruction_of_grammar}
use Rattle.report_structures.proofs.laws.changes_of_requests.Goals as goal

pub returns : goal.returns
returns c = instruction_of_grammar
