use Rattle.session_texts.proofs.ProblemLemmas.{entries_taken, record_taken}
use Rattle.session_texts.proofs.laws.records_of_worlds_have_no_problem.Goals as goal

pub returns-clause-entries : goal.returns-clause-entries
returns-clause-entries c = entries_taken

pub returns-clause-octets : goal.returns-clause-octets
returns-clause-octets c = record_taken
