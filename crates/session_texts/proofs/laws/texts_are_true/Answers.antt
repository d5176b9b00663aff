use Rattle.session_texts.proofs.TruthLemmas.{texts_true, known_texts, reasons_true, known_reasons}
use Rattle.session_texts.proofs.laws.texts_are_true.Goals as goal

pub returns-clause-entries : goal.returns-clause-entries
returns-clause-entries c = texts_true

pub returns-clause-known : goal.returns-clause-known
returns-clause-known c = known_texts

pub returns-clause-reasons : goal.returns-clause-reasons
returns-clause-reasons c = reasons_true

pub returns-clause-known_reasons : goal.returns-clause-known_reasons
returns-clause-known_reasons c = known_reasons
