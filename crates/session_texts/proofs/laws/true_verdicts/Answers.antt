use Rattle.session_texts.proofs.SettledLemmas.{settled_decided, unopened_said}
use Rattle.session_texts.proofs.laws.true_verdicts.Goals as goal

pub returns-clause-settled : goal.returns-clause-settled
returns-clause-settled c = settled_decided

pub returns-clause-unopened : goal.returns-clause-unopened
returns-clause-unopened c = unopened_said

pub returns-clause-opened : goal.returns-clause-opened
returns-clause-opened c = λ w key tag h. h
