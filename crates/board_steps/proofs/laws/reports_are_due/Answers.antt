use Rattle.board_steps.proofs.ReportLemmas.{step-told, place-sampled, all-sampled}
use Rattle.board_steps.proofs.laws.reports_are_due.Goals as goal

pub returns-clause-due : goal.returns-clause-due
returns-clause-due c before event after new made adds = step-told before event after new made adds

pub returns-clause-sampled : goal.returns-clause-sampled
returns-clause-sampled c before after fit made place = place-sampled before after fit made place

pub returns-clause-complete : goal.returns-clause-complete
returns-clause-complete c before after fit step d = all-sampled before after fit step d
