use Rattle.std.proofs.Common.{refl}
use Rattle.board_core.proofs.RunLemmas.{answers-made, refused-run}
use Rattle.board_core.proofs.laws.answers_make_runs.Goals as goal

pub returns-clause-begins : goal.returns-clause-begins
returns-clause-begins c t = refl

pub returns-clause-makes : goal.returns-clause-makes
returns-clause-makes c before event after count comes answers = answers-made before event after count comes answers

pub returns-clause-goes_on : goal.returns-clause-goes_on
returns-clause-goes_on c t earlier before event after count run comes answers = (before, run, answers-made before event after count comes answers)

pub returns-clause-refused : goal.returns-clause-refused
returns-clause-refused c t earlier before event after fault run answers = refused-run t earlier before event after fault run answers
