use Rattle.board_steps.proofs.ClosingLemmas.{interval-due}
use Rattle.board_steps.proofs.IntervalLemmas.{whole-interval}
use Rattle.std.proofs.Common.{subst, sym}
use Rattle.hk_base.specs.Fit.{IsFit}
use Rattle.board_steps.proofs.RunLemmas.{run-stands, run-tailoring}
use Rattle.board_steps.proofs.DefinitionLemmas.{due-definition, run-last}
use Rattle.board_steps.proofs.ShotLemmas.{run-timed}
use Rattle.board_steps.proofs.laws.intervals.Goals as goal

pub returns-clause-whole : goal.returns-clause-whole
returns-clause-whole c core fit stands key x there due spent tag since = whole-interval core fit stands key x there due spent tag since

pub returns-clause-long : goal.returns-clause-long
returns-clause-long c core key x due = interval-due core key x due

pub returns-clause-shots : goal.returns-clause-shots
returns-clause-shots c t events core fit run = (run-timed t events core fit (c.requests_are_spelled.ensures.only t) run).shots

pub returns-clause-defined : goal.returns-clause-defined
returns-clause-defined c t events core fit run key x there due tag since =
    due-definition core (subst IsFit (sym (run-tailoring t events core run)) fit) (run-stands t events core fit (c.requests_are_spelled.ensures.only t) run)
    (run-last t events core fit (c.requests_are_spelled.ensures.only t) run) key x there due tag since
