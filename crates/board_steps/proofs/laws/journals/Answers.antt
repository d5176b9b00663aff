use Rattle.std.proofs.Common.{subst, sym}
use Rattle.hk_base.specs.Fit.{IsFit}
use Rattle.board_steps.proofs.RunLemmas.{run-stands, run-tailoring}
use Rattle.board_steps.proofs.JournalLemmas.{stands-journal}
use Rattle.board_steps.proofs.laws.journals.Goals as goal

pub returns-clause-bounded : goal.returns-clause-bounded
returns-clause-bounded c t events core fit run =
    stands-journal core (subst IsFit (sym (run-tailoring t events core run)) fit)
    (c.requests_are_spelled.ensures.only core.tailoring) (c.reports_are_spelled.ensures.only core.tailoring)
    (run-stands t events core fit (c.requests_are_spelled.ensures.only t) run)

pub returns-clause-stands : goal.returns-clause-stands
returns-clause-stands c core fit stands =
    stands-journal core fit (c.requests_are_spelled.ensures.only core.tailoring) (c.reports_are_spelled.ensures.only core.tailoring) stands
