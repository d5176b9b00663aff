use Rattle.board_steps.proofs.RunLemmas.{run-legal, run-honest, run-ground, stands-ground, run-tailoring, run-stands, new-stands, step-stands}
use Rattle.board_steps.proofs.laws.boards.Goals as goal

pub returns-clause-legal : goal.returns-clause-legal
returns-clause-legal c t events core fit = run-legal t events core fit (c.requests_are_spelled.ensures.only t)

pub returns-clause-honest : goal.returns-clause-honest
returns-clause-honest c t events core fit = run-honest t events core fit (c.requests_are_spelled.ensures.only t)

pub returns-clause-ground_legal : goal.returns-clause-ground_legal
returns-clause-ground_legal c t events core known other fit run agree =
    (run-ground t events core known other fit (c.requests_are_spelled.ensures.only t) run agree).0

pub returns-clause-ground_honest : goal.returns-clause-ground_honest
returns-clause-ground_honest c t events core known other fit run agree =
    (run-ground t events core known other fit (c.requests_are_spelled.ensures.only t) run agree).1

pub returns-clause-happens : goal.returns-clause-happens
returns-clause-happens c core known other stands agree = stands-ground core known other stands agree

pub returns-clause-tailoring : goal.returns-clause-tailoring
returns-clause-tailoring c t events core run = run-tailoring t events core run

pub returns-clause-stands : goal.returns-clause-stands
returns-clause-stands c t events core fit run = run-stands t events core fit (c.requests_are_spelled.ensures.only t) run

pub returns-clause-begins : goal.returns-clause-begins
returns-clause-begins c t = new-stands t

pub returns-clause-goes_on : goal.returns-clause-goes_on
returns-clause-goes_on c before event after fit stands made = step-stands before event after fit (c.requests_are_spelled.ensures.only before.tailoring) stands made
