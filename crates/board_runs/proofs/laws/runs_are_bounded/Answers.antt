use Rattle.board_runs.proofs.BoundLemmas.{run-bounded, run-tags, next-bounded, room-unstopped, begun-tailoring}
use Rattle.board_runs.proofs.laws.runs_are_bounded.Goals as goal

pub returns-clause-moments : goal.returns-clause-moments
returns-clause-moments c t s slots core fit script le ran = run-bounded t s slots core fit (c.requests_are_spelled.ensures.only t) script.sendings le ran

pub returns-clause-tags : goal.returns-clause-tags
returns-clause-tags c t s slots core fit script le ran = run-tags t s slots core fit (c.requests_are_spelled.ensures.only t) script.sendings le ran

pub returns-clause-next : goal.returns-clause-next
returns-clause-next c t s slots moments ahead core event later fit script lt began comes =
    (next-bounded t s slots moments ahead core event later fit (c.requests_are_spelled.ensures.only t) script.sendings lt began comes).moments

pub returns-clause-next_tags : goal.returns-clause-next_tags
returns-clause-next_tags c t s slots moments ahead core event later fit script lt began comes =
    (next-bounded t s slots moments ahead core event later fit (c.requests_are_spelled.ensures.only t) script.sendings lt began comes).tags

pub returns-clause-unstopped : goal.returns-clause-unstopped
returns-clause-unstopped c t s slots moments ahead core event later fit script room lt began comes =
    let only = c.requests_are_spelled.ensures.only t in
    room-unstopped t s core event (begun-tailoring t s slots moments ahead core fit only script.sendings began) room
    (next-bounded t s slots moments ahead core event later fit only script.sendings lt began comes)
