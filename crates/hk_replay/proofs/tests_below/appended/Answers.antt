use Rattle.std.proofs.Common.{sym}
use Rattle.st03_grammar.specs.Instructions.{change_of}
use Rattle.hk_replay.proofs.tests_below.appended.Goals as goal

pub apply-requires-clause-grammar : goal.apply-requires-clause-grammar
apply-requires-clause-grammar c =
    c.changes_of_requests.ensures c.args.tailoring.now c.in-Ok.request 1 c.in-Some.field-0-0 (change_of c.in-Some.change) c.in-Ok.ensures.found.2 (sym c.in-Some.ensures)
