use Rattle.verdict_tables.specs.Places.{bound_places}
use Rattle.verdict_tables.specs.Collecting.{Collects, named_places}
use Rattle.verdict_tables.proofs.collecting.add_request.Given as goal

abbrev pub invariant-loop-key : goal.invariant-loop-key
invariant-loop-key l = Collects l.fn.places l.places (named_places (bound_places l.history.history l.number) l.yielded)
