use Rattle.std.proofs.Common.{take, flat_map}
use Rattle.std.specs.List.{enumerate_from}
use Rattle.verdict_tables.specs.Collecting.{Collects, sent_places}
use Rattle.verdict_tables.proofs.collecting.add_requests.Given as goal

abbrev pub invariant-loop-number : goal.invariant-loop-number
invariant-loop-number l = Collects l.fn.places l.places (λ key. flat_map (sent_places l.history.history key) (take l.number (enumerate_from 0 l.history.history.requests)))
