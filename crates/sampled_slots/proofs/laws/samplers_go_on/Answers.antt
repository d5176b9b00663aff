use Rattle.sampled_slots.proofs.BetweenLemmas.{between-first, between-count, between-ordered, between-ready, between-next, between-part}
use Rattle.sampled_slots.proofs.laws.samplers_go_on.Goals as goal

pub returns-clause-begin : goal.returns-clause-begin
returns-clause-begin g c = between-first g.N.Sensor

pub returns-clause-count : goal.returns-clause-count
returns-clause-count g c = between-count g.N.Sensor

pub returns-clause-ordered : goal.returns-clause-ordered
returns-clause-ordered g c = between-ordered g.N.Sensor

pub returns-clause-ready : goal.returns-clause-ready
returns-clause-ready g c = between-ready g.N.Sensor c.orders_are_due.ensures.due c.orders_are_due.ensures.distinct c.orders_are_due.ensures.apart

pub returns-clause-next : goal.returns-clause-next
returns-clause-next g c = between-next g.N.Sensor

pub returns-clause-part : goal.returns-clause-part
returns-clause-part g c = between-part g.N.Sensor
