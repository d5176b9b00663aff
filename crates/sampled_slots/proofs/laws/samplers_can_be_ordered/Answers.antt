use Rattle.sampled_slots.proofs.OrderLemmas.{all-fresh, all-can, places-more, stayed-first, stayed-more}
use Rattle.sampled_slots.proofs.laws.samplers_can_be_ordered.Goals as goal

pub returns-clause-fresh : goal.returns-clause-fresh
returns-clause-fresh g c = all-fresh c.orders_are_due.ensures.due c.orders_are_due.ensures.distinct c.orders_are_due.ensures.apart

pub returns-clause-orders : goal.returns-clause-orders
returns-clause-orders g c = all-can c.orders_are_due.ensures.due

pub returns-clause-places : goal.returns-clause-places
returns-clause-places g c = places-more g.N.Sensor

pub returns-clause-first : goal.returns-clause-first
returns-clause-first g c = stayed-first g.N.Sensor

pub returns-clause-stayed : goal.returns-clause-stayed
returns-clause-stayed g c = stayed-more g.N.Sensor
