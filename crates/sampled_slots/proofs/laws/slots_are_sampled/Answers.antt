use Rattle.sampled_slots.proofs.OrderLemmas.{all-filed, all-filed-part}
use Rattle.sampled_slots.proofs.SeatLemmas.{all-whole, all-sure, all-part}
use Rattle.sampled_slots.proofs.laws.slots_are_sampled.Goals as goal

pub returns-clause-whole : goal.returns-clause-whole
returns-clause-whole g c = all-whole g.N.Sensor

pub returns-clause-sure : goal.returns-clause-sure
returns-clause-sure g c = all-sure g.N.Sensor

pub returns-clause-part : goal.returns-clause-part
returns-clause-part g c = all-part g.N.Sensor

pub returns-clause-filed : goal.returns-clause-filed
returns-clause-filed g c t before after moments samplers later done h = all-filed g.N.Sensor t before after moments samplers done later h

pub returns-clause-filed_part : goal.returns-clause-filed_part
returns-clause-filed_part g c t before after moments samplers done h = all-filed-part g.N.Sensor t before after moments samplers done h
