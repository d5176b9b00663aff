use Rattle.std.proofs.Common.{arith, inr}
use Rattle.sampled_slots.specs.Seats.{sensors_of}
use Rattle.sampled_slots.proofs.CountLemmas.{slot-counted, slot-at-end, counted-more}
use Rattle.sampled_slots.proofs.laws.slots_are_counted.Goals as goal

pub returns-clause-counted : goal.returns-clause-counted
returns-clause-counted g c = slot-counted g.N.Sensor

pub returns-clause-first : goal.returns-clause-first
returns-clause-first g c t was = inr (omega arith)

pub returns-clause-more : goal.returns-clause-more
returns-clause-more g c t was slot moments slots samplers after fit some seats same filed counted =
    counted-more g.N.Sensor t was (sensors_of samplers) (sensors_of after) moments slots counted
    (slot-at-end g.N.Sensor t moments samplers after same filed)
    (slot-counted g.N.Sensor t was slot moments samplers after fit some seats same filed)
