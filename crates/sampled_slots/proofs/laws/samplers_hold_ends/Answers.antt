use Rattle.sampled_slots.proofs.OrderLemmas.{samplers-paired, ends-paired, same-seats, settled-out, new-paired, new-out}
use Rattle.sampled_slots.proofs.laws.samplers_hold_ends.Goals as goal

pub returns-clause-samplers : goal.returns-clause-samplers
returns-clause-samplers g c = samplers-paired

pub returns-clause-ends : goal.returns-clause-ends
returns-clause-ends g c = ends-paired

pub returns-clause-settled : goal.returns-clause-settled
returns-clause-settled g c = settled-out

pub returns-clause-new_ends : goal.returns-clause-new_ends
returns-clause-new_ends g c rings ends h = (new-paired rings ends h, new-out rings ends h)

pub returns-clause-same : goal.returns-clause-same
returns-clause-same g c = same-seats
