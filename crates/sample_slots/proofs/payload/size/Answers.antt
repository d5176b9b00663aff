use Rattle.sample_slots.proofs.Sampled.{is-sampled}
use Rattle.sample_slots.proofs.payload.size.Goals as goal

pub returns-clause-sampled : goal.returns-clause-sampled
returns-clause-sampled c = is-sampled c.args.tailoring.now c.args.def.now c.payload_size.ensures.fit.widths c.requires
