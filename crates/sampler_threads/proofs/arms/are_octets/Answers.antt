use Rattle.std.proofs.Common.{arith}
use Rattle.body_fields.proofs.BodyLemmas.{octets_below}
use Rattle.sampler_threads.proofs.arms.are_octets.Goals as goal

pub returns : goal.returns
returns c = octets_below c.args.octets.now (λ i. omega (arith, c.type_inv.octets i))
