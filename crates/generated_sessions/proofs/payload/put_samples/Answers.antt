use Rattle.std.proofs.Common.{◌++◌, sym, ap, ◌∙◌}
use Rattle.hk_base.specs.Fields.{octets_of}
use Rattle.hk_base.specs.Payload.{places}
use Rattle.generated_sessions.specs.Generated.{sample_octets}
use Rattle.generated_sessions.proofs.Samples.{sample_more}
use Rattle.generated_sessions.proofs.payload.put_samples.Goals as goal

pub loop-number-preserved : goal.loop-number-preserved
loop-number-preserved c =
    sample_more (sample_octets c.args.seed) (places c.args.def.now c.args.last) c.loop-number.number c.in-Some.place c.args.out.now.items
    c.loop-number.out.items
    c.put_uint.new.out.items (sym c.in-Some.ensures)
    (c.in_ok-put_uint.ensures.ok ∙ ap (λ n. c.loop-number.out.items ++ octets_of 2 n) c.sample.ensures.sample) c.loop-number.invariant
