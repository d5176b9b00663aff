use Rattle.std.proofs.Common.{◌∙◌, sym}
use Rattle.sample_slots.proofs.ReadingLemmas.{goes-simple}
use Rattle.sample_slots.proofs.payload.read_simple.Goals as goal

pub returns-clause-values : goal.returns-clause-values
returns-clause-values c =
    goes-simple (λ rest. rest.now) c.args.tailoring.now c.args.values.now.items c.read_group.new.values.items c.args.ids.now c.args.bytes.now c.read_group.result (sym c.is_empty.ensures ∙ c.if-is_empty.false) c.requires.start
    (c.read_group.ensures.values 0)
