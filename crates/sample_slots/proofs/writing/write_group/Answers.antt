use Rattle.std.proofs.Common.{sym, subst}
use Rattle.sample_slots.specs.Writing.{AreFitting}
use Rattle.sample_slots.proofs.WritingLemmas.{fit-enough, group-written}
use Rattle.sample_slots.proofs.writing.write_group.Goals as goal

pub split_at-requires : goal.split_at-requires
split_at-requires c = fit-enough c.args.tailoring.now c.args.ids.now c.args.values.now c.requires.fit

pub returns-clause-bits : goal.returns-clause-bits
returns-clause-bits c =
    let t = c.args.tailoring.now in
    let ids = c.args.ids.now in
    let own = c.split_at.result.0.now in
    let fit = subst (λ vs. AreFitting t ids vs) (sym c.split_at.ensures.front) c.requires.fit in
    λ lag. group-written t ids c.args.out.now.items c.write_values.new.out.items c.pad.new.out.items c.args.values.now own c.split_at.result.1.now c.in_ok-pending.pending lag c.split_at.ensures.front c.split_at.ensures.back fit c.in_ok-pending.ensures.pending c.in_ok-pending.ensures.bits c.in_ok-pad.ensures.bits
