use Rattle.std.proofs.Common.{arith}
use Rattle.hk_base.proofs.Sizes.{ids_bits_more}
use Rattle.hk_base.proofs.payload.group_size.Goals as goal

pub loop-id-preserved : goal.loop-id-preserved
loop-id-preserved g c =
    let more = ids_bits_more (g.P.ParamTable.params c.args.table.now) c.args.ids.now c.loop-id.id-index c.loop-id-test.true in
    record {
      sum = omega (arith, more, c.loop-id.invariant.sum, c.bits_of-bits.ensures.bits);
      small = omega (arith, c.loop-id.invariant.small, c.bits_of-bits.ensures.most);
    }
