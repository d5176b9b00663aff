use Rattle.std.proofs.Common.{◌≡◌, ◌≤◌, ◌*◌, take}
use Rattle.hk_base.specs.Payload.{ids_bits}
use Rattle.hk_base.proofs.payload.group_size.Given as goal

abbrev pub invariant-loop-id : goal.invariant-loop-id
invariant-loop-id g l = record {
  sum : l.bits ≡ ids_bits (g.P.ParamTable.params l.table) (take l.id-index l.ids);
  small : l.bits ≤ 64 * l.id-index;
}
