use Rattle.std.proofs.Common.{◌≡◌, ◌≤◌, ◌+◌, ◌*◌, take}
use Rattle.hk_base.specs.Payload.{ids_octets, arrays_octets}
use Rattle.hk_base.proofs.payload.size_in.Given as goal

abbrev pub invariant-loop-array : goal.invariant-loop-array
invariant-loop-array g l = record {
  sum : l.octets ≡ ids_octets (g.P.ParamTable.params l.table) l.def.simple + arrays_octets (g.P.ParamTable.params l.table) (take l.array-index l.def.arrays);
  small : l.octets ≤ 2040 + l.array-index * 8355840;
}
