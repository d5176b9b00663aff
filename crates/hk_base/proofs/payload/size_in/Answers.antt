use Rattle.std.proofs.Common.{◌+◌, List, ap, arith, take, length, sym, ◌∙◌}
use Rattle.std.proofs.lemmas.List.{take_all}
use Rattle.hk_base.specs.declared.types.Param.{Param}
use Rattle.hk_base.specs.declared.types.SuperList.{SuperList}
use Rattle.hk_base.specs.Payload.{ids_octets, arrays_octets}
use Rattle.hk_base.proofs.Sizes.{size_by_lists}
use Rattle.hk_base.proofs.payload.size_in.Goals as goal

pub returns : goal.returns
returns g c t same =
    let params = g.P.ParamTable.params c.args.table.now in
    let arrays = c.args.def.now.arrays in
    let all = ap (λ (xs : List SuperList). take c.loop-array.array-index xs) c.as_slice-array-items.ensures in
    let whole = take_all c.loop-array.array-index arrays (omega (arith, c.loop-array-test.false, ap (λ (xs : List SuperList). length xs) c.as_slice-array-items.ensures)) in
    c.loop-array.invariant.sum
    ∙ (ap (λ (xs : List SuperList). ids_octets params c.args.def.now.simple + arrays_octets params xs) whole
    ∙ (ap (λ (ps : List Param). ids_octets ps c.args.def.now.simple + arrays_octets ps arrays) (sym same) ∙ sym (size_by_lists t c.args.def.now)))
