use Rattle.std.proofs.Common.{◌<◌, length, get_or, pos, FitsSigned, rules, arith, sym}
use Rattle.std.specs.Int.{w128}
use Rattle.std.proofs.lemmas.Int.{to_z-of_z}
use Rattle.hk_base.specs.Payload.{places}
use Rattle.block_lines.proofs.Appending.{fails_after}
use Rattle.block_lines.proofs.ValueLemmas.{one_more_line}
use Rattle.block_lines.proofs.values.write_values.Goals as goal

pub loop-number-preserved : goal.loop-number-preserved
loop-number-preserved c =
    let below : c.loop-number.number < length c.args.values.now = omega
    (arith, c.requires.each, c.place_count-number-end.ensures c.args.last, c.loop-number-test.true) in
    let fits : FitsSigned w128 (get_or c.args.values.now c.loop-number.number (pos 0)) = search rules in
    one_more_line (places c.args.def.now c.args.last) c.args.values.now c.args.out.now.items c.loop-number.number c.loop-number.out.items
    c.write_value.new.out.items c.in-Some.place _ (sym c.in-Some.ensures) below (to_z-of_z w128 _ fits) c.in_ok-write_value.ensures
    c.loop-number.invariant

pub returns-in_err-write_value : goal.returns-in_err-write_value
returns-in_err-write_value c =
    fails_after c.from_residual.result c.args.out.now.items c.loop-number.invariant.behind c.loop-number.out.items c.write_value.new.out.items _
    c.from_residual.ensures.0 c.loop-number.invariant.kept c.in_err-write_value.ensures
