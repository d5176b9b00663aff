use Rattle.std.proofs.Common.{◌<◌, ◌++◌, ◌∷◌, [], length, get_or, pos, FitsSigned, rules, arith, sym, ap, ◌∙◌}
use Rattle.std.specs.Int.{w128}
use Rattle.std.proofs.lemmas.Int.{to_z-of_z}
use Rattle.hk_base.specs.Payload.{places}
use Rattle.decommutator.specs.declared.row.ValueRow.{ValueRow}
use Rattle.decommutator.proofs.RowLemmas.{rows-more}
use Rattle.decommutator.proofs.rows.rows_at.Goals as goal

pub loop-number-preserved : goal.loop-number-preserved
loop-number-preserved c =
    let below : c.loop-number.number < length c.args.values.now = omega (arith, c.requires.each, c.place_count-number-end.ensures c.args.last, c.loop-number-test.true) in
    let fits : FitsSigned w128 (get_or c.args.values.now c.loop-number.number (pos 0)) = search rules in
    let ps = places c.args.def.now c.args.last in
    rows-more ps c.args.values.now c.loop-number.number c.in-Some.place _ c.loop-number.rows.items c.push.new.self.items _ (sym c.in-Some.ensures) below (to_z-of_z w128 _ fits)
    (c.in_ok-push.ensures.items ∙ ap (λ (r : ValueRow). c.loop-number.rows.items ++ r ∷ []) c.row_at.ensures) c.loop-number.invariant
