use Rattle.std.proofs.Common.{◌++◌, List, ℕ, Result, Ok, Err, flat_map, sym, subst}
use Rattle.std.proofs.lemmas.Result.{err_from_is_err_and}
use Rattle.session_record.specs.declared.entry.WriteFault.{WriteFault}
use Rattle.ground_history.specs.Histories.{Kept}
use Rattle.session_texts.specs.Blocks.{block}
use Rattle.decommutator.specs.Output.{as_seen, Proceeds}
use Rattle.decommutator.proofs.OutputLemmas.{memory-stops, stops}
use Rattle.decommutator.proofs.blocks.write_blocks.Goals as goal

pub returns-in_err-put_block : goal.returns-in_err-put_block
returns-in_err-put_block g c =
    let f = block c.args.verdicts.now.tailoring c.args.verdicts.now.history in
    let start = c.args.out.now.items ++ flat_map f c.args.verdicts.now.history.kept in
    let from = as_seen g.K.Sink c.args.sink.now in
    let now = as_seen g.K.Sink c.loop-kept.sink in
    let p = err_from_is_err_and c.from_residual.result c.from_residual.ensures.1 in
    let Q : Result Unit WriteFault → Type 0 = λ result. Proceeds start from result c.put_block.new.out.items now in
    let R : WriteFault → Type 0 = λ fault. Q (Err fault) in
    subst Q (sym p.1) (subst R (sym p.2) (memory-stops start (c.loop-kept.out.items ++ flat_map f c.loop-kept.kept-iterator) c.put_block.new.out.items from now c.loop-kept.invariant.ahead))

pub returns-in_err-write_piece : goal.returns-in_err-write_piece
returns-in_err-write_piece g c =
    let f = block c.args.verdicts.now.tailoring c.args.verdicts.now.history in
    let start = c.args.out.now.items ++ flat_map f c.args.verdicts.now.history.kept in
    let from = as_seen g.K.Sink c.args.sink.now in
    let mid = as_seen g.K.Sink c.loop-kept.sink in
    let now = as_seen g.K.Sink c.write_piece.new.sink in
    let others = c.write_piece.new.out.items in
    let fault = c.in_err-write_piece.field-0.0 in
    let p = err_from_is_err_and c.from_residual-in_err-write_piece.result c.from_residual-in_err-write_piece.ensures.1 in
    let Q : Result Unit WriteFault → Type 0 = λ result. Proceeds start from result others now in
    let R : WriteFault → Type 0 = λ x. Q (Err x) in
    let P : List Kept → Type 0 = λ ks. Proceeds start from (Ok tt) (c.loop-kept.out.items ++ flat_map f ks) mid in
    let N : List ℕ → Type 0 = λ octets. Proceeds octets mid (Err fault) others now in
    let first = subst P c.in-Some.ensures.steps c.loop-kept.invariant.ahead in
    let second = subst N c.in_ok-put_block.ensures c.in_err-write_piece.ensures in
    subst Q (sym p.1) (subst R (sym p.2) (stops start c.loop-kept.out.items (f c.in-Some.kept.now) (flat_map f c.next.new.self) others fault from mid now first second others))
