use Rattle.std.proofs.Common.{arith, ◌<◌, ◌++◌, List, ℕ, Result, Ok, Err, flat_map, length, sym, subst}
use Rattle.std.proofs.lemmas.Result.{err_from_is_err_and}
use Rattle.session_record.specs.declared.entry.WriteFault.{WriteFault}
use Rattle.decommutator.specs.Output.{as_seen, Proceeds}
use Rattle.decommutator.specs.Due.{last_text}
use Rattle.decommutator.proofs.OutputLemmas.{memory-stops}
use Rattle.decommutator.proofs.LookLemmas.{goes-next, stops-next}
use Rattle.decommutator.proofs.rest.write_blocks.Goals as goal

pub returns-in_err-put_with_tag : goal.returns-in_err-put_with_tag
returns-in_err-put_with_tag g c =
    let f = last_text c.args.verdicts.now in
    let start = c.args.out.now.items ++ flat_map f c.args.tags.now in
    let from = as_seen g.K.Sink c.args.sink.now in
    let now = as_seen g.K.Sink c.loop-tag.sink in
    let p = err_from_is_err_and c.from_residual.result c.from_residual.ensures.1 in
    let Q : Result Unit WriteFault → Type 0 = λ result. Proceeds start from result c.put_with_tag.new.out.items now in
    let R : WriteFault → Type 0 = λ fault. Q (Err fault) in
    subst Q (sym p.1) (subst R (sym p.2) (memory-stops start _ c.put_with_tag.new.out.items from now c.loop-tag.invariant.ahead))

pub returns-in_err-write_piece : goal.returns-in_err-write_piece
returns-in_err-write_piece g c =
    let f = last_text c.args.verdicts.now in
    let i = c.loop-tag.tag-index in
    let tags = c.args.tags.now in
    let within : i < length tags = omega arith in
    let start = c.args.out.now.items ++ flat_map f tags in
    let from = as_seen g.K.Sink c.args.sink.now in
    let mid = as_seen g.K.Sink c.loop-tag.sink in
    let now = as_seen g.K.Sink c.write_piece.new.sink in
    let others = c.write_piece.new.out.items in
    let fault = c.in_err-write_piece.field-0.0 in
    let p = err_from_is_err_and c.from_residual-in_err-write_piece.result c.from_residual-in_err-write_piece.ensures.1 in
    let Q : Result Unit WriteFault → Type 0 = λ result. Proceeds start from result others now in
    let R : WriteFault → Type 0 = λ x. Q (Err x) in
    let N : List ℕ → Type 0 = λ octets. Proceeds octets mid (Err fault) others now in
    let second = subst N c.in_ok-put_with_tag.ensures c.in_err-write_piece.ensures in
    subst Q (sym p.1) (subst R (sym p.2) (stops-next f start c.loop-tag.out.items others tags i fault from mid now within c.loop-tag.invariant.ahead second))

pub loop-tag-preserved : goal.loop-tag-preserved
loop-tag-preserved g c =
    let f = last_text c.args.verdicts.now in
    let i = c.loop-tag.tag-index in
    let tags = c.args.tags.now in
    let within : i < length tags = omega arith in
    let start = c.args.out.now.items ++ flat_map f tags in
    let from = as_seen g.K.Sink c.args.sink.now in
    let mid = as_seen g.K.Sink c.loop-tag.sink in
    let now = as_seen g.K.Sink c.write_piece.new.sink in
    let others = c.write_piece.new.out.items in
    let N : List ℕ → Type 0 = λ octets. Proceeds octets mid (Ok tt) others now in
    let second = subst N c.in_ok-put_with_tag.ensures c.in_ok-write_piece.ensures in
    record {
      ahead = goes-next f start c.loop-tag.out.items others tags i from mid now within c.loop-tag.invariant.ahead second;
    }
