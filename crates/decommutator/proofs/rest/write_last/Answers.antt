use Rattle.std.proofs.Common.{◌++◌, List, ℕ, [], Result, Ok, Err, flat_map, sym, subst}
use Rattle.std.proofs.lemmas.Result.{err_from_is_err_and}
use Rattle.session_record.specs.declared.entry.WriteFault.{WriteFault}
use Rattle.block_lines.specs.Counts.{lines_of}
use Rattle.decommutator.specs.Output.{as_seen, Proceeds, HasEnded}
use Rattle.decommutator.specs.Due.{last_text}
use Rattle.decommutator.proofs.OutputLemmas.{blocks-failed, lines-failed, text-ended}
use Rattle.decommutator.proofs.rest.write_last.Goals as goal

pub returns-in_err-write_blocks : goal.returns-in_err-write_blocks
returns-in_err-write_blocks g c =
    let blocks = flat_map (last_text c.args.verdicts.now) c.args.tags.now in
    let lines = lines_of c.args.counts.now in
    let from = as_seen g.K.Sink c.args.sink.now in
    let now = as_seen g.K.Sink c.write_blocks.new.sink in
    let others = c.write_blocks.new.out.items in
    let fault = c.in_err-write_blocks.field-0.0 in
    let p = err_from_is_err_and c.from_residual.result c.from_residual.ensures.1 in
    let Q : Result Unit WriteFault → Type 0 = λ result. HasEnded (blocks ++ lines) result from now in
    let R : WriteFault → Type 0 = λ x. Q (Err x) in
    let N : List ℕ → Type 0 = λ out. Proceeds (out ++ blocks) from (Err fault) others now in
    subst Q (sym p.1) (subst R (sym p.2) (blocks-failed blocks lines others fault from now (subst N c.new-out.ensures.items c.in_err-write_blocks.ensures)))

pub returns-in_err-write_counts : goal.returns-in_err-write_counts
returns-in_err-write_counts g c =
    let blocks = flat_map (last_text c.args.verdicts.now) c.args.tags.now in
    let lines = lines_of c.args.counts.now in
    let from = as_seen g.K.Sink c.args.sink.now in
    let mid = as_seen g.K.Sink c.write_blocks.new.sink in
    let others = c.write_blocks.new.out.items in
    let p = err_from_is_err_and c.from_residual-in_err-write_counts.result c.from_residual-in_err-write_counts.ensures.1 in
    let Q : Result Unit WriteFault → Type 0 = λ result. HasEnded (blocks ++ lines) result from mid in
    let R : WriteFault → Type 0 = λ x. Q (Err x) in
    let N : List ℕ → Type 0 = λ out. Proceeds (out ++ blocks) from (Ok tt) others mid in
    subst Q (sym p.1) (subst R (sym p.2) (lines-failed blocks lines others from mid (subst N c.new-out.ensures.items c.in_ok-write_blocks.ensures)))

pub returns : goal.returns
returns g c =
    let blocks = flat_map (last_text c.args.verdicts.now) c.args.tags.now in
    let lines = lines_of c.args.counts.now in
    let from = as_seen g.K.Sink c.args.sink.now in
    let mid = as_seen g.K.Sink c.write_blocks.new.sink in
    let now = as_seen g.K.Sink c.write_gathered.new.sink in
    let others = c.write_blocks.new.out.items in
    let result = c.write_gathered.result in
    let N : List ℕ → Type 0 = λ out. Proceeds (out ++ blocks) from (Ok tt) others mid in
    let M : List ℕ → Type 0 = λ octets. Proceeds octets mid result [] now in
    text-ended blocks lines others result from mid now (subst N c.new-out.ensures.items c.in_ok-write_blocks.ensures)
    (subst M c.in_ok-write_counts.ensures c.write_gathered.ensures.proceeds)
