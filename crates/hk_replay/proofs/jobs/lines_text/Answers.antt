use Rattle.std.proofs.Common.{◌≡◌, ℕ, Err, inr, sym, ap, subst, ◌∙◌}
use Rattle.std.proofs.lemmas.Result.{err_from_is_err_and}
use Rattle.hk_base.specs.Outside.{HasRisen}
use Rattle.program_edge.proofs.FaultLemmas.{same_err}
use Rattle.program_edge.proofs.TailoringLemmas.{file_read, moved_in, unselected}
use Rattle.hk_replay.specs.Inputs.{most_taken_of_lines}
use Rattle.hk_replay.proofs.StatusLemmas.{lines_selected, of_ok, plain_lines, read_run, reading_lines, uncounted}
use Rattle.hk_replay.proofs.jobs.lines_text.Goals as goal

pub returns-in_err-record-clause-plain : goal.returns-in_err-record-clause-plain
returns-in_err-record-clause-plain g c =
    let p = err_from_is_err_and c.from_residual.result c.from_residual.ensures.1 in
    rw (p.1, p.2) (plain_lines c.in_err-record.field-0.0 c.in_err-record.ensures.causes)

pub returns-in_err-record-clause-early : goal.returns-in_err-record-clause-early
returns-in_err-record-clause-early g c =
    let p = err_from_is_err_and c.from_residual.result c.from_residual.ensures.1 in
    rw (p.1, p.2) (reading_lines c.in_err-record.field-0.0 c.in_err-record.ensures.causes)

pub returns-in_err-record-clause-read_fault : goal.returns-in_err-record-clause-read_fault
returns-in_err-record-clause-read_fault g c =
    let p = err_from_is_err_and c.from_residual.result c.from_residual.ensures.1 in
    let same = uncounted c.select.result (g.F.Shelf.faults c.args.shelf.now) (g.F.Shelf.faults c.select.new.self) (sym c.is_err.ensures.value ∙ c.if-is_err.false) c.select.ensures.count in
    rw (p.1, p.2) (λ is. subst (λ (n : ℕ). HasRisen n (g.F.Shelf.faults c.encode.new.shelf)) same (c.in_err-record.ensures.failed (ap Err (read_run c.in_err-record.field-0.0 (same_err _ _ is)))))

pub returns-in_err-record-clause-outcome : goal.returns-in_err-record-clause-outcome
returns-in_err-record-clause-outcome g c =
    let p = err_from_is_err_and c.from_residual.result c.from_residual.ensures.1 in
    rw (p.1, p.2) (lines_selected c.in_err-record.field-0.0 c.args.tailoring.now (g.F.Shelf.files c.args.shelf.now) c.args.name.now (g.F.Shelf.rest c.select.new.self)
    (of_ok c.select.result _ (sym c.is_err.ensures.value ∙ c.if-is_err.false) c.select.ensures.selected) c.in_err-record.ensures.outcome)

pub returns-in_err-record-clause-bounds : goal.returns-in_err-record-clause-bounds
returns-in_err-record-clause-bounds g c = inr (moved_in most_taken_of_lines (g.F.Shelf.files c.args.shelf.now) c.args.name.now (g.F.Shelf.rest c.select.new.self) (g.F.Shelf.rest c.encode.new.shelf)
    (of_ok c.select.result _ (sym c.is_err.ensures.value ∙ c.if-is_err.false) c.select.ensures.selected) c.encode.ensures.bounded)

pub returns-in_err-record-clause-absent : goal.returns-in_err-record-clause-absent
returns-in_err-record-clause-absent g c = λ gone. absurd (unselected (g.F.Shelf.files c.args.shelf.now) c.args.name.now (g.F.Shelf.rest c.select.new.self) gone (of_ok c.select.result _ (sym c.is_err.ensures.value ∙ c.if-is_err.false) c.select.ensures.selected))

pub returns-clause-bounds : goal.returns-clause-bounds
returns-clause-bounds g c = inr (moved_in most_taken_of_lines (g.F.Shelf.files c.args.shelf.now) c.args.name.now (g.F.Shelf.rest c.select.new.self) (g.F.Shelf.rest c.encode.new.shelf)
    (of_ok c.select.result _ (sym c.is_err.ensures.value ∙ c.if-is_err.false) c.select.ensures.selected) c.encode.ensures.bounded)

pub returns-clause-end : goal.returns-clause-end
returns-clause-end g c = file_read (g.F.Shelf.files c.args.shelf.now) c.args.name.now (g.F.Shelf.rest c.select.new.self) (g.F.Shelf.rest c.encode.new.shelf)
    (of_ok c.select.result _ (sym c.is_err.ensures.value ∙ c.if-is_err.false) c.select.ensures.selected) c.in_ok-record.ensures.end

pub returns-clause-absent : goal.returns-clause-absent
returns-clause-absent g c = λ gone. absurd (unselected (g.F.Shelf.files c.args.shelf.now) c.args.name.now (g.F.Shelf.rest c.select.new.self) gone (of_ok c.select.result _ (sym c.is_err.ensures.value ∙ c.if-is_err.false) c.select.ensures.selected))
