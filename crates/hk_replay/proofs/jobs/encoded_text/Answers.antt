use Rattle.std.proofs.Common.{◌≡◌, ℕ, List, Option, Err, inl, sym, ap, subst, ◌∙◌}
use Rattle.std.proofs.lemmas.Result.{err_from_is_err_and}
use Rattle.program_edge.specs.Names.{named}
use Rattle.program_edge.specs.Tailorings.{octets_of, HasReadFile}
use Rattle.program_edge.proofs.FaultLemmas.{same_err}
use Rattle.hk_replay.specs.Outcomes.{encode_outcome}
use Rattle.std.specs.Prelude.{IsErrAnd, OnOk}
use Rattle.hk_replay.specs.Words as command
use Rattle.hk_replay.specs.Inputs.{EndsWithoutInput, most_taken_of_lines}
use Rattle.hk_replay.specs.declared.status.ReplayStatus.TheVariants as status
use Rattle.hk_replay.proofs.StatusLemmas.{err_and, lacking_lines, lacking_second, moved_then, ok_err, plain_tailoring, read_run, reading_tailoring, without}
use Rattle.hk_replay.proofs.jobs.encoded_text.Goals as goal

pub returns-in_err-tailoring-clause-early : goal.returns-in_err-tailoring-clause-early
returns-in_err-tailoring-clause-early g c =
    let p = err_from_is_err_and c.from_residual.result c.from_residual.ensures.1 in
    rw (p.1, p.2) (reading_tailoring c.in_err-tailoring.field-0.0 c.in_err-tailoring.ensures.causes)

pub returns-in_err-tailoring-clause-plain : goal.returns-in_err-tailoring-clause-plain
returns-in_err-tailoring-clause-plain g c =
    let p = err_from_is_err_and c.from_residual.result c.from_residual.ensures.1 in
    rw (p.1, p.2) (plain_tailoring c.in_err-tailoring.field-0.0 c.in_err-tailoring.ensures.causes)

pub returns-in_err-tailoring-clause-read_fault : goal.returns-in_err-tailoring-clause-read_fault
returns-in_err-tailoring-clause-read_fault g c =
    let p = err_from_is_err_and c.from_residual.result c.from_residual.ensures.1 in
    rw (p.1, p.2) (λ is. c.in_err-tailoring.ensures.failed (ap Err (read_run c.in_err-tailoring.field-0.0 (same_err _ _ is))))

pub returns-in_err-tailoring-clause-outcome : goal.returns-in_err-tailoring-clause-outcome
returns-in_err-tailoring-clause-outcome g c =
    let p = err_from_is_err_and c.from_residual.result c.from_residual.ensures.1 in
    rw (p.1, p.2) (λ meant stands. without c.in_err-tailoring.field-0.0 encode_outcome (octets_of (g.F.Shelf.files c.args.shelf.now) c.args.name.now) meant (c.in_err-tailoring.ensures.meant meant stands))

pub returns-in_err-tailoring-clause-absent : goal.returns-in_err-tailoring-clause-absent
returns-in_err-tailoring-clause-absent g c =
    let p = err_from_is_err_and c.from_residual.result c.from_residual.ensures.1 in
    rw (p.1, p.2) (λ gone. lacking_lines c.in_err-tailoring.field-0.0 (g.F.Shelf.files c.args.shelf.now) (named c.args.tailoring) c.args.name.now c.in_err-tailoring.ensures.causes c.in_err-tailoring.ensures.absent c.in_err-tailoring.ensures.meant)

pub returns-in_err-tailoring-clause-bounds : goal.returns-in_err-tailoring-clause-bounds
returns-in_err-tailoring-clause-bounds g c = inl c.in_err-tailoring.ensures.moves

pub returns-clause-bounds : goal.returns-clause-bounds
returns-clause-bounds g c =
    moved_then most_taken_of_lines (g.F.Shelf.files c.args.shelf.now) (g.F.Shelf.files c.tailoring_of.new.shelf) (named c.args.tailoring) c.args.name.now
    (g.F.Shelf.rest c.args.shelf.now) (g.F.Shelf.rest c.tailoring_of.new.shelf) (g.F.Shelf.rest c.lines_text.new.shelf) c.tailoring_of.ensures.files c.tailoring_of.ensures.moves c.lines_text.ensures.bounds

pub returns-clause-end : goal.returns-clause-end
returns-clause-end g c =
    subst (λ (fs : Option (List (List ℕ × List ℕ))). OnOk c.lines_text.result (HasReadFile fs (g.F.Shelf.rest c.lines_text.new.shelf))) c.tailoring_of.ensures.files c.lines_text.ensures.end

pub returns-clause-absent : goal.returns-clause-absent
returns-clause-absent g c =
    let files = g.F.Shelf.files c.args.shelf.now in
    let name = c.args.name.now in
    let what = command.encode (named c.args.tailoring) name in
    λ gone.
    lacking_second files (g.F.Shelf.files c.tailoring_of.new.shelf) (named c.args.tailoring) name (IsErrAnd c.lines_text.result (EndsWithoutInput files what)) gone c.tailoring_of.ensures.files
    (λ first. ok_err _ _ (c.in_ok-tailoring.ensures.absent first))
    (λ second. err_and c.lines_text.result status.ReadFault (EndsWithoutInput files what) (c.lines_text.ensures.absent second) tt)
