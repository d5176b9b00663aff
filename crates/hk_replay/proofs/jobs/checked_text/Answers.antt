use Rattle.std.proofs.Common.{◌≡◌, Err, sym, ap, subst, ◌∙◌}
use Rattle.std.proofs.lemmas.Result.{err_from_is_err_and}
use Rattle.program_edge.proofs.FaultLemmas.{same_err}
use Rattle.hk_replay.specs.Faults.{status_of_run}
use Rattle.hk_replay.proofs.StatusLemmas.{ok_err, plain_tailoring, read_run, reading_tailoring, without_check}
use Rattle.hk_replay.proofs.jobs.checked_text.Goals as goal

pub returns-in_err-tailoring-clause-early : goal.returns-in_err-tailoring-clause-early
returns-in_err-tailoring-clause-early g c =
    let p = err_from_is_err_and c.from_residual.result c.from_residual.ensures.1 in
    rw (p.1, p.2) (reading_tailoring c.in_err-tailoring.field-0.0 c.in_err-tailoring.ensures.causes)

pub returns-in_err-tailoring-clause-plain : goal.returns-in_err-tailoring-clause-plain
returns-in_err-tailoring-clause-plain g c =
    let p = err_from_is_err_and c.from_residual.result c.from_residual.ensures.1 in
    rw (p.1, p.2) (plain_tailoring c.in_err-tailoring.field-0.0 c.in_err-tailoring.ensures.causes)

pub returns-in_err-tailoring-clause-read_fault : goal.returns-in_err-tailoring-clause-read_fault
returns-in_err-tailoring-clause-read_fault g c =
    let p = err_from_is_err_and c.from_residual.result c.from_residual.ensures.1 in
    rw (p.1, p.2) (λ is. c.in_err-tailoring.ensures.failed (ap Err (read_run c.in_err-tailoring.field-0.0 (same_err _ _ is))))

pub returns-in_err-tailoring-clause-outcome : goal.returns-in_err-tailoring-clause-outcome
returns-in_err-tailoring-clause-outcome g c =
    let p = err_from_is_err_and c.from_residual.result c.from_residual.ensures.1 in
    rw (p.1, p.2) (λ meant stands. without_check c.in_err-tailoring.field-0.0 meant (c.in_err-tailoring.ensures.meant meant stands))

pub returns-in_err-tailoring-clause-absent : goal.returns-in_err-tailoring-clause-absent
returns-in_err-tailoring-clause-absent g c =
    let p = err_from_is_err_and c.from_residual.result c.from_residual.ensures.1 in
    rw (p.1, p.2) (λ gone. ap (λ f. Err (status_of_run f)) (same_err _ _ (c.in_err-tailoring.ensures.absent gone)))

pub returns-in_err-line-clause-absent : goal.returns-in_err-line-clause-absent
returns-in_err-line-clause-absent g c = λ gone. absurd (ok_err _ _ (c.in_ok-tailoring.ensures.absent gone))

pub returns-clause-absent : goal.returns-clause-absent
returns-clause-absent g c = λ gone. absurd (ok_err _ _ (c.in_ok-tailoring.ensures.absent gone))
