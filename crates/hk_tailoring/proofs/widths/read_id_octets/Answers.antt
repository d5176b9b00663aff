use Rattle.std.proofs.Common.{◌∙◌, ◌++◌, codes}
use Rattle.hk_tailoring.specs.Keys.{section_of, number_checks}
use Rattle.hk_tailoring.specs.Widths.{id_octets_checks}
use Rattle.hk_tailoring.proofs.CheckLemmas.{passes-exit, first_fault-passed, first_fault-stopped}
use Rattle.hk_tailoring.proofs.widths.read_id_octets.Goals as goal

pub returns-in_err-structure-clause-checked : goal.returns-in_err-structure-clause-checked
unfolding id_octets_checks
returns-in_err-structure-clause-checked c =
    let s = section_of c.args.document.now in
    let fault = c.in_err-structure.field-0.0 in
    passes-exit (number_checks s (codes "structure_octets") 1 2 ++ (number_checks s (codes "parameter_octets") 1 2 ++ (number_checks s (codes "interval_octets") 1 4))) c.from_residual.result fault c.from_residual.ensures.1
    (λ not_memory. first_fault-stopped (number_checks s (codes "structure_octets") 1 2) (number_checks s (codes "parameter_octets") 1 2 ++ (number_checks s (codes "interval_octets") 1 4)) fault (c.in_err-structure.ensures.number not_memory))

pub returns-in_err-parameter-clause-checked : goal.returns-in_err-parameter-clause-checked
unfolding id_octets_checks
returns-in_err-parameter-clause-checked c =
    let s = section_of c.args.document.now in
    let fault = c.in_err-parameter.field-0.0 in
    passes-exit (number_checks s (codes "structure_octets") 1 2 ++ (number_checks s (codes "parameter_octets") 1 2 ++ (number_checks s (codes "interval_octets") 1 4))) c.from_residual-in_err-parameter.result fault c.from_residual-in_err-parameter.ensures.1
    (λ not_memory. first_fault-passed (number_checks s (codes "structure_octets") 1 2) (number_checks s (codes "parameter_octets") 1 2 ++ (number_checks s (codes "interval_octets") 1 4)) c.in_ok-structure.ensures.number.0 ∙ (first_fault-stopped (number_checks s (codes "parameter_octets") 1 2) (number_checks s (codes "interval_octets") 1 4) fault (c.in_err-parameter.ensures.number not_memory)))

pub returns-in_err-interval-clause-checked : goal.returns-in_err-interval-clause-checked
unfolding id_octets_checks
returns-in_err-interval-clause-checked c =
    let s = section_of c.args.document.now in
    let fault = c.in_err-interval.field-0.0 in
    passes-exit (number_checks s (codes "structure_octets") 1 2 ++ (number_checks s (codes "parameter_octets") 1 2 ++ (number_checks s (codes "interval_octets") 1 4))) c.from_residual-in_err-interval.result fault c.from_residual-in_err-interval.ensures.1
    (λ not_memory. first_fault-passed (number_checks s (codes "structure_octets") 1 2) (number_checks s (codes "parameter_octets") 1 2 ++ (number_checks s (codes "interval_octets") 1 4)) c.in_ok-structure.ensures.number.0 ∙ (first_fault-passed (number_checks s (codes "parameter_octets") 1 2) (number_checks s (codes "interval_octets") 1 4) c.in_ok-parameter.ensures.number.0 ∙ (c.in_err-interval.ensures.number not_memory)))

pub returns-clause-checked : goal.returns-clause-checked
unfolding id_octets_checks
returns-clause-checked c =
    let s = section_of c.args.document.now in
    first_fault-passed (number_checks s (codes "structure_octets") 1 2) (number_checks s (codes "parameter_octets") 1 2 ++ (number_checks s (codes "interval_octets") 1 4)) c.in_ok-structure.ensures.number.0 ∙ (first_fault-passed (number_checks s (codes "parameter_octets") 1 2) (number_checks s (codes "interval_octets") 1 4) c.in_ok-parameter.ensures.number.0 ∙ (c.in_ok-interval.ensures.number.0))
