use Rattle.std.proofs.Common.{◌∙◌, ◌++◌, codes}
use Rattle.hk_tailoring.specs.Keys.{section_of, number_checks}
use Rattle.hk_tailoring.specs.Widths.{count_octets_checks}
use Rattle.hk_tailoring.proofs.CheckLemmas.{passes-exit, first_fault-passed, first_fault-stopped}
use Rattle.hk_tailoring.proofs.widths.read_count_octets.Goals as goal

pub returns-in_err-count-clause-checked : goal.returns-in_err-count-clause-checked
unfolding count_octets_checks
returns-in_err-count-clause-checked c =
    let s = section_of c.args.document.now in
    let fault = c.in_err-count.field-0.0 in
    passes-exit (number_checks s (codes "count_octets") 1 2 ++ (number_checks s (codes "repetition_octets") 1 2 ++ (number_checks s (codes "step_octets") 1 2))) c.from_residual.result fault c.from_residual.ensures.1
    (λ not_memory. first_fault-stopped (number_checks s (codes "count_octets") 1 2) (number_checks s (codes "repetition_octets") 1 2 ++ (number_checks s (codes "step_octets") 1 2)) fault (c.in_err-count.ensures.number not_memory))

pub returns-in_err-repetition-clause-checked : goal.returns-in_err-repetition-clause-checked
unfolding count_octets_checks
returns-in_err-repetition-clause-checked c =
    let s = section_of c.args.document.now in
    let fault = c.in_err-repetition.field-0.0 in
    passes-exit (number_checks s (codes "count_octets") 1 2 ++ (number_checks s (codes "repetition_octets") 1 2 ++ (number_checks s (codes "step_octets") 1 2))) c.from_residual-in_err-repetition.result fault c.from_residual-in_err-repetition.ensures.1
    (λ not_memory. first_fault-passed (number_checks s (codes "count_octets") 1 2) (number_checks s (codes "repetition_octets") 1 2 ++ (number_checks s (codes "step_octets") 1 2)) c.in_ok-count.ensures.number.0 ∙ (first_fault-stopped (number_checks s (codes "repetition_octets") 1 2) (number_checks s (codes "step_octets") 1 2) fault (c.in_err-repetition.ensures.number not_memory)))

pub returns-in_err-step-clause-checked : goal.returns-in_err-step-clause-checked
unfolding count_octets_checks
returns-in_err-step-clause-checked c =
    let s = section_of c.args.document.now in
    let fault = c.in_err-step.field-0.0 in
    passes-exit (number_checks s (codes "count_octets") 1 2 ++ (number_checks s (codes "repetition_octets") 1 2 ++ (number_checks s (codes "step_octets") 1 2))) c.from_residual-in_err-step.result fault c.from_residual-in_err-step.ensures.1
    (λ not_memory. first_fault-passed (number_checks s (codes "count_octets") 1 2) (number_checks s (codes "repetition_octets") 1 2 ++ (number_checks s (codes "step_octets") 1 2)) c.in_ok-count.ensures.number.0 ∙ (first_fault-passed (number_checks s (codes "repetition_octets") 1 2) (number_checks s (codes "step_octets") 1 2) c.in_ok-repetition.ensures.number.0 ∙ (c.in_err-step.ensures.number not_memory)))

pub returns-clause-checked : goal.returns-clause-checked
unfolding count_octets_checks
returns-clause-checked c =
    let s = section_of c.args.document.now in
    first_fault-passed (number_checks s (codes "count_octets") 1 2) (number_checks s (codes "repetition_octets") 1 2 ++ (number_checks s (codes "step_octets") 1 2)) c.in_ok-count.ensures.number.0 ∙ (first_fault-passed (number_checks s (codes "repetition_octets") 1 2) (number_checks s (codes "step_octets") 1 2) c.in_ok-repetition.ensures.number.0 ∙ (c.in_ok-step.ensures.number.0))
