use Rattle.std.proofs.Common.{◌∙◌, ◌++◌, codes}
use Rattle.hk_tailoring.specs.Keys.{section_of, number_checks, needed_number_checks}
use Rattle.hk_tailoring.specs.Widths.{time_checks}
use Rattle.hk_tailoring.proofs.CheckLemmas.{passes-exit, first_fault-passed, first_fault-stopped}
use Rattle.hk_tailoring.proofs.widths.read_times.Goals as goal

pub returns-in_err-coarse-clause-checked : goal.returns-in_err-coarse-clause-checked
unfolding time_checks
returns-in_err-coarse-clause-checked c =
    let s = section_of c.args.document.now in
    let fault = c.in_err-coarse.field-0.0 in
    passes-exit (number_checks s (codes "coarse") 1 4 ++ (number_checks s (codes "fine") 0 3 ++ (needed_number_checks s (codes "slot") 16 4294967296))) c.from_residual.result fault c.from_residual.ensures.1
    (λ not_memory. first_fault-stopped (number_checks s (codes "coarse") 1 4) (number_checks s (codes "fine") 0 3 ++ (needed_number_checks s (codes "slot") 16 4294967296)) fault (c.in_err-coarse.ensures.number not_memory))

pub returns-in_err-fine-clause-checked : goal.returns-in_err-fine-clause-checked
unfolding time_checks
returns-in_err-fine-clause-checked c =
    let s = section_of c.args.document.now in
    let fault = c.in_err-fine.field-0.0 in
    passes-exit (number_checks s (codes "coarse") 1 4 ++ (number_checks s (codes "fine") 0 3 ++ (needed_number_checks s (codes "slot") 16 4294967296))) c.from_residual-in_err-fine.result fault c.from_residual-in_err-fine.ensures.1
    (λ not_memory. first_fault-passed (number_checks s (codes "coarse") 1 4) (number_checks s (codes "fine") 0 3 ++ (needed_number_checks s (codes "slot") 16 4294967296)) c.in_ok-coarse.ensures.number.0 ∙ (first_fault-stopped (number_checks s (codes "fine") 0 3) (needed_number_checks s (codes "slot") 16 4294967296) fault (c.in_err-fine.ensures.number not_memory)))

pub returns-in_err-slot-clause-checked : goal.returns-in_err-slot-clause-checked
unfolding time_checks
returns-in_err-slot-clause-checked c =
    let s = section_of c.args.document.now in
    let fault = c.in_err-slot.field-0.0 in
    passes-exit (number_checks s (codes "coarse") 1 4 ++ (number_checks s (codes "fine") 0 3 ++ (needed_number_checks s (codes "slot") 16 4294967296))) c.from_residual-in_err-slot.result fault c.from_residual-in_err-slot.ensures.1
    (λ not_memory. first_fault-passed (number_checks s (codes "coarse") 1 4) (number_checks s (codes "fine") 0 3 ++ (needed_number_checks s (codes "slot") 16 4294967296)) c.in_ok-coarse.ensures.number.0 ∙ (first_fault-passed (number_checks s (codes "fine") 0 3) (needed_number_checks s (codes "slot") 16 4294967296) c.in_ok-fine.ensures.number.0 ∙ (c.in_err-slot.ensures.number not_memory)))

pub returns-clause-checked : goal.returns-clause-checked
unfolding time_checks
returns-clause-checked c =
    let s = section_of c.args.document.now in
    first_fault-passed (number_checks s (codes "coarse") 1 4) (number_checks s (codes "fine") 0 3 ++ (needed_number_checks s (codes "slot") 16 4294967296)) c.in_ok-coarse.ensures.number.0 ∙ (first_fault-passed (number_checks s (codes "fine") 0 3) (needed_number_checks s (codes "slot") 16 4294967296) c.in_ok-fine.ensures.number.0 ∙ (c.in_ok-slot.ensures.number.0))
