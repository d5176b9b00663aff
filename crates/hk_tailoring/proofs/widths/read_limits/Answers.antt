use Rattle.std.proofs.Common.{◌∙◌, ◌++◌, codes}
use Rattle.hk_tailoring.specs.Keys.{section_of, number_checks}
use Rattle.hk_tailoring.specs.Widths.{limit_checks, greatest_interval}
use Rattle.hk_tailoring.proofs.CheckLemmas.{passes-exit, first_fault-passed, first_fault-stopped}
use Rattle.hk_tailoring.proofs.widths.read_limits.Goals as goal

pub returns-in_err-mean_fraction-clause-checked : goal.returns-in_err-mean_fraction-clause-checked
unfolding limit_checks
returns-in_err-mean_fraction-clause-checked c =
    let s = section_of c.args.document.now in
    let fault = c.in_err-mean_fraction.field-0.0 in
    passes-exit (number_checks s (codes "mean_fraction") 0 2 ++ (number_checks s (codes "max_interval") 1 (greatest_interval c.args.interval_octets) ++ (number_checks s (codes "max_payload") 1 4096))) c.from_residual.result fault c.from_residual.ensures.1
    (λ not_memory. first_fault-stopped (number_checks s (codes "mean_fraction") 0 2) (number_checks s (codes "max_interval") 1 (greatest_interval c.args.interval_octets) ++ (number_checks s (codes "max_payload") 1 4096)) fault (c.in_err-mean_fraction.ensures.number not_memory))

pub returns-in_err-max_interval-clause-checked : goal.returns-in_err-max_interval-clause-checked
unfolding limit_checks
returns-in_err-max_interval-clause-checked c =
    let s = section_of c.args.document.now in
    let fault = c.in_err-max_interval.field-0.0 in
    passes-exit (number_checks s (codes "mean_fraction") 0 2 ++ (number_checks s (codes "max_interval") 1 (greatest_interval c.args.interval_octets) ++ (number_checks s (codes "max_payload") 1 4096))) c.from_residual-in_err-max_interval.result fault c.from_residual-in_err-max_interval.ensures.1
    (λ not_memory. first_fault-passed (number_checks s (codes "mean_fraction") 0 2) (number_checks s (codes "max_interval") 1 (greatest_interval c.args.interval_octets) ++ (number_checks s (codes "max_payload") 1 4096)) c.in_ok-mean_fraction.ensures.number.0 ∙ (first_fault-stopped (number_checks s (codes "max_interval") 1 (greatest_interval c.args.interval_octets)) (number_checks s (codes "max_payload") 1 4096) fault (c.in_err-max_interval.ensures.number not_memory)))

pub returns-in_err-max_payload-clause-checked : goal.returns-in_err-max_payload-clause-checked
unfolding limit_checks
returns-in_err-max_payload-clause-checked c =
    let s = section_of c.args.document.now in
    let fault = c.in_err-max_payload.field-0.0 in
    passes-exit (number_checks s (codes "mean_fraction") 0 2 ++ (number_checks s (codes "max_interval") 1 (greatest_interval c.args.interval_octets) ++ (number_checks s (codes "max_payload") 1 4096))) c.from_residual-in_err-max_payload.result fault c.from_residual-in_err-max_payload.ensures.1
    (λ not_memory. first_fault-passed (number_checks s (codes "mean_fraction") 0 2) (number_checks s (codes "max_interval") 1 (greatest_interval c.args.interval_octets) ++ (number_checks s (codes "max_payload") 1 4096)) c.in_ok-mean_fraction.ensures.number.0 ∙ (first_fault-passed (number_checks s (codes "max_interval") 1 (greatest_interval c.args.interval_octets)) (number_checks s (codes "max_payload") 1 4096) c.in_ok-max_interval.ensures.number.0 ∙ (c.in_err-max_payload.ensures.number not_memory)))

pub returns-clause-checked : goal.returns-clause-checked
unfolding limit_checks
returns-clause-checked c =
    let s = section_of c.args.document.now in
    first_fault-passed (number_checks s (codes "mean_fraction") 0 2) (number_checks s (codes "max_interval") 1 (greatest_interval c.args.interval_octets) ++ (number_checks s (codes "max_payload") 1 4096)) c.in_ok-mean_fraction.ensures.number.0 ∙ (first_fault-passed (number_checks s (codes "max_interval") 1 (greatest_interval c.args.interval_octets)) (number_checks s (codes "max_payload") 1 4096) c.in_ok-max_interval.ensures.number.0 ∙ (c.in_ok-max_payload.ensures.number.0))
