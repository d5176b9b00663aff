use Rattle.std.proofs.Common.{◌∙◌, ◌++◌, codes}
use Rattle.hk_tailoring.specs.Keys.{section_of, flag_checks}
use Rattle.hk_tailoring.specs.Widths.{checksum_checks}
use Rattle.hk_tailoring.proofs.CheckLemmas.{passes-exit, first_fault-passed, first_fault-stopped}
use Rattle.hk_tailoring.proofs.widths.read_checksums.Goals as goal

pub returns-in_err-requests-clause-checked : goal.returns-in_err-requests-clause-checked
unfolding checksum_checks
returns-in_err-requests-clause-checked c =
    let s = section_of c.args.document.now in
    let fault = c.in_err-requests.field-0.0 in
    passes-exit (flag_checks s (codes "tc_checksum") ++ (flag_checks s (codes "tm_checksum"))) c.from_residual.result fault c.from_residual.ensures.1
    (λ not_memory. first_fault-stopped (flag_checks s (codes "tc_checksum")) (flag_checks s (codes "tm_checksum")) fault (c.in_err-requests.ensures.flag not_memory))

pub returns-in_err-reports-clause-checked : goal.returns-in_err-reports-clause-checked
unfolding checksum_checks
returns-in_err-reports-clause-checked c =
    let s = section_of c.args.document.now in
    let fault = c.in_err-reports.field-0.0 in
    passes-exit (flag_checks s (codes "tc_checksum") ++ (flag_checks s (codes "tm_checksum"))) c.from_residual-in_err-reports.result fault c.from_residual-in_err-reports.ensures.1
    (λ not_memory. first_fault-passed (flag_checks s (codes "tc_checksum")) (flag_checks s (codes "tm_checksum")) c.in_ok-requests.ensures.flag.0 ∙ (c.in_err-reports.ensures.flag not_memory))

pub returns-clause-checked : goal.returns-clause-checked
unfolding checksum_checks
returns-clause-checked c =
    let s = section_of c.args.document.now in
    first_fault-passed (flag_checks s (codes "tc_checksum")) (flag_checks s (codes "tm_checksum")) c.in_ok-requests.ensures.flag.0 ∙ (c.in_ok-reports.ensures.flag.0)
