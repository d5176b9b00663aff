use Rattle.std.proofs.Common.{◌∙◌, ◌++◌, codes}
use Rattle.hk_tailoring.specs.Keys.{section_of, needed_number_checks}
use Rattle.hk_tailoring.specs.Widths.{identity_checks}
use Rattle.hk_tailoring.proofs.CheckLemmas.{passes-exit, first_fault-passed, first_fault-stopped}
use Rattle.hk_tailoring.proofs.widths.read_identity.Goals as goal

pub returns-in_err-version-clause-checked : goal.returns-in_err-version-clause-checked
unfolding identity_checks
returns-in_err-version-clause-checked c =
    let s = section_of c.args.document.now in
    let fault = c.in_err-version.field-0.0 in
    passes-exit (needed_number_checks s (codes "version") 1 2 ++ (needed_number_checks s (codes "apid") 0 2046 ++ (needed_number_checks s (codes "ground") 0 65535))) c.from_residual.result fault c.from_residual.ensures.1
    (λ not_memory. first_fault-stopped (needed_number_checks s (codes "version") 1 2) (needed_number_checks s (codes "apid") 0 2046 ++ (needed_number_checks s (codes "ground") 0 65535)) fault (c.in_err-version.ensures.number not_memory))

pub returns-in_err-apid-clause-checked : goal.returns-in_err-apid-clause-checked
unfolding identity_checks
returns-in_err-apid-clause-checked c =
    let s = section_of c.args.document.now in
    let fault = c.in_err-apid.field-0.0 in
    passes-exit (needed_number_checks s (codes "version") 1 2 ++ (needed_number_checks s (codes "apid") 0 2046 ++ (needed_number_checks s (codes "ground") 0 65535))) c.from_residual-in_err-apid.result fault c.from_residual-in_err-apid.ensures.1
    (λ not_memory. first_fault-passed (needed_number_checks s (codes "version") 1 2) (needed_number_checks s (codes "apid") 0 2046 ++ (needed_number_checks s (codes "ground") 0 65535)) c.in_ok-version.ensures.number.0 ∙ (first_fault-stopped (needed_number_checks s (codes "apid") 0 2046) (needed_number_checks s (codes "ground") 0 65535) fault (c.in_err-apid.ensures.number not_memory)))

pub returns-in_err-address-clause-checked : goal.returns-in_err-address-clause-checked
unfolding identity_checks
returns-in_err-address-clause-checked c =
    let s = section_of c.args.document.now in
    let fault = c.in_err-address.field-0.0 in
    passes-exit (needed_number_checks s (codes "version") 1 2 ++ (needed_number_checks s (codes "apid") 0 2046 ++ (needed_number_checks s (codes "ground") 0 65535))) c.from_residual-in_err-address.result fault c.from_residual-in_err-address.ensures.1
    (λ not_memory. first_fault-passed (needed_number_checks s (codes "version") 1 2) (needed_number_checks s (codes "apid") 0 2046 ++ (needed_number_checks s (codes "ground") 0 65535)) c.in_ok-version.ensures.number.0 ∙ (first_fault-passed (needed_number_checks s (codes "apid") 0 2046) (needed_number_checks s (codes "ground") 0 65535) c.in_ok-apid.ensures.number.0 ∙ (c.in_err-address.ensures.number not_memory)))

pub returns-clause-checked : goal.returns-clause-checked
unfolding identity_checks
returns-clause-checked c =
    let s = section_of c.args.document.now in
    first_fault-passed (needed_number_checks s (codes "version") 1 2) (needed_number_checks s (codes "apid") 0 2046 ++ (needed_number_checks s (codes "ground") 0 65535)) c.in_ok-version.ensures.number.0 ∙ (first_fault-passed (needed_number_checks s (codes "apid") 0 2046) (needed_number_checks s (codes "ground") 0 65535) c.in_ok-apid.ensures.number.0 ∙ (c.in_ok-address.ensures.number.0))
