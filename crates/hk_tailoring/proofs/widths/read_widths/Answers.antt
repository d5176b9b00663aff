use Rattle.std.proofs.Common.{◌∙◌, ◌++◌, codes, ap, sym}
use Rattle.hk_tailoring.specs.Checks.{first_fault}
use Rattle.hk_tailoring.specs.Keys.{section_of, natural_at}
use Rattle.hk_tailoring.specs.Widths.{width_checks, identity_checks, time_checks, checksum_checks, id_octets_checks, count_octets_checks, limit_checks}
use Rattle.hk_tailoring.proofs.CheckLemmas.{passes-exit, first_fault-passed, first_fault-stopped}
use Rattle.hk_tailoring.proofs.widths.read_widths.Goals as goal

pub returns-in_err-identity-clause-checked : goal.returns-in_err-identity-clause-checked
unfolding width_checks
returns-in_err-identity-clause-checked c =
    let s = section_of c.args.document.now in
    let fault = c.in_err-identity.field-0.0 in
    passes-exit (identity_checks s ++ (time_checks s ++ (checksum_checks s ++ (id_octets_checks s ++ (count_octets_checks s ++ (limit_checks s (natural_at s (codes "interval_octets") 2))))))) c.from_residual.result fault c.from_residual.ensures.1
    (λ not_memory. first_fault-stopped (identity_checks s) (time_checks s ++ (checksum_checks s ++ (id_octets_checks s ++ (count_octets_checks s ++ (limit_checks s (natural_at s (codes "interval_octets") 2)))))) fault (c.in_err-identity.ensures.checked not_memory))

pub returns-in_err-times-clause-checked : goal.returns-in_err-times-clause-checked
unfolding width_checks
returns-in_err-times-clause-checked c =
    let s = section_of c.args.document.now in
    let fault = c.in_err-times.field-0.0 in
    passes-exit (identity_checks s ++ (time_checks s ++ (checksum_checks s ++ (id_octets_checks s ++ (count_octets_checks s ++ (limit_checks s (natural_at s (codes "interval_octets") 2))))))) c.from_residual-in_err-times.result fault c.from_residual-in_err-times.ensures.1
    (λ not_memory. first_fault-passed (identity_checks s) (time_checks s ++ (checksum_checks s ++ (id_octets_checks s ++ (count_octets_checks s ++ (limit_checks s (natural_at s (codes "interval_octets") 2)))))) c.in_ok-identity.ensures.checked ∙ (first_fault-stopped (time_checks s) (checksum_checks s ++ (id_octets_checks s ++ (count_octets_checks s ++ (limit_checks s (natural_at s (codes "interval_octets") 2))))) fault (c.in_err-times.ensures.checked not_memory)))

pub returns-in_err-checksums-clause-checked : goal.returns-in_err-checksums-clause-checked
unfolding width_checks
returns-in_err-checksums-clause-checked c =
    let s = section_of c.args.document.now in
    let fault = c.in_err-checksums.field-0.0 in
    passes-exit (identity_checks s ++ (time_checks s ++ (checksum_checks s ++ (id_octets_checks s ++ (count_octets_checks s ++ (limit_checks s (natural_at s (codes "interval_octets") 2))))))) c.from_residual-in_err-checksums.result fault c.from_residual-in_err-checksums.ensures.1
    (λ not_memory. first_fault-passed (identity_checks s) (time_checks s ++ (checksum_checks s ++ (id_octets_checks s ++ (count_octets_checks s ++ (limit_checks s (natural_at s (codes "interval_octets") 2)))))) c.in_ok-identity.ensures.checked ∙ (first_fault-passed (time_checks s) (checksum_checks s ++ (id_octets_checks s ++ (count_octets_checks s ++ (limit_checks s (natural_at s (codes "interval_octets") 2))))) c.in_ok-times.ensures.checked ∙ (first_fault-stopped (checksum_checks s) (id_octets_checks s ++ (count_octets_checks s ++ (limit_checks s (natural_at s (codes "interval_octets") 2)))) fault (c.in_err-checksums.ensures.checked not_memory))))

pub returns-in_err-ids-clause-checked : goal.returns-in_err-ids-clause-checked
unfolding width_checks
returns-in_err-ids-clause-checked c =
    let s = section_of c.args.document.now in
    let fault = c.in_err-ids.field-0.0 in
    passes-exit (identity_checks s ++ (time_checks s ++ (checksum_checks s ++ (id_octets_checks s ++ (count_octets_checks s ++ (limit_checks s (natural_at s (codes "interval_octets") 2))))))) c.from_residual-in_err-ids.result fault c.from_residual-in_err-ids.ensures.1
    (λ not_memory. first_fault-passed (identity_checks s) (time_checks s ++ (checksum_checks s ++ (id_octets_checks s ++ (count_octets_checks s ++ (limit_checks s (natural_at s (codes "interval_octets") 2)))))) c.in_ok-identity.ensures.checked ∙ (first_fault-passed (time_checks s) (checksum_checks s ++ (id_octets_checks s ++ (count_octets_checks s ++ (limit_checks s (natural_at s (codes "interval_octets") 2))))) c.in_ok-times.ensures.checked ∙ (first_fault-passed (checksum_checks s) (id_octets_checks s ++ (count_octets_checks s ++ (limit_checks s (natural_at s (codes "interval_octets") 2)))) c.in_ok-checksums.ensures.checked ∙ (first_fault-stopped (id_octets_checks s) (count_octets_checks s ++ (limit_checks s (natural_at s (codes "interval_octets") 2))) fault (c.in_err-ids.ensures.checked not_memory)))))

pub returns-in_err-counts-clause-checked : goal.returns-in_err-counts-clause-checked
unfolding width_checks
returns-in_err-counts-clause-checked c =
    let s = section_of c.args.document.now in
    let fault = c.in_err-counts.field-0.0 in
    passes-exit (identity_checks s ++ (time_checks s ++ (checksum_checks s ++ (id_octets_checks s ++ (count_octets_checks s ++ (limit_checks s (natural_at s (codes "interval_octets") 2))))))) c.from_residual-in_err-counts.result fault c.from_residual-in_err-counts.ensures.1
    (λ not_memory. first_fault-passed (identity_checks s) (time_checks s ++ (checksum_checks s ++ (id_octets_checks s ++ (count_octets_checks s ++ (limit_checks s (natural_at s (codes "interval_octets") 2)))))) c.in_ok-identity.ensures.checked ∙ (first_fault-passed (time_checks s) (checksum_checks s ++ (id_octets_checks s ++ (count_octets_checks s ++ (limit_checks s (natural_at s (codes "interval_octets") 2))))) c.in_ok-times.ensures.checked ∙ (first_fault-passed (checksum_checks s) (id_octets_checks s ++ (count_octets_checks s ++ (limit_checks s (natural_at s (codes "interval_octets") 2)))) c.in_ok-checksums.ensures.checked ∙ (first_fault-passed (id_octets_checks s) (count_octets_checks s ++ (limit_checks s (natural_at s (codes "interval_octets") 2))) c.in_ok-ids.ensures.checked ∙ (first_fault-stopped (count_octets_checks s) (limit_checks s (natural_at s (codes "interval_octets") 2)) fault (c.in_err-counts.ensures.checked not_memory))))))

pub returns-in_err-limits-clause-checked : goal.returns-in_err-limits-clause-checked
unfolding width_checks
returns-in_err-limits-clause-checked c =
    let s = section_of c.args.document.now in
    let fault = c.in_err-limits.field-0.0 in
    passes-exit (identity_checks s ++ (time_checks s ++ (checksum_checks s ++ (id_octets_checks s ++ (count_octets_checks s ++ (limit_checks s (natural_at s (codes "interval_octets") 2))))))) c.from_residual-in_err-limits.result fault c.from_residual-in_err-limits.ensures.1
    (λ not_memory. first_fault-passed (identity_checks s) (time_checks s ++ (checksum_checks s ++ (id_octets_checks s ++ (count_octets_checks s ++ (limit_checks s (natural_at s (codes "interval_octets") 2)))))) c.in_ok-identity.ensures.checked ∙ (first_fault-passed (time_checks s) (checksum_checks s ++ (id_octets_checks s ++ (count_octets_checks s ++ (limit_checks s (natural_at s (codes "interval_octets") 2))))) c.in_ok-times.ensures.checked ∙ (first_fault-passed (checksum_checks s) (id_octets_checks s ++ (count_octets_checks s ++ (limit_checks s (natural_at s (codes "interval_octets") 2)))) c.in_ok-checksums.ensures.checked ∙ (first_fault-passed (id_octets_checks s) (count_octets_checks s ++ (limit_checks s (natural_at s (codes "interval_octets") 2))) c.in_ok-ids.ensures.checked ∙ (first_fault-passed (count_octets_checks s) (limit_checks s (natural_at s (codes "interval_octets") 2)) c.in_ok-counts.ensures.checked ∙ (ap (λ n. first_fault (limit_checks s n)) (sym c.in_ok-ids.ensures.interval.0) ∙ c.in_err-limits.ensures.checked not_memory))))))

pub returns-clause-checked : goal.returns-clause-checked
unfolding width_checks
returns-clause-checked c =
    let s = section_of c.args.document.now in
    first_fault-passed (identity_checks s) (time_checks s ++ (checksum_checks s ++ (id_octets_checks s ++ (count_octets_checks s ++ (limit_checks s (natural_at s (codes "interval_octets") 2)))))) c.in_ok-identity.ensures.checked ∙ (first_fault-passed (time_checks s) (checksum_checks s ++ (id_octets_checks s ++ (count_octets_checks s ++ (limit_checks s (natural_at s (codes "interval_octets") 2))))) c.in_ok-times.ensures.checked ∙ (first_fault-passed (checksum_checks s) (id_octets_checks s ++ (count_octets_checks s ++ (limit_checks s (natural_at s (codes "interval_octets") 2)))) c.in_ok-checksums.ensures.checked ∙ (first_fault-passed (id_octets_checks s) (count_octets_checks s ++ (limit_checks s (natural_at s (codes "interval_octets") 2))) c.in_ok-ids.ensures.checked ∙ (first_fault-passed (count_octets_checks s) (limit_checks s (natural_at s (codes "interval_octets") 2)) c.in_ok-counts.ensures.checked ∙ (ap (λ n. first_fault (limit_checks s n)) (sym c.in_ok-ids.ensures.interval.0) ∙ c.in_ok-limits.ensures.checked)))))
