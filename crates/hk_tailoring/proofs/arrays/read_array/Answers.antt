use Rattle.std.proofs.Common.{◌∙◌, ◌++◌, ◌∷◌, [], ◌*◌, codes, ap, sym, arith}
use Rattle.std.proofs.Math.Nat.{one-le-pow}
use Rattle.hk_tailoring.specs.declared.section.TableKind.TheVariants as table
use Rattle.hk_tailoring.specs.Checks.{first_fault}
use Rattle.hk_tailoring.specs.Keys.{section_of, needed_number_checks, needed_numbers_checks}
use Rattle.hk_tailoring.specs.Known.{known_check, known_keys}
use Rattle.hk_tailoring.specs.Widths.{greatest_in}
use Rattle.hk_tailoring.specs.Structures.{array_checks}
use Rattle.hk_tailoring.proofs.NumberLemmas.{octets-bits}
use Rattle.hk_tailoring.proofs.CheckLemmas.{passes-exit, first_fault-passed, first_fault-stopped}
use Rattle.hk_tailoring.proofs.arrays.read_array.Goals as goal

pub returns-clause-fit : goal.returns-clause-fit
returns-clause-fit c =
    let octets = c.args.widths.now.repetition_octets in
    record {
      members = c.in_ok-params.ensures.within.0;
      few = c.in_ok-params.ensures.within.1;
      repeated = c.in_ok-repetition.ensures.within.0;
      field = omega (arith, c.in_ok-repetition.ensures.within.1, c.greatest_in.ensures, octets-bits octets, one-le-pow octets 256 (omega arith));
    }

pub returns-in_err-repetition-clause-checked : goal.returns-in_err-repetition-clause-checked
unfolding array_checks
returns-in_err-repetition-clause-checked c =
    let s = section_of c.args.section.now in
    let w = c.args.widths.now in
    let fault = c.in_err-repetition.field-0.0 in
    passes-exit (needed_number_checks s (codes "repetition") 1 (greatest_in (8 * w.repetition_octets)) ++ (needed_numbers_checks s (codes "parameters") 1 255 (greatest_in (8 * w.parameter_octets)) ++ (known_check s (known_keys table.Array) ∷ []))) c.from_residual.result fault c.from_residual.ensures.1
    (λ not_memory. first_fault-stopped (needed_number_checks s (codes "repetition") 1 (greatest_in (8 * w.repetition_octets))) (needed_numbers_checks s (codes "parameters") 1 255 (greatest_in (8 * w.parameter_octets)) ++ (known_check s (known_keys table.Array) ∷ [])) fault (ap (λ n. first_fault (needed_number_checks s (codes "repetition") 1 n)) (sym c.greatest_in.ensures) ∙ c.in_err-repetition.ensures.number not_memory))

pub returns-in_err-params-clause-checked : goal.returns-in_err-params-clause-checked
unfolding array_checks
returns-in_err-params-clause-checked c =
    let s = section_of c.args.section.now in
    let w = c.args.widths.now in
    let fault = c.in_err-params.field-0.0 in
    passes-exit (needed_number_checks s (codes "repetition") 1 (greatest_in (8 * w.repetition_octets)) ++ (needed_numbers_checks s (codes "parameters") 1 255 (greatest_in (8 * w.parameter_octets)) ++ (known_check s (known_keys table.Array) ∷ []))) c.from_residual-in_err-params.result fault c.from_residual-in_err-params.ensures.1
    (λ not_memory. first_fault-passed (needed_number_checks s (codes "repetition") 1 (greatest_in (8 * w.repetition_octets))) (needed_numbers_checks s (codes "parameters") 1 255 (greatest_in (8 * w.parameter_octets)) ++ (known_check s (known_keys table.Array) ∷ [])) (ap (λ n. first_fault (needed_number_checks s (codes "repetition") 1 n)) (sym c.greatest_in.ensures) ∙ c.in_ok-repetition.ensures.number.0) ∙ (first_fault-stopped (needed_numbers_checks s (codes "parameters") 1 255 (greatest_in (8 * w.parameter_octets))) (known_check s (known_keys table.Array) ∷ []) fault (ap (λ n. first_fault (needed_numbers_checks s (codes "parameters") 1 255 n)) (sym c.greatest_in-2.ensures) ∙ c.in_err-params.ensures.ids not_memory)))

pub returns-in_err-only-clause-checked : goal.returns-in_err-only-clause-checked
unfolding array_checks
returns-in_err-only-clause-checked c =
    let s = section_of c.args.section.now in
    let w = c.args.widths.now in
    let fault = c.in_err-only.field-0.0 in
    passes-exit (needed_number_checks s (codes "repetition") 1 (greatest_in (8 * w.repetition_octets)) ++ (needed_numbers_checks s (codes "parameters") 1 255 (greatest_in (8 * w.parameter_octets)) ++ (known_check s (known_keys table.Array) ∷ []))) c.from_residual-in_err-only.result fault c.from_residual-in_err-only.ensures.1
    (λ not_memory. first_fault-passed (needed_number_checks s (codes "repetition") 1 (greatest_in (8 * w.repetition_octets))) (needed_numbers_checks s (codes "parameters") 1 255 (greatest_in (8 * w.parameter_octets)) ++ (known_check s (known_keys table.Array) ∷ [])) (ap (λ n. first_fault (needed_number_checks s (codes "repetition") 1 n)) (sym c.greatest_in.ensures) ∙ c.in_ok-repetition.ensures.number.0) ∙ (first_fault-passed (needed_numbers_checks s (codes "parameters") 1 255 (greatest_in (8 * w.parameter_octets))) (known_check s (known_keys table.Array) ∷ []) (ap (λ n. first_fault (needed_numbers_checks s (codes "parameters") 1 255 n)) (sym c.greatest_in-2.ensures) ∙ c.in_ok-params.ensures.ids.0) ∙ (c.in_err-only.ensures.checked not_memory)))

pub returns-clause-checked : goal.returns-clause-checked
unfolding array_checks
returns-clause-checked c =
    let s = section_of c.args.section.now in
    let w = c.args.widths.now in
    first_fault-passed (needed_number_checks s (codes "repetition") 1 (greatest_in (8 * w.repetition_octets))) (needed_numbers_checks s (codes "parameters") 1 255 (greatest_in (8 * w.parameter_octets)) ++ (known_check s (known_keys table.Array) ∷ [])) (ap (λ n. first_fault (needed_number_checks s (codes "repetition") 1 n)) (sym c.greatest_in.ensures) ∙ c.in_ok-repetition.ensures.number.0) ∙ (first_fault-passed (needed_numbers_checks s (codes "parameters") 1 255 (greatest_in (8 * w.parameter_octets))) (known_check s (known_keys table.Array) ∷ []) (ap (λ n. first_fault (needed_numbers_checks s (codes "parameters") 1 255 n)) (sym c.greatest_in-2.ensures) ∙ c.in_ok-params.ensures.ids.0) ∙ (c.in_ok-only.ensures.checked))
