use Rattle.std.proofs.Common.{◌≡◌, ◌∙◌, ◌++◌, ◌∷◌, [], ◌+◌, ◌*◌, ◌/◌, codes, ap, sym, subst, arith, rules, MatchBool}
use Rattle.std.specs.Prelude.{⊤}
use Rattle.std.proofs.Math.Nat.{one-le-pow}
use Rattle.hk_tailoring.specs.declared.section.TableKind.TheVariants as table
use Rattle.hk_tailoring.specs.Checks.{first_fault}
use Rattle.hk_tailoring.specs.Keys.{section_of, needed_number_checks}
use Rattle.hk_tailoring.specs.Known.{known_check, known_keys}
use Rattle.hk_tailoring.specs.Widths.{greatest_in}
use Rattle.hk_tailoring.specs.Params.{param_checks, form_checks, form_name_in, form_of, bits_checks, bits_in, values_checks, initial_checks, param_known_check}
use Rattle.hk_tailoring.proofs.NumberLemmas.{octets-bits}
use Rattle.hk_tailoring.proofs.CheckLemmas.{passes-exit, first_fault-passed, first_fault-stopped}
use Rattle.hk_tailoring.proofs.params.read_param.Goals as goal

pub returns-clause-fit : goal.returns-clause-fit
returns-clause-fit c =
    let octets = c.args.widths.now.parameter_octets in
    let bits = c.in_ok-bits.bits in
    let width : c.div_ceil.result ≡ (bits + 7) / 8 = search rules in
    record {
      id = omega (arith, c.in_ok-id.ensures.within.1, c.greatest_in.ensures, octets-bits octets, one-le-pow octets 256 (omega arith));
      shape = record { bits = c.in_ok-bits.ensures.within; octets = width; form = c.in_ok-form.ensures.fit };
      whole = subst (λ n. MatchBool c.args.widths.now.packed ⊤ (bits ≡ 8 * n)) (sym width) c.in_ok-bits.ensures.whole;
      initial = c.in_ok-initial.ensures.fit;
    }

pub returns-in_err-id-clause-checked : goal.returns-in_err-id-clause-checked
unfolding param_checks
returns-in_err-id-clause-checked c =
    let s = section_of c.args.section.now in
    let packed = c.args.widths.now.packed in
    let fault = c.in_err-id.field-0.0 in
    passes-exit (needed_number_checks s (codes "id") 0 (greatest_in (8 * c.args.widths.now.parameter_octets)) ++ (form_checks s ++ (bits_checks packed s ++ (values_checks (form_name_in s) (bits_in packed s) s ++ (initial_checks (form_of (form_name_in s) s) (bits_in packed s) s ++ (param_known_check packed (form_name_in s) s ∷ [])))))) c.from_residual.result fault c.from_residual.ensures.1
    (λ not_memory. first_fault-stopped (needed_number_checks s (codes "id") 0 (greatest_in (8 * c.args.widths.now.parameter_octets))) (form_checks s ++ (bits_checks packed s ++ (values_checks (form_name_in s) (bits_in packed s) s ++ (initial_checks (form_of (form_name_in s) s) (bits_in packed s) s ++ (param_known_check packed (form_name_in s) s ∷ []))))) fault (ap (λ n. first_fault (needed_number_checks s (codes "id") 0 n)) (sym c.greatest_in.ensures) ∙ c.in_err-id.ensures.number not_memory))

pub returns-in_err-name-clause-checked : goal.returns-in_err-name-clause-checked
unfolding param_checks
returns-in_err-name-clause-checked c =
    let s = section_of c.args.section.now in
    let packed = c.args.widths.now.packed in
    let fault = c.in_err-name.field-0.0 in
    passes-exit (needed_number_checks s (codes "id") 0 (greatest_in (8 * c.args.widths.now.parameter_octets)) ++ (form_checks s ++ (bits_checks packed s ++ (values_checks (form_name_in s) (bits_in packed s) s ++ (initial_checks (form_of (form_name_in s) s) (bits_in packed s) s ++ (param_known_check packed (form_name_in s) s ∷ [])))))) c.from_residual-in_err-name.result fault c.from_residual-in_err-name.ensures.1
    (λ not_memory. first_fault-passed (needed_number_checks s (codes "id") 0 (greatest_in (8 * c.args.widths.now.parameter_octets))) (form_checks s ++ (bits_checks packed s ++ (values_checks (form_name_in s) (bits_in packed s) s ++ (initial_checks (form_of (form_name_in s) s) (bits_in packed s) s ++ (param_known_check packed (form_name_in s) s ∷ []))))) (ap (λ n. first_fault (needed_number_checks s (codes "id") 0 n)) (sym c.greatest_in.ensures) ∙ c.in_ok-id.ensures.number.0) ∙ (first_fault-stopped (form_checks s) (bits_checks packed s ++ (values_checks (form_name_in s) (bits_in packed s) s ++ (initial_checks (form_of (form_name_in s) s) (bits_in packed s) s ++ (param_known_check packed (form_name_in s) s ∷ [])))) fault (c.in_err-name.ensures.name not_memory)))

pub returns-in_err-bits-clause-checked : goal.returns-in_err-bits-clause-checked
unfolding param_checks
returns-in_err-bits-clause-checked c =
    let s = section_of c.args.section.now in
    let packed = c.args.widths.now.packed in
    let fault = c.in_err-bits.field-0.0 in
    passes-exit (needed_number_checks s (codes "id") 0 (greatest_in (8 * c.args.widths.now.parameter_octets)) ++ (form_checks s ++ (bits_checks packed s ++ (values_checks (form_name_in s) (bits_in packed s) s ++ (initial_checks (form_of (form_name_in s) s) (bits_in packed s) s ++ (param_known_check packed (form_name_in s) s ∷ [])))))) c.from_residual-in_err-bits.result fault c.from_residual-in_err-bits.ensures.1
    (λ not_memory. first_fault-passed (needed_number_checks s (codes "id") 0 (greatest_in (8 * c.args.widths.now.parameter_octets))) (form_checks s ++ (bits_checks packed s ++ (values_checks (form_name_in s) (bits_in packed s) s ++ (initial_checks (form_of (form_name_in s) s) (bits_in packed s) s ++ (param_known_check packed (form_name_in s) s ∷ []))))) (ap (λ n. first_fault (needed_number_checks s (codes "id") 0 n)) (sym c.greatest_in.ensures) ∙ c.in_ok-id.ensures.number.0) ∙ (first_fault-passed (form_checks s) (bits_checks packed s ++ (values_checks (form_name_in s) (bits_in packed s) s ++ (initial_checks (form_of (form_name_in s) s) (bits_in packed s) s ++ (param_known_check packed (form_name_in s) s ∷ [])))) c.in_ok-name.ensures.name.0 ∙ (first_fault-stopped (bits_checks packed s) (values_checks (form_name_in s) (bits_in packed s) s ++ (initial_checks (form_of (form_name_in s) s) (bits_in packed s) s ++ (param_known_check packed (form_name_in s) s ∷ []))) fault (c.in_err-bits.ensures.bits not_memory))))

pub returns-in_err-form-clause-checked : goal.returns-in_err-form-clause-checked
unfolding param_checks
returns-in_err-form-clause-checked c =
    let s = section_of c.args.section.now in
    let packed = c.args.widths.now.packed in
    let fault = c.in_err-form.field-0.0 in
    passes-exit (needed_number_checks s (codes "id") 0 (greatest_in (8 * c.args.widths.now.parameter_octets)) ++ (form_checks s ++ (bits_checks packed s ++ (values_checks (form_name_in s) (bits_in packed s) s ++ (initial_checks (form_of (form_name_in s) s) (bits_in packed s) s ++ (param_known_check packed (form_name_in s) s ∷ [])))))) c.from_residual-in_err-form.result fault c.from_residual-in_err-form.ensures.1
    (λ not_memory. first_fault-passed (needed_number_checks s (codes "id") 0 (greatest_in (8 * c.args.widths.now.parameter_octets))) (form_checks s ++ (bits_checks packed s ++ (values_checks (form_name_in s) (bits_in packed s) s ++ (initial_checks (form_of (form_name_in s) s) (bits_in packed s) s ++ (param_known_check packed (form_name_in s) s ∷ []))))) (ap (λ n. first_fault (needed_number_checks s (codes "id") 0 n)) (sym c.greatest_in.ensures) ∙ c.in_ok-id.ensures.number.0) ∙ (first_fault-passed (form_checks s) (bits_checks packed s ++ (values_checks (form_name_in s) (bits_in packed s) s ++ (initial_checks (form_of (form_name_in s) s) (bits_in packed s) s ++ (param_known_check packed (form_name_in s) s ∷ [])))) c.in_ok-name.ensures.name.0 ∙ (first_fault-passed (bits_checks packed s) (values_checks (form_name_in s) (bits_in packed s) s ++ (initial_checks (form_of (form_name_in s) s) (bits_in packed s) s ++ (param_known_check packed (form_name_in s) s ∷ []))) c.in_ok-bits.ensures.bits.0 ∙ (first_fault-stopped (values_checks (form_name_in s) (bits_in packed s) s) (initial_checks (form_of (form_name_in s) s) (bits_in packed s) s ++ (param_known_check packed (form_name_in s) s ∷ [])) fault (ap (λ n. first_fault (values_checks n (bits_in packed s) s)) (sym c.in_ok-name.ensures.name.1) ∙ ap (λ b. first_fault (values_checks c.in_ok-name.name b s)) (sym c.in_ok-bits.ensures.bits.1) ∙ c.in_err-form.ensures.form not_memory)))))

pub returns-in_err-initial-clause-checked : goal.returns-in_err-initial-clause-checked
unfolding param_checks
returns-in_err-initial-clause-checked c =
    let s = section_of c.args.section.now in
    let packed = c.args.widths.now.packed in
    let fault = c.in_err-initial.field-0.0 in
    passes-exit (needed_number_checks s (codes "id") 0 (greatest_in (8 * c.args.widths.now.parameter_octets)) ++ (form_checks s ++ (bits_checks packed s ++ (values_checks (form_name_in s) (bits_in packed s) s ++ (initial_checks (form_of (form_name_in s) s) (bits_in packed s) s ++ (param_known_check packed (form_name_in s) s ∷ [])))))) c.from_residual-in_err-initial.result fault c.from_residual-in_err-initial.ensures.1
    (λ not_memory. first_fault-passed (needed_number_checks s (codes "id") 0 (greatest_in (8 * c.args.widths.now.parameter_octets))) (form_checks s ++ (bits_checks packed s ++ (values_checks (form_name_in s) (bits_in packed s) s ++ (initial_checks (form_of (form_name_in s) s) (bits_in packed s) s ++ (param_known_check packed (form_name_in s) s ∷ []))))) (ap (λ n. first_fault (needed_number_checks s (codes "id") 0 n)) (sym c.greatest_in.ensures) ∙ c.in_ok-id.ensures.number.0) ∙ (first_fault-passed (form_checks s) (bits_checks packed s ++ (values_checks (form_name_in s) (bits_in packed s) s ++ (initial_checks (form_of (form_name_in s) s) (bits_in packed s) s ++ (param_known_check packed (form_name_in s) s ∷ [])))) c.in_ok-name.ensures.name.0 ∙ (first_fault-passed (bits_checks packed s) (values_checks (form_name_in s) (bits_in packed s) s ++ (initial_checks (form_of (form_name_in s) s) (bits_in packed s) s ++ (param_known_check packed (form_name_in s) s ∷ []))) c.in_ok-bits.ensures.bits.0 ∙ (first_fault-passed (values_checks (form_name_in s) (bits_in packed s) s) (initial_checks (form_of (form_name_in s) s) (bits_in packed s) s ++ (param_known_check packed (form_name_in s) s ∷ [])) (ap (λ n. first_fault (values_checks n (bits_in packed s) s)) (sym c.in_ok-name.ensures.name.1) ∙ ap (λ b. first_fault (values_checks c.in_ok-name.name b s)) (sym c.in_ok-bits.ensures.bits.1) ∙ c.in_ok-form.ensures.form.0) ∙ (first_fault-stopped (initial_checks (form_of (form_name_in s) s) (bits_in packed s) s) (param_known_check packed (form_name_in s) s ∷ []) fault (ap (λ n. first_fault (initial_checks (form_of n s) (bits_in packed s) s)) (sym c.in_ok-name.ensures.name.1) ∙ ap (λ f. first_fault (initial_checks f (bits_in packed s) s)) (sym c.in_ok-form.ensures.form.1) ∙ ap (λ b. first_fault (initial_checks c.in_ok-form.form b s)) (sym c.in_ok-bits.ensures.bits.1) ∙ c.in_err-initial.ensures.initial not_memory))))))

pub returns-in_err-only-clause-checked : goal.returns-in_err-only-clause-checked
unfolding param_checks
returns-in_err-only-clause-checked c =
    let s = section_of c.args.section.now in
    let packed = c.args.widths.now.packed in
    let fault = c.in_err-only.field-0.0 in
    passes-exit (needed_number_checks s (codes "id") 0 (greatest_in (8 * c.args.widths.now.parameter_octets)) ++ (form_checks s ++ (bits_checks packed s ++ (values_checks (form_name_in s) (bits_in packed s) s ++ (initial_checks (form_of (form_name_in s) s) (bits_in packed s) s ++ (param_known_check packed (form_name_in s) s ∷ [])))))) c.from_residual-in_err-only.result fault c.from_residual-in_err-only.ensures.1
    (λ not_memory. first_fault-passed (needed_number_checks s (codes "id") 0 (greatest_in (8 * c.args.widths.now.parameter_octets))) (form_checks s ++ (bits_checks packed s ++ (values_checks (form_name_in s) (bits_in packed s) s ++ (initial_checks (form_of (form_name_in s) s) (bits_in packed s) s ++ (param_known_check packed (form_name_in s) s ∷ []))))) (ap (λ n. first_fault (needed_number_checks s (codes "id") 0 n)) (sym c.greatest_in.ensures) ∙ c.in_ok-id.ensures.number.0) ∙ (first_fault-passed (form_checks s) (bits_checks packed s ++ (values_checks (form_name_in s) (bits_in packed s) s ++ (initial_checks (form_of (form_name_in s) s) (bits_in packed s) s ++ (param_known_check packed (form_name_in s) s ∷ [])))) c.in_ok-name.ensures.name.0 ∙ (first_fault-passed (bits_checks packed s) (values_checks (form_name_in s) (bits_in packed s) s ++ (initial_checks (form_of (form_name_in s) s) (bits_in packed s) s ++ (param_known_check packed (form_name_in s) s ∷ []))) c.in_ok-bits.ensures.bits.0 ∙ (first_fault-passed (values_checks (form_name_in s) (bits_in packed s) s) (initial_checks (form_of (form_name_in s) s) (bits_in packed s) s ++ (param_known_check packed (form_name_in s) s ∷ [])) (ap (λ n. first_fault (values_checks n (bits_in packed s) s)) (sym c.in_ok-name.ensures.name.1) ∙ ap (λ b. first_fault (values_checks c.in_ok-name.name b s)) (sym c.in_ok-bits.ensures.bits.1) ∙ c.in_ok-form.ensures.form.0) ∙ (first_fault-passed (initial_checks (form_of (form_name_in s) s) (bits_in packed s) s) (param_known_check packed (form_name_in s) s ∷ []) (ap (λ n. first_fault (initial_checks (form_of n s) (bits_in packed s) s)) (sym c.in_ok-name.ensures.name.1) ∙ ap (λ f. first_fault (initial_checks f (bits_in packed s) s)) (sym c.in_ok-form.ensures.form.1) ∙ ap (λ b. first_fault (initial_checks c.in_ok-form.form b s)) (sym c.in_ok-bits.ensures.bits.1) ∙ c.in_ok-initial.ensures.initial.0) ∙ (ap (λ n. first_fault (param_known_check packed n s ∷ [])) (sym c.in_ok-name.ensures.name.1) ∙ ap (λ e. first_fault (known_check s (known_keys (table.Parameter packed e)) ∷ [])) (sym c.is_enumerated.ensures) ∙ c.in_err-only.ensures.checked not_memory))))))

pub returns-clause-checked : goal.returns-clause-checked
unfolding param_checks
returns-clause-checked c =
    let s = section_of c.args.section.now in
    let packed = c.args.widths.now.packed in
    first_fault-passed (needed_number_checks s (codes "id") 0 (greatest_in (8 * c.args.widths.now.parameter_octets))) (form_checks s ++ (bits_checks packed s ++ (values_checks (form_name_in s) (bits_in packed s) s ++ (initial_checks (form_of (form_name_in s) s) (bits_in packed s) s ++ (param_known_check packed (form_name_in s) s ∷ []))))) (ap (λ n. first_fault (needed_number_checks s (codes "id") 0 n)) (sym c.greatest_in.ensures) ∙ c.in_ok-id.ensures.number.0) ∙ (first_fault-passed (form_checks s) (bits_checks packed s ++ (values_checks (form_name_in s) (bits_in packed s) s ++ (initial_checks (form_of (form_name_in s) s) (bits_in packed s) s ++ (param_known_check packed (form_name_in s) s ∷ [])))) c.in_ok-name.ensures.name.0 ∙ (first_fault-passed (bits_checks packed s) (values_checks (form_name_in s) (bits_in packed s) s ++ (initial_checks (form_of (form_name_in s) s) (bits_in packed s) s ++ (param_known_check packed (form_name_in s) s ∷ []))) c.in_ok-bits.ensures.bits.0 ∙ (first_fault-passed (values_checks (form_name_in s) (bits_in packed s) s) (initial_checks (form_of (form_name_in s) s) (bits_in packed s) s ++ (param_known_check packed (form_name_in s) s ∷ [])) (ap (λ n. first_fault (values_checks n (bits_in packed s) s)) (sym c.in_ok-name.ensures.name.1) ∙ ap (λ b. first_fault (values_checks c.in_ok-name.name b s)) (sym c.in_ok-bits.ensures.bits.1) ∙ c.in_ok-form.ensures.form.0) ∙ (first_fault-passed (initial_checks (form_of (form_name_in s) s) (bits_in packed s) s) (param_known_check packed (form_name_in s) s ∷ []) (ap (λ n. first_fault (initial_checks (form_of n s) (bits_in packed s) s)) (sym c.in_ok-name.ensures.name.1) ∙ ap (λ f. first_fault (initial_checks f (bits_in packed s) s)) (sym c.in_ok-form.ensures.form.1) ∙ ap (λ b. first_fault (initial_checks c.in_ok-form.form b s)) (sym c.in_ok-bits.ensures.bits.1) ∙ c.in_ok-initial.ensures.initial.0) ∙ (ap (λ n. first_fault (param_known_check packed n s ∷ [])) (sym c.in_ok-name.ensures.name.1) ∙ ap (λ e. first_fault (known_check s (known_keys (table.Parameter packed e)) ∷ [])) (sym c.is_enumerated.ensures) ∙ c.in_ok-only.ensures.checked)))))
