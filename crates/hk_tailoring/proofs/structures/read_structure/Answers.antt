use Rattle.std.proofs.Common.{◌∙◌, ◌++◌, ◌∷◌, [], ◌*◌, codes, ap, sym, subst, length, List, arith}
use Rattle.std.proofs.Math.Nat.{one-le-pow}
use Rattle.std.specs.List.{AllByRecursion}
use Rattle.hk_base.specs.declared.types.SuperList.{SuperList}
use Rattle.hk_tailoring.specs.declared.section.TableKind.TheVariants as table
use Rattle.hk_tailoring.specs.Checks.{first_fault}
use Rattle.hk_tailoring.specs.Keys.{section_of, needed_number_checks, numbers_checks, flag_checks, tables_checks}
use Rattle.hk_tailoring.specs.Known.{known_check, known_keys}
use Rattle.hk_tailoring.specs.Widths.{greatest_in}
use Rattle.hk_tailoring.specs.Params.{sections}
use Rattle.hk_tailoring.specs.Sizes.{IsFitArray}
use Rattle.hk_tailoring.specs.Structures.{bounds_of, kind_checks, array_place, array_sections, arrays_checks, structure_key_checks}
use Rattle.hk_tailoring.proofs.NumberLemmas.{octets-bits}
use Rattle.hk_tailoring.proofs.CheckLemmas.{passes-exit, first_fault-passed, first_fault-stopped}
use Rattle.hk_tailoring.proofs.structures.read_structure.Goals as goal

pub returns-clause-id : goal.returns-clause-id
returns-clause-id c =
    let octets = c.args.widths.now.structure_octets in
    omega (arith, c.in_ok-id.ensures.within.1, c.greatest_in.ensures, octets-bits octets, one-le-pow octets 256 (omega arith))

pub returns-clause-fit : goal.returns-clause-fit
returns-clause-fit c =
    let arrays = c.from_vec.ensures in
    record {
      interval = (c.in_ok-interval.ensures.within.0, omega (arith, c.in_ok-interval.ensures.within.1, c.from.ensures));
      simple = c.in_ok-simple.ensures.few;
      few_arrays = omega (arith, ap (λ (xs : List SuperList). length xs) arrays, c.in_ok-arrays.ensures.count, c.in_ok-tables.ensures.few);
      arrays = subst (λ (xs : List SuperList). AllByRecursion (IsFitArray c.args.widths.now) xs) (sym arrays) c.in_ok-arrays.ensures.fit;
    }

pub returns-in_err-kind-clause-checked : goal.returns-in_err-kind-clause-checked
unfolding structure_key_checks
returns-in_err-kind-clause-checked c =
    let s = section_of c.args.section.now in
    let w = c.args.widths.now in
    let fault = c.in_err-kind.field-0.0 in
    passes-exit (kind_checks s ++ (needed_number_checks s (codes "id") 0 (greatest_in (8 * w.structure_octets)) ++ (needed_number_checks s (codes "interval") 1 w.max_interval ++ (flag_checks s (codes "enabled") ++ (numbers_checks s (codes "simple") 0 255 (greatest_in (8 * w.parameter_octets)) ++ (tables_checks s (codes "array") 0 255 ++ (arrays_checks (bounds_of w) (array_sections s) ++ (known_check s (known_keys table.Structure) ∷ [])))))))) c.from_residual.result fault c.from_residual.ensures.1
    (λ not_memory. first_fault-stopped (kind_checks s) (needed_number_checks s (codes "id") 0 (greatest_in (8 * w.structure_octets)) ++ (needed_number_checks s (codes "interval") 1 w.max_interval ++ (flag_checks s (codes "enabled") ++ (numbers_checks s (codes "simple") 0 255 (greatest_in (8 * w.parameter_octets)) ++ (tables_checks s (codes "array") 0 255 ++ (arrays_checks (bounds_of w) (array_sections s) ++ (known_check s (known_keys table.Structure) ∷ []))))))) fault (c.in_err-kind.ensures.kind not_memory))

pub returns-in_err-id-clause-checked : goal.returns-in_err-id-clause-checked
unfolding structure_key_checks
returns-in_err-id-clause-checked c =
    let s = section_of c.args.section.now in
    let w = c.args.widths.now in
    let fault = c.in_err-id.field-0.0 in
    passes-exit (kind_checks s ++ (needed_number_checks s (codes "id") 0 (greatest_in (8 * w.structure_octets)) ++ (needed_number_checks s (codes "interval") 1 w.max_interval ++ (flag_checks s (codes "enabled") ++ (numbers_checks s (codes "simple") 0 255 (greatest_in (8 * w.parameter_octets)) ++ (tables_checks s (codes "array") 0 255 ++ (arrays_checks (bounds_of w) (array_sections s) ++ (known_check s (known_keys table.Structure) ∷ [])))))))) c.from_residual-in_err-id.result fault c.from_residual-in_err-id.ensures.1
    (λ not_memory. first_fault-passed (kind_checks s) (needed_number_checks s (codes "id") 0 (greatest_in (8 * w.structure_octets)) ++ (needed_number_checks s (codes "interval") 1 w.max_interval ++ (flag_checks s (codes "enabled") ++ (numbers_checks s (codes "simple") 0 255 (greatest_in (8 * w.parameter_octets)) ++ (tables_checks s (codes "array") 0 255 ++ (arrays_checks (bounds_of w) (array_sections s) ++ (known_check s (known_keys table.Structure) ∷ []))))))) c.in_ok-kind.ensures.kind.0 ∙ (first_fault-stopped (needed_number_checks s (codes "id") 0 (greatest_in (8 * w.structure_octets))) (needed_number_checks s (codes "interval") 1 w.max_interval ++ (flag_checks s (codes "enabled") ++ (numbers_checks s (codes "simple") 0 255 (greatest_in (8 * w.parameter_octets)) ++ (tables_checks s (codes "array") 0 255 ++ (arrays_checks (bounds_of w) (array_sections s) ++ (known_check s (known_keys table.Structure) ∷ [])))))) fault (ap (λ n. first_fault (needed_number_checks s (codes "id") 0 n)) (sym c.greatest_in.ensures) ∙ c.in_err-id.ensures.number not_memory)))

pub returns-in_err-interval-clause-checked : goal.returns-in_err-interval-clause-checked
unfolding structure_key_checks
returns-in_err-interval-clause-checked c =
    let s = section_of c.args.section.now in
    let w = c.args.widths.now in
    let fault = c.in_err-interval.field-0.0 in
    passes-exit (kind_checks s ++ (needed_number_checks s (codes "id") 0 (greatest_in (8 * w.structure_octets)) ++ (needed_number_checks s (codes "interval") 1 w.max_interval ++ (flag_checks s (codes "enabled") ++ (numbers_checks s (codes "simple") 0 255 (greatest_in (8 * w.parameter_octets)) ++ (tables_checks s (codes "array") 0 255 ++ (arrays_checks (bounds_of w) (array_sections s) ++ (known_check s (known_keys table.Structure) ∷ [])))))))) c.from_residual-in_err-interval.result fault c.from_residual-in_err-interval.ensures.1
    (λ not_memory. first_fault-passed (kind_checks s) (needed_number_checks s (codes "id") 0 (greatest_in (8 * w.structure_octets)) ++ (needed_number_checks s (codes "interval") 1 w.max_interval ++ (flag_checks s (codes "enabled") ++ (numbers_checks s (codes "simple") 0 255 (greatest_in (8 * w.parameter_octets)) ++ (tables_checks s (codes "array") 0 255 ++ (arrays_checks (bounds_of w) (array_sections s) ++ (known_check s (known_keys table.Structure) ∷ []))))))) c.in_ok-kind.ensures.kind.0 ∙ (first_fault-passed (needed_number_checks s (codes "id") 0 (greatest_in (8 * w.structure_octets))) (needed_number_checks s (codes "interval") 1 w.max_interval ++ (flag_checks s (codes "enabled") ++ (numbers_checks s (codes "simple") 0 255 (greatest_in (8 * w.parameter_octets)) ++ (tables_checks s (codes "array") 0 255 ++ (arrays_checks (bounds_of w) (array_sections s) ++ (known_check s (known_keys table.Structure) ∷ [])))))) (ap (λ n. first_fault (needed_number_checks s (codes "id") 0 n)) (sym c.greatest_in.ensures) ∙ c.in_ok-id.ensures.number.0) ∙ (first_fault-stopped (needed_number_checks s (codes "interval") 1 w.max_interval) (flag_checks s (codes "enabled") ++ (numbers_checks s (codes "simple") 0 255 (greatest_in (8 * w.parameter_octets)) ++ (tables_checks s (codes "array") 0 255 ++ (arrays_checks (bounds_of w) (array_sections s) ++ (known_check s (known_keys table.Structure) ∷ []))))) fault (ap (λ n. first_fault (needed_number_checks s (codes "interval") 1 n)) (sym c.from.ensures) ∙ c.in_err-interval.ensures.number not_memory))))

pub returns-in_err-enabled-clause-checked : goal.returns-in_err-enabled-clause-checked
unfolding structure_key_checks
returns-in_err-enabled-clause-checked c =
    let s = section_of c.args.section.now in
    let w = c.args.widths.now in
    let fault = c.in_err-enabled.field-0.0 in
    passes-exit (kind_checks s ++ (needed_number_checks s (codes "id") 0 (greatest_in (8 * w.structure_octets)) ++ (needed_number_checks s (codes "interval") 1 w.max_interval ++ (flag_checks s (codes "enabled") ++ (numbers_checks s (codes "simple") 0 255 (greatest_in (8 * w.parameter_octets)) ++ (tables_checks s (codes "array") 0 255 ++ (arrays_checks (bounds_of w) (array_sections s) ++ (known_check s (known_keys table.Structure) ∷ [])))))))) c.from_residual-in_err-enabled.result fault c.from_residual-in_err-enabled.ensures.1
    (λ not_memory. first_fault-passed (kind_checks s) (needed_number_checks s (codes "id") 0 (greatest_in (8 * w.structure_octets)) ++ (needed_number_checks s (codes "interval") 1 w.max_interval ++ (flag_checks s (codes "enabled") ++ (numbers_checks s (codes "simple") 0 255 (greatest_in (8 * w.parameter_octets)) ++ (tables_checks s (codes "array") 0 255 ++ (arrays_checks (bounds_of w) (array_sections s) ++ (known_check s (known_keys table.Structure) ∷ []))))))) c.in_ok-kind.ensures.kind.0 ∙ (first_fault-passed (needed_number_checks s (codes "id") 0 (greatest_in (8 * w.structure_octets))) (needed_number_checks s (codes "interval") 1 w.max_interval ++ (flag_checks s (codes "enabled") ++ (numbers_checks s (codes "simple") 0 255 (greatest_in (8 * w.parameter_octets)) ++ (tables_checks s (codes "array") 0 255 ++ (arrays_checks (bounds_of w) (array_sections s) ++ (known_check s (known_keys table.Structure) ∷ [])))))) (ap (λ n. first_fault (needed_number_checks s (codes "id") 0 n)) (sym c.greatest_in.ensures) ∙ c.in_ok-id.ensures.number.0) ∙ (first_fault-passed (needed_number_checks s (codes "interval") 1 w.max_interval) (flag_checks s (codes "enabled") ++ (numbers_checks s (codes "simple") 0 255 (greatest_in (8 * w.parameter_octets)) ++ (tables_checks s (codes "array") 0 255 ++ (arrays_checks (bounds_of w) (array_sections s) ++ (known_check s (known_keys table.Structure) ∷ []))))) (ap (λ n. first_fault (needed_number_checks s (codes "interval") 1 n)) (sym c.from.ensures) ∙ c.in_ok-interval.ensures.number.0) ∙ (first_fault-stopped (flag_checks s (codes "enabled")) (numbers_checks s (codes "simple") 0 255 (greatest_in (8 * w.parameter_octets)) ++ (tables_checks s (codes "array") 0 255 ++ (arrays_checks (bounds_of w) (array_sections s) ++ (known_check s (known_keys table.Structure) ∷ [])))) fault (c.in_err-enabled.ensures.flag not_memory)))))

pub returns-in_err-simple-clause-checked : goal.returns-in_err-simple-clause-checked
unfolding structure_key_checks
returns-in_err-simple-clause-checked c =
    let s = section_of c.args.section.now in
    let w = c.args.widths.now in
    let fault = c.in_err-simple.field-0.0 in
    passes-exit (kind_checks s ++ (needed_number_checks s (codes "id") 0 (greatest_in (8 * w.structure_octets)) ++ (needed_number_checks s (codes "interval") 1 w.max_interval ++ (flag_checks s (codes "enabled") ++ (numbers_checks s (codes "simple") 0 255 (greatest_in (8 * w.parameter_octets)) ++ (tables_checks s (codes "array") 0 255 ++ (arrays_checks (bounds_of w) (array_sections s) ++ (known_check s (known_keys table.Structure) ∷ [])))))))) c.from_residual-in_err-simple.result fault c.from_residual-in_err-simple.ensures.1
    (λ not_memory. first_fault-passed (kind_checks s) (needed_number_checks s (codes "id") 0 (greatest_in (8 * w.structure_octets)) ++ (needed_number_checks s (codes "interval") 1 w.max_interval ++ (flag_checks s (codes "enabled") ++ (numbers_checks s (codes "simple") 0 255 (greatest_in (8 * w.parameter_octets)) ++ (tables_checks s (codes "array") 0 255 ++ (arrays_checks (bounds_of w) (array_sections s) ++ (known_check s (known_keys table.Structure) ∷ []))))))) c.in_ok-kind.ensures.kind.0 ∙ (first_fault-passed (needed_number_checks s (codes "id") 0 (greatest_in (8 * w.structure_octets))) (needed_number_checks s (codes "interval") 1 w.max_interval ++ (flag_checks s (codes "enabled") ++ (numbers_checks s (codes "simple") 0 255 (greatest_in (8 * w.parameter_octets)) ++ (tables_checks s (codes "array") 0 255 ++ (arrays_checks (bounds_of w) (array_sections s) ++ (known_check s (known_keys table.Structure) ∷ [])))))) (ap (λ n. first_fault (needed_number_checks s (codes "id") 0 n)) (sym c.greatest_in.ensures) ∙ c.in_ok-id.ensures.number.0) ∙ (first_fault-passed (needed_number_checks s (codes "interval") 1 w.max_interval) (flag_checks s (codes "enabled") ++ (numbers_checks s (codes "simple") 0 255 (greatest_in (8 * w.parameter_octets)) ++ (tables_checks s (codes "array") 0 255 ++ (arrays_checks (bounds_of w) (array_sections s) ++ (known_check s (known_keys table.Structure) ∷ []))))) (ap (λ n. first_fault (needed_number_checks s (codes "interval") 1 n)) (sym c.from.ensures) ∙ c.in_ok-interval.ensures.number.0) ∙ (first_fault-passed (flag_checks s (codes "enabled")) (numbers_checks s (codes "simple") 0 255 (greatest_in (8 * w.parameter_octets)) ++ (tables_checks s (codes "array") 0 255 ++ (arrays_checks (bounds_of w) (array_sections s) ++ (known_check s (known_keys table.Structure) ∷ [])))) c.in_ok-enabled.ensures.flag.0 ∙ (first_fault-stopped (numbers_checks s (codes "simple") 0 255 (greatest_in (8 * w.parameter_octets))) (tables_checks s (codes "array") 0 255 ++ (arrays_checks (bounds_of w) (array_sections s) ++ (known_check s (known_keys table.Structure) ∷ []))) fault (ap (λ n. first_fault (numbers_checks s (codes "simple") 0 255 n)) (sym c.greatest_in-2.ensures) ∙ c.in_err-simple.ensures.ids not_memory))))))

pub returns-in_err-tables-clause-checked : goal.returns-in_err-tables-clause-checked
unfolding structure_key_checks
returns-in_err-tables-clause-checked c =
    let s = section_of c.args.section.now in
    let w = c.args.widths.now in
    let fault = c.in_err-tables.field-0.0 in
    passes-exit (kind_checks s ++ (needed_number_checks s (codes "id") 0 (greatest_in (8 * w.structure_octets)) ++ (needed_number_checks s (codes "interval") 1 w.max_interval ++ (flag_checks s (codes "enabled") ++ (numbers_checks s (codes "simple") 0 255 (greatest_in (8 * w.parameter_octets)) ++ (tables_checks s (codes "array") 0 255 ++ (arrays_checks (bounds_of w) (array_sections s) ++ (known_check s (known_keys table.Structure) ∷ [])))))))) c.from_residual-in_err-tables.result fault c.from_residual-in_err-tables.ensures.1
    (λ not_memory. first_fault-passed (kind_checks s) (needed_number_checks s (codes "id") 0 (greatest_in (8 * w.structure_octets)) ++ (needed_number_checks s (codes "interval") 1 w.max_interval ++ (flag_checks s (codes "enabled") ++ (numbers_checks s (codes "simple") 0 255 (greatest_in (8 * w.parameter_octets)) ++ (tables_checks s (codes "array") 0 255 ++ (arrays_checks (bounds_of w) (array_sections s) ++ (known_check s (known_keys table.Structure) ∷ []))))))) c.in_ok-kind.ensures.kind.0 ∙ (first_fault-passed (needed_number_checks s (codes "id") 0 (greatest_in (8 * w.structure_octets))) (needed_number_checks s (codes "interval") 1 w.max_interval ++ (flag_checks s (codes "enabled") ++ (numbers_checks s (codes "simple") 0 255 (greatest_in (8 * w.parameter_octets)) ++ (tables_checks s (codes "array") 0 255 ++ (arrays_checks (bounds_of w) (array_sections s) ++ (known_check s (known_keys table.Structure) ∷ [])))))) (ap (λ n. first_fault (needed_number_checks s (codes "id") 0 n)) (sym c.greatest_in.ensures) ∙ c.in_ok-id.ensures.number.0) ∙ (first_fault-passed (needed_number_checks s (codes "interval") 1 w.max_interval) (flag_checks s (codes "enabled") ++ (numbers_checks s (codes "simple") 0 255 (greatest_in (8 * w.parameter_octets)) ++ (tables_checks s (codes "array") 0 255 ++ (arrays_checks (bounds_of w) (array_sections s) ++ (known_check s (known_keys table.Structure) ∷ []))))) (ap (λ n. first_fault (needed_number_checks s (codes "interval") 1 n)) (sym c.from.ensures) ∙ c.in_ok-interval.ensures.number.0) ∙ (first_fault-passed (flag_checks s (codes "enabled")) (numbers_checks s (codes "simple") 0 255 (greatest_in (8 * w.parameter_octets)) ++ (tables_checks s (codes "array") 0 255 ++ (arrays_checks (bounds_of w) (array_sections s) ++ (known_check s (known_keys table.Structure) ∷ [])))) c.in_ok-enabled.ensures.flag.0 ∙ (first_fault-passed (numbers_checks s (codes "simple") 0 255 (greatest_in (8 * w.parameter_octets))) (tables_checks s (codes "array") 0 255 ++ (arrays_checks (bounds_of w) (array_sections s) ++ (known_check s (known_keys table.Structure) ∷ []))) (ap (λ n. first_fault (numbers_checks s (codes "simple") 0 255 n)) (sym c.greatest_in-2.ensures) ∙ c.in_ok-simple.ensures.ids.0) ∙ (first_fault-stopped (tables_checks s (codes "array") 0 255) (arrays_checks (bounds_of w) (array_sections s) ++ (known_check s (known_keys table.Structure) ∷ [])) fault (c.in_err-tables.ensures.values not_memory)))))))

pub returns-in_err-arrays-clause-checked : goal.returns-in_err-arrays-clause-checked
unfolding structure_key_checks
returns-in_err-arrays-clause-checked c =
    let s = section_of c.args.section.now in
    let w = c.args.widths.now in
    let fault = c.in_err-arrays.field-0.0 in
    passes-exit (kind_checks s ++ (needed_number_checks s (codes "id") 0 (greatest_in (8 * w.structure_octets)) ++ (needed_number_checks s (codes "interval") 1 w.max_interval ++ (flag_checks s (codes "enabled") ++ (numbers_checks s (codes "simple") 0 255 (greatest_in (8 * w.parameter_octets)) ++ (tables_checks s (codes "array") 0 255 ++ (arrays_checks (bounds_of w) (array_sections s) ++ (known_check s (known_keys table.Structure) ∷ [])))))))) c.from_residual-in_err-arrays.result fault c.from_residual-in_err-arrays.ensures.1
    (λ not_memory. first_fault-passed (kind_checks s) (needed_number_checks s (codes "id") 0 (greatest_in (8 * w.structure_octets)) ++ (needed_number_checks s (codes "interval") 1 w.max_interval ++ (flag_checks s (codes "enabled") ++ (numbers_checks s (codes "simple") 0 255 (greatest_in (8 * w.parameter_octets)) ++ (tables_checks s (codes "array") 0 255 ++ (arrays_checks (bounds_of w) (array_sections s) ++ (known_check s (known_keys table.Structure) ∷ []))))))) c.in_ok-kind.ensures.kind.0 ∙ (first_fault-passed (needed_number_checks s (codes "id") 0 (greatest_in (8 * w.structure_octets))) (needed_number_checks s (codes "interval") 1 w.max_interval ++ (flag_checks s (codes "enabled") ++ (numbers_checks s (codes "simple") 0 255 (greatest_in (8 * w.parameter_octets)) ++ (tables_checks s (codes "array") 0 255 ++ (arrays_checks (bounds_of w) (array_sections s) ++ (known_check s (known_keys table.Structure) ∷ [])))))) (ap (λ n. first_fault (needed_number_checks s (codes "id") 0 n)) (sym c.greatest_in.ensures) ∙ c.in_ok-id.ensures.number.0) ∙ (first_fault-passed (needed_number_checks s (codes "interval") 1 w.max_interval) (flag_checks s (codes "enabled") ++ (numbers_checks s (codes "simple") 0 255 (greatest_in (8 * w.parameter_octets)) ++ (tables_checks s (codes "array") 0 255 ++ (arrays_checks (bounds_of w) (array_sections s) ++ (known_check s (known_keys table.Structure) ∷ []))))) (ap (λ n. first_fault (needed_number_checks s (codes "interval") 1 n)) (sym c.from.ensures) ∙ c.in_ok-interval.ensures.number.0) ∙ (first_fault-passed (flag_checks s (codes "enabled")) (numbers_checks s (codes "simple") 0 255 (greatest_in (8 * w.parameter_octets)) ++ (tables_checks s (codes "array") 0 255 ++ (arrays_checks (bounds_of w) (array_sections s) ++ (known_check s (known_keys table.Structure) ∷ [])))) c.in_ok-enabled.ensures.flag.0 ∙ (first_fault-passed (numbers_checks s (codes "simple") 0 255 (greatest_in (8 * w.parameter_octets))) (tables_checks s (codes "array") 0 255 ++ (arrays_checks (bounds_of w) (array_sections s) ++ (known_check s (known_keys table.Structure) ∷ []))) (ap (λ n. first_fault (numbers_checks s (codes "simple") 0 255 n)) (sym c.greatest_in-2.ensures) ∙ c.in_ok-simple.ensures.ids.0) ∙ (first_fault-passed (tables_checks s (codes "array") 0 255) (arrays_checks (bounds_of w) (array_sections s) ++ (known_check s (known_keys table.Structure) ∷ [])) c.in_ok-tables.ensures.values.0 ∙ (first_fault-stopped (arrays_checks (bounds_of w) (array_sections s)) (known_check s (known_keys table.Structure) ∷ []) fault (ap (λ ds. first_fault (arrays_checks (bounds_of w) (sections (array_place s.place) 0 ds))) (sym c.in_ok-tables.ensures.values.1) ∙ c.in_err-arrays.ensures.checked not_memory))))))))

pub returns-in_err-only-clause-checked : goal.returns-in_err-only-clause-checked
unfolding structure_key_checks
returns-in_err-only-clause-checked c =
    let s = section_of c.args.section.now in
    let w = c.args.widths.now in
    let fault = c.in_err-only.field-0.0 in
    passes-exit (kind_checks s ++ (needed_number_checks s (codes "id") 0 (greatest_in (8 * w.structure_octets)) ++ (needed_number_checks s (codes "interval") 1 w.max_interval ++ (flag_checks s (codes "enabled") ++ (numbers_checks s (codes "simple") 0 255 (greatest_in (8 * w.parameter_octets)) ++ (tables_checks s (codes "array") 0 255 ++ (arrays_checks (bounds_of w) (array_sections s) ++ (known_check s (known_keys table.Structure) ∷ [])))))))) c.from_residual-in_err-only.result fault c.from_residual-in_err-only.ensures.1
    (λ not_memory. first_fault-passed (kind_checks s) (needed_number_checks s (codes "id") 0 (greatest_in (8 * w.structure_octets)) ++ (needed_number_checks s (codes "interval") 1 w.max_interval ++ (flag_checks s (codes "enabled") ++ (numbers_checks s (codes "simple") 0 255 (greatest_in (8 * w.parameter_octets)) ++ (tables_checks s (codes "array") 0 255 ++ (arrays_checks (bounds_of w) (array_sections s) ++ (known_check s (known_keys table.Structure) ∷ []))))))) c.in_ok-kind.ensures.kind.0 ∙ (first_fault-passed (needed_number_checks s (codes "id") 0 (greatest_in (8 * w.structure_octets))) (needed_number_checks s (codes "interval") 1 w.max_interval ++ (flag_checks s (codes "enabled") ++ (numbers_checks s (codes "simple") 0 255 (greatest_in (8 * w.parameter_octets)) ++ (tables_checks s (codes "array") 0 255 ++ (arrays_checks (bounds_of w) (array_sections s) ++ (known_check s (known_keys table.Structure) ∷ [])))))) (ap (λ n. first_fault (needed_number_checks s (codes "id") 0 n)) (sym c.greatest_in.ensures) ∙ c.in_ok-id.ensures.number.0) ∙ (first_fault-passed (needed_number_checks s (codes "interval") 1 w.max_interval) (flag_checks s (codes "enabled") ++ (numbers_checks s (codes "simple") 0 255 (greatest_in (8 * w.parameter_octets)) ++ (tables_checks s (codes "array") 0 255 ++ (arrays_checks (bounds_of w) (array_sections s) ++ (known_check s (known_keys table.Structure) ∷ []))))) (ap (λ n. first_fault (needed_number_checks s (codes "interval") 1 n)) (sym c.from.ensures) ∙ c.in_ok-interval.ensures.number.0) ∙ (first_fault-passed (flag_checks s (codes "enabled")) (numbers_checks s (codes "simple") 0 255 (greatest_in (8 * w.parameter_octets)) ++ (tables_checks s (codes "array") 0 255 ++ (arrays_checks (bounds_of w) (array_sections s) ++ (known_check s (known_keys table.Structure) ∷ [])))) c.in_ok-enabled.ensures.flag.0 ∙ (first_fault-passed (numbers_checks s (codes "simple") 0 255 (greatest_in (8 * w.parameter_octets))) (tables_checks s (codes "array") 0 255 ++ (arrays_checks (bounds_of w) (array_sections s) ++ (known_check s (known_keys table.Structure) ∷ []))) (ap (λ n. first_fault (numbers_checks s (codes "simple") 0 255 n)) (sym c.greatest_in-2.ensures) ∙ c.in_ok-simple.ensures.ids.0) ∙ (first_fault-passed (tables_checks s (codes "array") 0 255) (arrays_checks (bounds_of w) (array_sections s) ++ (known_check s (known_keys table.Structure) ∷ [])) c.in_ok-tables.ensures.values.0 ∙ (first_fault-passed (arrays_checks (bounds_of w) (array_sections s)) (known_check s (known_keys table.Structure) ∷ []) (ap (λ ds. first_fault (arrays_checks (bounds_of w) (sections (array_place s.place) 0 ds))) (sym c.in_ok-tables.ensures.values.1) ∙ c.in_ok-arrays.ensures.checked) ∙ (c.in_err-only.ensures.checked not_memory))))))))

pub returns-clause-checked : goal.returns-clause-checked
unfolding structure_key_checks
returns-clause-checked c =
    let s = section_of c.args.section.now in
    let w = c.args.widths.now in
    first_fault-passed (kind_checks s) (needed_number_checks s (codes "id") 0 (greatest_in (8 * w.structure_octets)) ++ (needed_number_checks s (codes "interval") 1 w.max_interval ++ (flag_checks s (codes "enabled") ++ (numbers_checks s (codes "simple") 0 255 (greatest_in (8 * w.parameter_octets)) ++ (tables_checks s (codes "array") 0 255 ++ (arrays_checks (bounds_of w) (array_sections s) ++ (known_check s (known_keys table.Structure) ∷ []))))))) c.in_ok-kind.ensures.kind.0 ∙ (first_fault-passed (needed_number_checks s (codes "id") 0 (greatest_in (8 * w.structure_octets))) (needed_number_checks s (codes "interval") 1 w.max_interval ++ (flag_checks s (codes "enabled") ++ (numbers_checks s (codes "simple") 0 255 (greatest_in (8 * w.parameter_octets)) ++ (tables_checks s (codes "array") 0 255 ++ (arrays_checks (bounds_of w) (array_sections s) ++ (known_check s (known_keys table.Structure) ∷ [])))))) (ap (λ n. first_fault (needed_number_checks s (codes "id") 0 n)) (sym c.greatest_in.ensures) ∙ c.in_ok-id.ensures.number.0) ∙ (first_fault-passed (needed_number_checks s (codes "interval") 1 w.max_interval) (flag_checks s (codes "enabled") ++ (numbers_checks s (codes "simple") 0 255 (greatest_in (8 * w.parameter_octets)) ++ (tables_checks s (codes "array") 0 255 ++ (arrays_checks (bounds_of w) (array_sections s) ++ (known_check s (known_keys table.Structure) ∷ []))))) (ap (λ n. first_fault (needed_number_checks s (codes "interval") 1 n)) (sym c.from.ensures) ∙ c.in_ok-interval.ensures.number.0) ∙ (first_fault-passed (flag_checks s (codes "enabled")) (numbers_checks s (codes "simple") 0 255 (greatest_in (8 * w.parameter_octets)) ++ (tables_checks s (codes "array") 0 255 ++ (arrays_checks (bounds_of w) (array_sections s) ++ (known_check s (known_keys table.Structure) ∷ [])))) c.in_ok-enabled.ensures.flag.0 ∙ (first_fault-passed (numbers_checks s (codes "simple") 0 255 (greatest_in (8 * w.parameter_octets))) (tables_checks s (codes "array") 0 255 ++ (arrays_checks (bounds_of w) (array_sections s) ++ (known_check s (known_keys table.Structure) ∷ []))) (ap (λ n. first_fault (numbers_checks s (codes "simple") 0 255 n)) (sym c.greatest_in-2.ensures) ∙ c.in_ok-simple.ensures.ids.0) ∙ (first_fault-passed (tables_checks s (codes "array") 0 255) (arrays_checks (bounds_of w) (array_sections s) ++ (known_check s (known_keys table.Structure) ∷ [])) c.in_ok-tables.ensures.values.0 ∙ (first_fault-passed (arrays_checks (bounds_of w) (array_sections s)) (known_check s (known_keys table.Structure) ∷ []) (ap (λ ds. first_fault (arrays_checks (bounds_of w) (sections (array_place s.place) 0 ds))) (sym c.in_ok-tables.ensures.values.1) ∙ c.in_ok-arrays.ensures.checked) ∙ (c.in_ok-only.ensures.checked)))))))
