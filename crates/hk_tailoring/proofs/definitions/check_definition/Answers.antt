use Rattle.std.proofs.Common.{◌≡◌, ◌∙◌, Some, ◌++◌, ◌∷◌, [], ◌<◌, ◌≤◌, ap, sym, subst, length, List}
use Rattle.std.proofs.lemmas.List.Elements.{All-from_recursion}
use Rattle.std.specs.Prelude.{All}
use Rattle.hk_base.specs.Definitions.{parameter_ids, IsWellFormed}
use Rattle.hk_base.specs.TailoringParts.{TailoringParts}
use Rattle.hk_base.specs.declared.types.SuperList.{SuperList}
use Rattle.hk_tailoring.specs.Checks.{first_fault}
use Rattle.hk_tailoring.specs.Keys.{section_of}
use Rattle.hk_tailoring.specs.Structures.{definition_checks, some_check, ids_checks, repetition_checks, width_check}
use Rattle.hk_tailoring.proofs.CheckLemmas.{passes-exit, first_fault-passed, first_fault-stopped}
use Rattle.hk_tailoring.proofs.DefinitionLemmas.{some-by, none-by, some-checked, none-checked, positive-from, well-formed}
use Rattle.hk_tailoring.proofs.definitions.check_definition.Goals as goal

pub returns-then-is_empty-clause-checked : goal.returns-then-is_empty-clause-checked
unfolding definition_checks
returns-then-is_empty-clause-checked c =
    let s = section_of c.args.section.now in
    let d = c.args.def.now in
    let ps = c.args.params.now in
    let w = c.args.widths.now in
    let ids = c.as_slice-ids.result.now in
    let is : ids ≡ parameter_ids d = c.as_slice-ids.ensures.value ∙ c.in_ok-all.ensures in
    let first = some_check s d ∷ [] in
    let second = ids_checks ps [] (parameter_ids d) in
    let third = repetition_checks d.interval d.arrays in
    let fourth = width_check w.max_payload ps d ∷ [] in
    λ not_memory.
    subst (λ f. first_fault (first ++ (second ++ (third ++ fourth))) ≡ Some f) (sym (c.out_of_range.ensures not_memory))
    (none-checked s d ids (second ++ (third ++ fourth)) is (none-by (length ids) c.is_empty.result c.is_empty.ensures c.if-is_empty.true))

pub returns-in_err-check_ids-clause-checked : goal.returns-in_err-check_ids-clause-checked
unfolding definition_checks
returns-in_err-check_ids-clause-checked c =
    let s = section_of c.args.section.now in
    let d = c.args.def.now in
    let ps = c.args.params.now in
    let w = c.args.widths.now in
    let ids = c.as_slice-ids.result.now in
    let is : ids ≡ parameter_ids d = c.as_slice-ids.ensures.value ∙ c.in_ok-all.ensures in
    let some : 0 < length ids = some-by (length ids) c.is_empty.result c.is_empty.ensures c.if-is_empty.false in
    let first = some_check s d ∷ [] in
    let second = ids_checks ps [] (parameter_ids d) in
    let third = repetition_checks d.interval d.arrays in
    let fourth = width_check w.max_payload ps d ∷ [] in
    let by_ids = ap (λ xs. first_fault (ids_checks ps [] xs)) (sym is) in
    let fault = c.in_err-check_ids.field-0.0 in
    passes-exit (first ++ (second ++ (third ++ fourth))) c.from_residual-in_err-check_ids.result fault c.from_residual-in_err-check_ids.ensures.1
    (λ not_memory. first_fault-passed first (second ++ (third ++ fourth)) (some-checked s d ids is some) ∙ (first_fault-stopped second (third ++ fourth) fault (by_ids ∙ c.in_err-check_ids.ensures.checked ps c.requires.known not_memory)))

pub returns-in_err-check_repetitions-clause-checked : goal.returns-in_err-check_repetitions-clause-checked
unfolding definition_checks
returns-in_err-check_repetitions-clause-checked c =
    let s = section_of c.args.section.now in
    let d = c.args.def.now in
    let ps = c.args.params.now in
    let w = c.args.widths.now in
    let ids = c.as_slice-ids.result.now in
    let is : ids ≡ parameter_ids d = c.as_slice-ids.ensures.value ∙ c.in_ok-all.ensures in
    let some : 0 < length ids = some-by (length ids) c.is_empty.result c.is_empty.ensures c.if-is_empty.false in
    let first = some_check s d ∷ [] in
    let second = ids_checks ps [] (parameter_ids d) in
    let third = repetition_checks d.interval d.arrays in
    let fourth = width_check w.max_payload ps d ∷ [] in
    let by_ids = ap (λ xs. first_fault (ids_checks ps [] xs)) (sym is) in
    let by_arrays = ap (λ (xs : List SuperList). first_fault (repetition_checks d.interval xs)) (sym c.as_slice.ensures) in
    let fault = c.in_err-check_repetitions.field-0.0 in
    passes-exit (first ++ (second ++ (third ++ fourth))) c.from_residual-in_err-check_repetitions.result fault c.from_residual-in_err-check_repetitions.ensures.1
    (λ not_memory. first_fault-passed first (second ++ (third ++ fourth)) (some-checked s d ids is some) ∙ (first_fault-passed second (third ++ fourth) (by_ids ∙ c.in_ok-check_ids.ensures.checked ps c.requires.known) ∙ (first_fault-stopped third fourth fault (by_arrays ∙ c.in_err-check_repetitions.ensures.checked not_memory))))

pub returns-in_err-check_size-clause-checked : goal.returns-in_err-check_size-clause-checked
unfolding definition_checks
returns-in_err-check_size-clause-checked c =
    let s = section_of c.args.section.now in
    let d = c.args.def.now in
    let ps = c.args.params.now in
    let w = c.args.widths.now in
    let ids = c.as_slice-ids.result.now in
    let is : ids ≡ parameter_ids d = c.as_slice-ids.ensures.value ∙ c.in_ok-all.ensures in
    let some : 0 < length ids = some-by (length ids) c.is_empty.result c.is_empty.ensures c.if-is_empty.false in
    let first = some_check s d ∷ [] in
    let second = ids_checks ps [] (parameter_ids d) in
    let third = repetition_checks d.interval d.arrays in
    let fourth = width_check w.max_payload ps d ∷ [] in
    let by_ids = ap (λ xs. first_fault (ids_checks ps [] xs)) (sym is) in
    let by_arrays = ap (λ (xs : List SuperList). first_fault (repetition_checks d.interval xs)) (sym c.as_slice.ensures) in
    let fault = c.in_err-check_size.field-0.0 in
    passes-exit (first ++ (second ++ (third ++ fourth))) c.from_residual-in_err-check_size.result fault c.from_residual-in_err-check_size.ensures.1
    (λ not_memory. first_fault-passed first (second ++ (third ++ fourth)) (some-checked s d ids is some) ∙ (first_fault-passed second (third ++ fourth) (by_ids ∙ c.in_ok-check_ids.ensures.checked ps c.requires.known) ∙ (first_fault-passed third fourth (by_arrays ∙ c.in_ok-check_repetitions.ensures.checked) ∙ (c.in_err-check_size.ensures.checked not_memory))))

pub returns-clause-checked : goal.returns-clause-checked
unfolding definition_checks
returns-clause-checked c =
    let s = section_of c.args.section.now in
    let d = c.args.def.now in
    let ps = c.args.params.now in
    let w = c.args.widths.now in
    let ids = c.as_slice-ids.result.now in
    let is : ids ≡ parameter_ids d = c.as_slice-ids.ensures.value ∙ c.in_ok-all.ensures in
    let some : 0 < length ids = some-by (length ids) c.is_empty.result c.is_empty.ensures c.if-is_empty.false in
    let first = some_check s d ∷ [] in
    let second = ids_checks ps [] (parameter_ids d) in
    let third = repetition_checks d.interval d.arrays in
    let fourth = width_check w.max_payload ps d ∷ [] in
    let by_ids = ap (λ xs. first_fault (ids_checks ps [] xs)) (sym is) in
    let by_arrays = ap (λ (xs : List SuperList). first_fault (repetition_checks d.interval xs)) (sym c.as_slice.ensures) in
    first_fault-passed first (second ++ (third ++ fourth)) (some-checked s d ids is some) ∙ (first_fault-passed second (third ++ fourth) (by_ids ∙ c.in_ok-check_ids.ensures.checked ps c.requires.known) ∙ (first_fault-passed third fourth (by_arrays ∙ c.in_ok-check_repetitions.ensures.checked) ∙ c.in_ok-check_size.ensures.checked))

pub returns-clause-valid : goal.returns-clause-valid
returns-clause-valid c =
    let s = section_of c.args.section.now in
    let d = c.args.def.now in
    let ps = c.args.params.now in
    let w = c.args.widths.now in
    let ids = c.as_slice-ids.result.now in
    let is : ids ≡ parameter_ids d = c.as_slice-ids.ensures.value ∙ c.in_ok-all.ensures in
    let some : 0 < length ids = some-by (length ids) c.is_empty.result c.is_empty.ensures c.if-is_empty.false in
    let by_ids = ap (λ xs. first_fault (ids_checks ps [] xs)) (sym is) in
    let by_arrays = ap (λ (xs : List SuperList). first_fault (repetition_checks d.interval xs)) (sym c.as_slice.ensures) in
    let t : TailoringParts = record { widths = w; params = ps; boots = [] } in
    let formed : IsWellFormed t d =
    well-formed t d c.requires.sizes (subst (λ xs. 0 < length xs) is some) (by_ids ∙ c.in_ok-check_ids.ensures.checked ps c.requires.known) (by_arrays ∙ c.in_ok-check_repetitions.ensures.checked) in
    record { formed = formed; narrow = c.in_ok-check_size.ensures.narrow }

pub check_size-requires-clause-formed : goal.check_size-requires-clause-formed
check_size-requires-clause-formed c =
    let s = section_of c.args.section.now in
    let d = c.args.def.now in
    let ps = c.args.params.now in
    let w = c.args.widths.now in
    let ids = c.as_slice-ids.result.now in
    let is : ids ≡ parameter_ids d = c.as_slice-ids.ensures.value ∙ c.in_ok-all.ensures in
    let some : 0 < length ids = some-by (length ids) c.is_empty.result c.is_empty.ensures c.if-is_empty.false in
    let by_ids = ap (λ xs. first_fault (ids_checks ps [] xs)) (sym is) in
    let by_arrays = ap (λ (xs : List SuperList). first_fault (repetition_checks d.interval xs)) (sym c.as_slice.ensures) in
    let t : TailoringParts = record { widths = w; params = ps; boots = [] } in
    let formed : IsWellFormed t d =
    well-formed t d c.requires.sizes (subst (λ xs. 0 < length xs) is some) (by_ids ∙ c.in_ok-check_ids.ensures.checked ps c.requires.known) (by_arrays ∙ c.in_ok-check_repetitions.ensures.checked) in
    formed

pub check_repetitions-requires : goal.check_repetitions-requires
check_repetitions-requires c =
    subst (λ (xs : List SuperList). All (λ a. 1 ≤ a.repetition) xs) (sym c.as_slice.ensures)
    (All-from_recursion (λ (a : SuperList). 1 ≤ a.repetition) c.args.def.now.arrays (positive-from c.args.widths.now c.args.def.now.arrays c.requires.sizes.arrays))
