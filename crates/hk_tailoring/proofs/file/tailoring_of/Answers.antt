use Rattle.std.proofs.Common.{◌∙◌, ◌++◌, ◌∷◌, [], List, codes, ap, sym, subst, map, length, ◌≤◌, arith}
use Rattle.std.specs.List.{AllByRecursion}
use Rattle.toml.specs.View.{view}
use Rattle.hk_base.specs.TailoringParts.{TailoringParts}
use Rattle.hk_base.specs.Fit.{IsFit, IsFitBoot}
use Rattle.hk_base.specs.declared.types.Param.{Param}
use Rattle.hk_base.specs.declared.types.Boot.{Boot}
use Rattle.hk_tailoring.specs.declared.section.Place.TheVariants as place
use Rattle.hk_tailoring.specs.declared.section.TableKind.TheVariants as table
use Rattle.hk_tailoring.specs.Checks.{first_fault}
use Rattle.hk_tailoring.specs.Keys.{section_of, needed_tables_checks, tables_checks}
use Rattle.hk_tailoring.specs.Known.{known_check, known_keys}
use Rattle.hk_tailoring.specs.Widths.{width_checks}
use Rattle.hk_tailoring.specs.Params.{param_in, params_checks, sections}
use Rattle.hk_tailoring.specs.Structures.{bounds_of, boot_in, structures_checks}
use Rattle.hk_tailoring.specs.Files.{document_checks, is_packed, params_in, param_sections, structure_sections, all_param_checks, all_structure_checks, Stands}
use Rattle.hk_tailoring.proofs.FileLemmas.{bounds-stated}
use Rattle.hk_tailoring.proofs.StructureLemmas.{boots-beside}
use Rattle.hk_tailoring.proofs.CheckLemmas.{passes-exit, first_fault-passed, first_fault-stopped}
use Rattle.hk_tailoring.proofs.file.tailoring_of.Goals as goal

pub new-requires : goal.new-requires
new-requires c =
    let w = c.in_ok-widths.widths in
    let ps = c.in_ok-params.params.items in
    let bs = c.in_ok-boots.boots.items in
    let few : length ps ≤ 512 = omega (arith, c.in_ok-params.ensures.count, c.in_ok-param_tables.ensures.within.1) in
    let some : 1 ≤ length ps = omega (arith, c.in_ok-params.ensures.count, c.in_ok-param_tables.ensures.within.0) in
    let fit : IsFit (record { widths = w; params = ps; boots = bs }) =
    record {
      widths = c.in_ok-widths.ensures.fit;
      count = (some, few);
      params = c.in_ok-params.ensures.fit;
      ids = c.in_ok-params.ensures.ids;
      boot_count = omega (arith, c.in_ok-boots.ensures.count, c.in_ok-structure_tables.ensures.few);
      boots =
          boots-beside w ps [] bs bs
          (subst (λ (qs : List Param). AllByRecursion (IsFitBoot (record { widths = w; params = qs; boots = [] })) bs) c.as_slice.ensures.value c.in_ok-boots.ensures.fit);
      keys = c.in_ok-boots.ensures.keys;
    } in
    subst (λ (qs : List Param). IsFit (record { widths = w; params = qs; boots = c.from_vec-2.result })) (sym c.from_vec.ensures)
    (subst (λ (cs : List Boot). IsFit (record { widths = w; params = ps; boots = cs })) (sym c.from_vec-2.ensures) fit)

pub returns-clause-tailoring : goal.returns-clause-tailoring
returns-clause-tailoring c =
    let s = section_of c.args.document.now in
    subst (λ (t : TailoringParts). Stands s t) (sym c.in_ok-tailoring.ensures)
    (record { widths = c.in_ok-widths.ensures.stated; params = c.from_vec.ensures ∙ (c.in_ok-params.ensures.params ∙ (ap (λ p. map (param_in p) (sections place.Parameter 0 (map view c.in_ok-param_tables.param_tables.now))) c.in_ok-widths.ensures.stated.packed ∙ ap (λ ds. map (param_in (is_packed s)) (sections place.Parameter 0 ds)) c.in_ok-param_tables.ensures.values.1)); boots = c.from_vec-2.ensures ∙ (c.in_ok-boots.ensures.boots ∙ ap (λ ds. map boot_in (sections place.Structure 0 ds)) c.in_ok-structure_tables.ensures.values.1) })

pub returns-in_err-widths-clause-checked : goal.returns-in_err-widths-clause-checked
unfolding document_checks
returns-in_err-widths-clause-checked c =
    let s = section_of c.args.document.now in
    let fault = c.in_err-widths.field-0.0 in
    passes-exit (width_checks s ++ (needed_tables_checks s (codes "parameter") 1 512 ++ (tables_checks s (codes "structure") 0 64 ++ (known_check s (known_keys table.Document) ∷ [] ++ (all_param_checks s ++ (all_structure_checks s)))))) c.from_residual.result fault c.from_residual.ensures.1
    (λ not_memory. first_fault-stopped (width_checks s) (needed_tables_checks s (codes "parameter") 1 512 ++ (tables_checks s (codes "structure") 0 64 ++ (known_check s (known_keys table.Document) ∷ [] ++ (all_param_checks s ++ (all_structure_checks s))))) fault (c.in_err-widths.ensures.checked not_memory))

pub returns-in_err-param_tables-clause-checked : goal.returns-in_err-param_tables-clause-checked
unfolding document_checks
returns-in_err-param_tables-clause-checked c =
    let s = section_of c.args.document.now in
    let fault = c.in_err-param_tables.field-0.0 in
    passes-exit (width_checks s ++ (needed_tables_checks s (codes "parameter") 1 512 ++ (tables_checks s (codes "structure") 0 64 ++ (known_check s (known_keys table.Document) ∷ [] ++ (all_param_checks s ++ (all_structure_checks s)))))) c.from_residual-in_err-param_tables.result fault c.from_residual-in_err-param_tables.ensures.1
    (λ not_memory. first_fault-passed (width_checks s) (needed_tables_checks s (codes "parameter") 1 512 ++ (tables_checks s (codes "structure") 0 64 ++ (known_check s (known_keys table.Document) ∷ [] ++ (all_param_checks s ++ (all_structure_checks s))))) c.in_ok-widths.ensures.checked ∙ (first_fault-stopped (needed_tables_checks s (codes "parameter") 1 512) (tables_checks s (codes "structure") 0 64 ++ (known_check s (known_keys table.Document) ∷ [] ++ (all_param_checks s ++ (all_structure_checks s)))) fault (c.in_err-param_tables.ensures.values not_memory)))

pub returns-in_err-structure_tables-clause-checked : goal.returns-in_err-structure_tables-clause-checked
unfolding document_checks
returns-in_err-structure_tables-clause-checked c =
    let s = section_of c.args.document.now in
    let fault = c.in_err-structure_tables.field-0.0 in
    passes-exit (width_checks s ++ (needed_tables_checks s (codes "parameter") 1 512 ++ (tables_checks s (codes "structure") 0 64 ++ (known_check s (known_keys table.Document) ∷ [] ++ (all_param_checks s ++ (all_structure_checks s)))))) c.from_residual-in_err-structure_tables.result fault c.from_residual-in_err-structure_tables.ensures.1
    (λ not_memory. first_fault-passed (width_checks s) (needed_tables_checks s (codes "parameter") 1 512 ++ (tables_checks s (codes "structure") 0 64 ++ (known_check s (known_keys table.Document) ∷ [] ++ (all_param_checks s ++ (all_structure_checks s))))) c.in_ok-widths.ensures.checked ∙ (first_fault-passed (needed_tables_checks s (codes "parameter") 1 512) (tables_checks s (codes "structure") 0 64 ++ (known_check s (known_keys table.Document) ∷ [] ++ (all_param_checks s ++ (all_structure_checks s)))) c.in_ok-param_tables.ensures.values.0 ∙ (first_fault-stopped (tables_checks s (codes "structure") 0 64) (known_check s (known_keys table.Document) ∷ [] ++ (all_param_checks s ++ (all_structure_checks s))) fault (c.in_err-structure_tables.ensures.values not_memory))))

pub returns-in_err-only-clause-checked : goal.returns-in_err-only-clause-checked
unfolding document_checks
returns-in_err-only-clause-checked c =
    let s = section_of c.args.document.now in
    let fault = c.in_err-only.field-0.0 in
    passes-exit (width_checks s ++ (needed_tables_checks s (codes "parameter") 1 512 ++ (tables_checks s (codes "structure") 0 64 ++ (known_check s (known_keys table.Document) ∷ [] ++ (all_param_checks s ++ (all_structure_checks s)))))) c.from_residual-in_err-only.result fault c.from_residual-in_err-only.ensures.1
    (λ not_memory. first_fault-passed (width_checks s) (needed_tables_checks s (codes "parameter") 1 512 ++ (tables_checks s (codes "structure") 0 64 ++ (known_check s (known_keys table.Document) ∷ [] ++ (all_param_checks s ++ (all_structure_checks s))))) c.in_ok-widths.ensures.checked ∙ (first_fault-passed (needed_tables_checks s (codes "parameter") 1 512) (tables_checks s (codes "structure") 0 64 ++ (known_check s (known_keys table.Document) ∷ [] ++ (all_param_checks s ++ (all_structure_checks s)))) c.in_ok-param_tables.ensures.values.0 ∙ (first_fault-passed (tables_checks s (codes "structure") 0 64) (known_check s (known_keys table.Document) ∷ [] ++ (all_param_checks s ++ (all_structure_checks s))) c.in_ok-structure_tables.ensures.values.0 ∙ (first_fault-stopped (known_check s (known_keys table.Document) ∷ []) (all_param_checks s ++ (all_structure_checks s)) fault (c.in_err-only.ensures.checked not_memory)))))

pub returns-in_err-params-clause-checked : goal.returns-in_err-params-clause-checked
unfolding document_checks
returns-in_err-params-clause-checked c =
    let s = section_of c.args.document.now in
    let fault = c.in_err-params.field-0.0 in
    passes-exit (width_checks s ++ (needed_tables_checks s (codes "parameter") 1 512 ++ (tables_checks s (codes "structure") 0 64 ++ (known_check s (known_keys table.Document) ∷ [] ++ (all_param_checks s ++ (all_structure_checks s)))))) c.from_residual-in_err-params.result fault c.from_residual-in_err-params.ensures.1
    (λ not_memory. first_fault-passed (width_checks s) (needed_tables_checks s (codes "parameter") 1 512 ++ (tables_checks s (codes "structure") 0 64 ++ (known_check s (known_keys table.Document) ∷ [] ++ (all_param_checks s ++ (all_structure_checks s))))) c.in_ok-widths.ensures.checked ∙ (first_fault-passed (needed_tables_checks s (codes "parameter") 1 512) (tables_checks s (codes "structure") 0 64 ++ (known_check s (known_keys table.Document) ∷ [] ++ (all_param_checks s ++ (all_structure_checks s)))) c.in_ok-param_tables.ensures.values.0 ∙ (first_fault-passed (tables_checks s (codes "structure") 0 64) (known_check s (known_keys table.Document) ∷ [] ++ (all_param_checks s ++ (all_structure_checks s))) c.in_ok-structure_tables.ensures.values.0 ∙ (first_fault-passed (known_check s (known_keys table.Document) ∷ []) (all_param_checks s ++ (all_structure_checks s)) c.in_ok-only.ensures.checked ∙ (first_fault-stopped (all_param_checks s) (all_structure_checks s) fault (ap (λ o. first_fault (params_checks o (is_packed s) [] (param_sections s))) (sym c.in_ok-widths.ensures.stated.parameter_octets) ∙ ap (λ p. first_fault (params_checks c.in_ok-widths.widths.parameter_octets p [] (param_sections s))) (sym c.in_ok-widths.ensures.stated.packed) ∙ ap (λ ds. first_fault (params_checks c.in_ok-widths.widths.parameter_octets c.in_ok-widths.widths.packed [] (sections place.Parameter 0 ds))) (sym c.in_ok-param_tables.ensures.values.1) ∙ c.in_err-params.ensures.checked not_memory))))))

pub returns-in_err-boots-clause-checked : goal.returns-in_err-boots-clause-checked
unfolding document_checks
returns-in_err-boots-clause-checked c =
    let s = section_of c.args.document.now in
    let fault = c.in_err-boots.field-0.0 in
    passes-exit (width_checks s ++ (needed_tables_checks s (codes "parameter") 1 512 ++ (tables_checks s (codes "structure") 0 64 ++ (known_check s (known_keys table.Document) ∷ [] ++ (all_param_checks s ++ (all_structure_checks s)))))) c.from_residual-in_err-boots.result fault c.from_residual-in_err-boots.ensures.1
    (λ not_memory. first_fault-passed (width_checks s) (needed_tables_checks s (codes "parameter") 1 512 ++ (tables_checks s (codes "structure") 0 64 ++ (known_check s (known_keys table.Document) ∷ [] ++ (all_param_checks s ++ (all_structure_checks s))))) c.in_ok-widths.ensures.checked ∙ (first_fault-passed (needed_tables_checks s (codes "parameter") 1 512) (tables_checks s (codes "structure") 0 64 ++ (known_check s (known_keys table.Document) ∷ [] ++ (all_param_checks s ++ (all_structure_checks s)))) c.in_ok-param_tables.ensures.values.0 ∙ (first_fault-passed (tables_checks s (codes "structure") 0 64) (known_check s (known_keys table.Document) ∷ [] ++ (all_param_checks s ++ (all_structure_checks s))) c.in_ok-structure_tables.ensures.values.0 ∙ (first_fault-passed (known_check s (known_keys table.Document) ∷ []) (all_param_checks s ++ (all_structure_checks s)) c.in_ok-only.ensures.checked ∙ (first_fault-passed (all_param_checks s) (all_structure_checks s) (ap (λ o. first_fault (params_checks o (is_packed s) [] (param_sections s))) (sym c.in_ok-widths.ensures.stated.parameter_octets) ∙ ap (λ p. first_fault (params_checks c.in_ok-widths.widths.parameter_octets p [] (param_sections s))) (sym c.in_ok-widths.ensures.stated.packed) ∙ ap (λ ds. first_fault (params_checks c.in_ok-widths.widths.parameter_octets c.in_ok-widths.widths.packed [] (sections place.Parameter 0 ds))) (sym c.in_ok-param_tables.ensures.values.1) ∙ c.in_ok-params.ensures.checked) ∙ (ap (λ b. first_fault (structures_checks b (params_in s) [] (structure_sections s))) (sym (bounds-stated s c.in_ok-widths.widths c.in_ok-widths.ensures.stated)) ∙ ap (λ (ps : List Param). first_fault (structures_checks (bounds_of c.in_ok-widths.widths) ps [] (structure_sections s))) (sym (c.as_slice.ensures.value ∙ (c.in_ok-params.ensures.params ∙ (ap (λ p. map (param_in p) (sections place.Parameter 0 (map view c.in_ok-param_tables.param_tables.now))) c.in_ok-widths.ensures.stated.packed ∙ ap (λ ds. map (param_in (is_packed s)) (sections place.Parameter 0 ds)) c.in_ok-param_tables.ensures.values.1)))) ∙ ap (λ ds. first_fault (structures_checks (bounds_of c.in_ok-widths.widths) c.as_slice.result.now [] (sections place.Structure 0 ds))) (sym c.in_ok-structure_tables.ensures.values.1) ∙ c.in_err-boots.ensures.checked not_memory))))))

pub returns-clause-checked : goal.returns-clause-checked
unfolding document_checks
returns-clause-checked c =
    let s = section_of c.args.document.now in
    first_fault-passed (width_checks s) (needed_tables_checks s (codes "parameter") 1 512 ++ (tables_checks s (codes "structure") 0 64 ++ (known_check s (known_keys table.Document) ∷ [] ++ (all_param_checks s ++ (all_structure_checks s))))) c.in_ok-widths.ensures.checked ∙ (first_fault-passed (needed_tables_checks s (codes "parameter") 1 512) (tables_checks s (codes "structure") 0 64 ++ (known_check s (known_keys table.Document) ∷ [] ++ (all_param_checks s ++ (all_structure_checks s)))) c.in_ok-param_tables.ensures.values.0 ∙ (first_fault-passed (tables_checks s (codes "structure") 0 64) (known_check s (known_keys table.Document) ∷ [] ++ (all_param_checks s ++ (all_structure_checks s))) c.in_ok-structure_tables.ensures.values.0 ∙ (first_fault-passed (known_check s (known_keys table.Document) ∷ []) (all_param_checks s ++ (all_structure_checks s)) c.in_ok-only.ensures.checked ∙ (first_fault-passed (all_param_checks s) (all_structure_checks s) (ap (λ o. first_fault (params_checks o (is_packed s) [] (param_sections s))) (sym c.in_ok-widths.ensures.stated.parameter_octets) ∙ ap (λ p. first_fault (params_checks c.in_ok-widths.widths.parameter_octets p [] (param_sections s))) (sym c.in_ok-widths.ensures.stated.packed) ∙ ap (λ ds. first_fault (params_checks c.in_ok-widths.widths.parameter_octets c.in_ok-widths.widths.packed [] (sections place.Parameter 0 ds))) (sym c.in_ok-param_tables.ensures.values.1) ∙ c.in_ok-params.ensures.checked) ∙ (ap (λ b. first_fault (structures_checks b (params_in s) [] (structure_sections s))) (sym (bounds-stated s c.in_ok-widths.widths c.in_ok-widths.ensures.stated)) ∙ ap (λ (ps : List Param). first_fault (structures_checks (bounds_of c.in_ok-widths.widths) ps [] (structure_sections s))) (sym (c.as_slice.ensures.value ∙ (c.in_ok-params.ensures.params ∙ (ap (λ p. map (param_in p) (sections place.Parameter 0 (map view c.in_ok-param_tables.param_tables.now))) c.in_ok-widths.ensures.stated.packed ∙ ap (λ ds. map (param_in (is_packed s)) (sections place.Parameter 0 ds)) c.in_ok-param_tables.ensures.values.1)))) ∙ ap (λ ds. first_fault (structures_checks (bounds_of c.in_ok-widths.widths) c.as_slice.result.now [] (sections place.Structure 0 ds))) (sym c.in_ok-structure_tables.ensures.values.1) ∙ c.in_ok-boots.ensures.checked)))))
