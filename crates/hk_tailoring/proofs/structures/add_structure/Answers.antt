use Rattle.std.proofs.Common.{◌≡◌, ◌∙◌, ◌++◌, ◌∷◌, [], ap, sym, subst, true, false}
use Rattle.std.specs.List.{list_any}
use Rattle.hk_base.specs.Fit.{IsFitBoot}
use Rattle.hk_base.specs.Parameters.{key_eq}
use Rattle.hk_base.specs.TailoringParts.{TailoringParts}
use Rattle.hk_base.specs.declared.types.Boot.{Boot}
use Rattle.hk_tailoring.specs.Checks.{first_fault}
use Rattle.hk_tailoring.specs.Keys.{section_of}
use Rattle.hk_tailoring.specs.Structures.{bounds_of, boot_in, key_check, structure_key_checks, definition_checks, next_structure_checks}
use Rattle.hk_tailoring.proofs.CheckLemmas.{passes-exit, first_fault-passed, first_fault-stopped}
use Rattle.hk_tailoring.proofs.StructureLemmas.{key-found, key-passed}
use Rattle.hk_tailoring.proofs.structures.add_structure.Goals as goal

pub returns-in_err-boot-clause-checked : goal.returns-in_err-boot-clause-checked
unfolding next_structure_checks
returns-in_err-boot-clause-checked c =
    let s = section_of c.args.section.now in
    let b = bounds_of c.args.widths.now in
    let ps = c.args.params.now in
    let first = structure_key_checks b s in
    let rest = key_check c.args.boots.now.items (boot_in s) ∷ [] ++ definition_checks b ps s (boot_in s).structure.def in
    let fault = c.in_err-boot.field-0.0 in
    passes-exit (first ++ rest) c.from_residual.result fault c.from_residual.ensures.1
    (λ not_memory. first_fault-stopped first rest fault (c.in_err-boot.ensures.checked not_memory))

pub returns-then-has_key-clause-checked : goal.returns-then-has_key-clause-checked
unfolding next_structure_checks
returns-then-has_key-clause-checked c =
    let s = section_of c.args.section.now in
    let b = bounds_of c.args.widths.now in
    let ps = c.args.params.now in
    let earlier = c.args.boots.now.items in
    let boot = c.in_ok-boot.boot in
    let first = structure_key_checks b s in
    let last = definition_checks b ps s (boot_in s).structure.def in
    let found : list_any (λ e. key_eq e.key boot.key) earlier ≡ true =
    ap (λ bs. list_any (λ e. key_eq e.key boot.key) bs) (sym c.as_slice.ensures.value) ∙ (sym c.has_key.ensures ∙ c.if-has_key.true) in
    λ _.
    first_fault-passed first (key_check earlier (boot_in s) ∷ [] ++ last) c.in_ok-boot.ensures.checked
    ∙ key-found earlier boot (boot_in s) last c.in_ok-boot.ensures.boot found

pub returns-in_err-check_definition-clause-checked : goal.returns-in_err-check_definition-clause-checked
unfolding next_structure_checks
returns-in_err-check_definition-clause-checked c =
    let s = section_of c.args.section.now in
    let b = bounds_of c.args.widths.now in
    let ps = c.args.params.now in
    let earlier = c.args.boots.now.items in
    let boot = c.in_ok-boot.boot in
    let first = structure_key_checks b s in
    let second = key_check earlier (boot_in s) ∷ [] in
    let last = definition_checks b ps s (boot_in s).structure.def in
    let fault = c.in_err-check_definition.field-0.0 in
    let none : list_any (λ e. key_eq e.key boot.key) earlier ≡ false =
    ap (λ bs. list_any (λ e. key_eq e.key boot.key) bs) (sym c.as_slice.ensures.value) ∙ (sym c.has_key.ensures ∙ c.if-has_key.false) in
    let is = ap (λ (x : Boot). first_fault (definition_checks b ps s x.structure.def)) (sym c.in_ok-boot.ensures.boot) in
    passes-exit (first ++ (second ++ last)) c.from_residual-in_err-check_definition.result fault c.from_residual-in_err-check_definition.ensures.1
    (λ not_memory.
    first_fault-passed first (second ++ last) c.in_ok-boot.ensures.checked
    ∙ (first_fault-passed second last (key-passed earlier boot (boot_in s) c.in_ok-boot.ensures.boot none)
    ∙ (is ∙ c.in_err-check_definition.ensures.checked not_memory)))

pub returns-clause-checked : goal.returns-clause-checked
unfolding next_structure_checks
returns-clause-checked c =
    let s = section_of c.args.section.now in
    let b = bounds_of c.args.widths.now in
    let ps = c.args.params.now in
    let earlier = c.args.boots.now.items in
    let boot = c.in_ok-boot.boot in
    let first = structure_key_checks b s in
    let second = key_check earlier (boot_in s) ∷ [] in
    let last = definition_checks b ps s (boot_in s).structure.def in
    let none : list_any (λ e. key_eq e.key boot.key) earlier ≡ false =
    ap (λ bs. list_any (λ e. key_eq e.key boot.key) bs) (sym c.as_slice.ensures.value) ∙ (sym c.has_key.ensures ∙ c.if-has_key.false) in
    let is = ap (λ (x : Boot). first_fault (definition_checks b ps s x.structure.def)) (sym c.in_ok-boot.ensures.boot) in
    first_fault-passed first (second ++ last) c.in_ok-boot.ensures.checked
    ∙ (first_fault-passed second last (key-passed earlier boot (boot_in s) c.in_ok-boot.ensures.boot none)
    ∙ (is ∙ c.in_ok-check_definition.ensures.checked))

pub returns-clause-fit : goal.returns-clause-fit
returns-clause-fit c =
    let t : TailoringParts = record { widths = c.args.widths.now; params = c.args.params.now; boots = [] } in
    subst (λ (x : Boot). IsFitBoot t x) c.in_ok-boot.ensures.boot (record { id = c.in_ok-boot.ensures.id; valid = c.in_ok-check_definition.ensures.valid })
