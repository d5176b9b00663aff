use Rattle.std.proofs.Common.{◌≡◌, ◌∙◌, ◌++◌, ◌+◌, [], ap, sym, subst, map, drop, length}
use Rattle.std.proofs.lemmas.List.{length_push}
use Rattle.std.specs.List.{AllByRecursion, IsDistinct}
use Rattle.toml.specs.View.{view}
use Rattle.hk_base.specs.Fit.{IsFitBoot}
use Rattle.hk_base.specs.Parameters.{key_eq}
use Rattle.hk_base.specs.TailoringParts.{TailoringParts}
use Rattle.hk_base.specs.declared.types.Boot.{Boot}
use Rattle.hk_tailoring.specs.declared.section.Place.TheVariants.{Structure}
use Rattle.hk_tailoring.specs.Checks.{first_fault}
use Rattle.hk_tailoring.specs.Keys.{section_of}
use Rattle.hk_tailoring.specs.Params.{sections}
use Rattle.hk_tailoring.specs.Structures.{bounds_of, boot_in}
use Rattle.hk_tailoring.proofs.CheckLemmas.{passes-exit}
use Rattle.hk_tailoring.proofs.ListLemmas.{AllByRecursion-push}
use Rattle.hk_tailoring.proofs.SectionLemmas.{sections-step, stated-more, distinct-push}
use Rattle.hk_tailoring.proofs.StructureLemmas.{left, whole, structure-stopped, structure-passed}
use Rattle.hk_tailoring.proofs.structures.read_structures.Goals as goal

pub loop-n-init : goal.loop-n-init
unfolding IsDistinct
loop-n-init c =
    let w = c.args.widths.now in
    let ps = c.args.params.now in
    let vs = c.args.tables.now in
    let none = c.new-boots.ensures.items in
    let t : TailoringParts = record { widths = w; params = ps; boots = [] } in
    record {
      checks = ap (λ bs. first_fault (left (bounds_of w) ps bs 0 vs)) none;
      boots = ap (λ bs. bs ++ map boot_in (sections Structure 0 (map view vs))) none;
      count = ap (λ bs. length bs) none;
      fit = subst (λ bs. AllByRecursion (IsFitBoot t) bs) (sym none) tt;
      keys = subst (λ bs. IsDistinct key_eq (map (λ (b : Boot). b.key) bs)) (sym none) tt;
    }

pub returns-in_err-add_structure-clause-checked : goal.returns-in_err-add_structure-clause-checked
returns-in_err-add_structure-clause-checked c =
    let b = bounds_of c.args.widths.now in
    let ps = c.args.params.now in
    let vs = c.args.tables.now in
    let v = c.index-tables-n.result in
    let fault = c.in_err-add_structure.field-0.0 in
    passes-exit (whole b ps vs) c.from_residual.result fault c.from_residual.ensures.1
    (λ not_memory.
    structure-stopped b ps c.loop-n.boots.items c.loop-n.n vs v (section_of c.of_table-section.result) fault c.loop-n.invariant.checks
    c.index-tables-n.is c.loop-n-test.true c.of_table-section.ensures (c.in_err-add_structure.ensures.checked not_memory))

pub loop-n-preserved : goal.loop-n-preserved
loop-n-preserved c =
    let w = c.args.widths.now in
    let ps = c.args.params.now in
    let vs = c.args.tables.now in
    let v = c.index-tables-n.result in
    let n = c.loop-n.n in
    let s = section_of c.of_table-section.result in
    let before = c.loop-n.boots.items in
    let t : TailoringParts = record { widths = w; params = ps; boots = [] } in
    let added = c.in_ok-add_structure.ensures.added in
    let within = c.loop-n-test.true in
    record {
      checks =
          subst (λ bs. first_fault (left (bounds_of w) ps bs (n + 1) vs) ≡ first_fault (whole (bounds_of w) ps vs)) (sym added)
          (structure-passed (bounds_of w) ps before n vs v s c.loop-n.invariant.checks c.index-tables-n.is within c.of_table-section.ensures
          c.in_ok-add_structure.ensures.checked);
      boots =
          ap (λ bs. bs ++ map boot_in (sections Structure (n + 1) (map view (drop (n + 1) vs)))) added
          ∙ stated-more boot_in before s (sections Structure n (map view (drop n vs))) (sections Structure (n + 1) (map view (drop (n + 1) vs)))
          (map boot_in (sections Structure 0 (map view vs))) c.loop-n.invariant.boots
          (sections-step Structure n vs v s c.index-tables-n.is within c.of_table-section.ensures);
      count = ap (λ bs. length bs) added ∙ (length_push before (boot_in s) ∙ ap (λ k. k + 1) c.loop-n.invariant.count);
      fit = subst (λ bs. AllByRecursion (IsFitBoot t) bs) (sym added) (AllByRecursion-push (IsFitBoot t) before (boot_in s) c.loop-n.invariant.fit c.in_ok-add_structure.ensures.fit);
      keys =
          subst (λ bs. IsDistinct key_eq (map (λ (b : Boot). b.key) bs)) (sym added)
          (distinct-push key_eq (λ (b : Boot). b.key) before (boot_in s) c.loop-n.invariant.keys c.in_ok-add_structure.ensures.other);
    }
