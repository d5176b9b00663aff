use Rattle.std.proofs.Common.{◌≡◌, ◌∙◌, ◌++◌, ◌+◌, ◌∷◌, [], Some, ap, sym, subst, map, drop, length}
use Rattle.std.proofs.lemmas.List.{length_push}
use Rattle.std.specs.List.{AllByRecursion}
use Rattle.toml.specs.View.{view}
use Rattle.hk_base.specs.declared.types.SuperList.{SuperList}
use Rattle.hk_tailoring.specs.Sizes.{IsFitArray}
use Rattle.hk_tailoring.specs.Keys.{section_of}
use Rattle.hk_tailoring.specs.Params.{place_section, section_at, sections}
use Rattle.hk_tailoring.specs.Structures.{bounds_of, array_in, array_place, arrays_checks}
use Rattle.hk_tailoring.proofs.CheckLemmas.{passes-exit}
use Rattle.hk_tailoring.proofs.ListLemmas.{AllByRecursion-push}
use Rattle.hk_tailoring.proofs.SectionLemmas.{sections-step, stated-more}
use Rattle.hk_tailoring.proofs.ArrayLemmas.{array-stopped, array-passed}
use Rattle.hk_tailoring.proofs.arrays.read_arrays.Goals as goal

pub returns-in_err-array-clause-checked : goal.returns-in_err-array-clause-checked
returns-in_err-array-clause-checked c =
    let place = array_place c.args.structure.now.place in
    let b = bounds_of c.args.widths.now in
    let vs = c.args.tables.now in
    let v = c.index-tables-n.result in
    let n = c.loop-n.n in
    let s = section_of c.of_table-section.result in
    let fault = c.in_err-array.field-0.0 in
    let table : section_at place (n, view v) ≡ Some s = ap (λ p. place_section p (view v)) (sym c.array.ensures) ∙ c.of_table-section.ensures in
    passes-exit (arrays_checks b (sections place 0 (map view vs))) c.from_residual.result fault c.from_residual.ensures.1
    (λ not_memory.
    array-stopped b place n vs v s fault c.loop-n.invariant.checks c.index-tables-n.is c.loop-n-test.true table (c.in_err-array.ensures.checked not_memory))

pub loop-n-preserved : goal.loop-n-preserved
loop-n-preserved c =
    let place = array_place c.args.structure.now.place in
    let b = bounds_of c.args.widths.now in
    let vs = c.args.tables.now in
    let v = c.index-tables-n.result in
    let n = c.loop-n.n in
    let s = section_of c.of_table-section.result in
    let table : section_at place (n, view v) ≡ Some s = ap (λ p. place_section p (view v)) (sym c.array.ensures) ∙ c.of_table-section.ensures in
    let before = c.loop-n.arrays.items in
    let a = c.in_ok-array.array in
    let added = c.in_ok-push.ensures.items in
    let is = c.in_ok-array.ensures.array in
    let within = c.loop-n-test.true in
    record {
      checks = array-passed b place n vs v s c.loop-n.invariant.checks c.index-tables-n.is within table c.in_ok-array.ensures.checked;
      arrays =
          ap (λ xs. xs ++ map array_in (sections place (n + 1) (map view (drop (n + 1) vs)))) (added ∙ ap (λ (x : SuperList). before ++ x ∷ []) is)
          ∙ stated-more array_in before s (sections place n (map view (drop n vs))) (sections place (n + 1) (map view (drop (n + 1) vs)))
          (map array_in (sections place 0 (map view vs))) c.loop-n.invariant.arrays
          (sections-step place n vs v s c.index-tables-n.is within table);
      count = ap (λ xs. length xs) added ∙ (length_push before a ∙ ap (λ k. k + 1) c.loop-n.invariant.count);
      fit = subst (λ xs. AllByRecursion (IsFitArray c.args.widths.now) xs) (sym added) (AllByRecursion-push (IsFitArray c.args.widths.now) before a c.loop-n.invariant.fit c.in_ok-array.ensures.fit);
    }
