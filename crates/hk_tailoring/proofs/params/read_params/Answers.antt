use Rattle.std.proofs.Common.{◌≡◌, ◌∙◌, ◌++◌, ◌+◌, ◌==◌, List, ap, sym, subst, map, drop, length, nat_eq}
use Rattle.std.proofs.lemmas.List.{length_push}
use Rattle.std.specs.List.{AllByRecursion, IsDistinct, list_any}
use Rattle.toml.specs.View.{view}
use Rattle.hk_base.specs.Fit.{IsFitParam}
use Rattle.hk_base.specs.declared.types.Param.{Param}
use Rattle.hk_tailoring.specs.declared.section.Place.TheVariants.{Parameter}
use Rattle.hk_tailoring.specs.Checks.{first_fault}
use Rattle.hk_tailoring.specs.Keys.{section_of}
use Rattle.hk_tailoring.specs.Ids.{has_id}
use Rattle.hk_tailoring.specs.Params.{param_in, sections}
use Rattle.hk_tailoring.proofs.CheckLemmas.{passes-exit}
use Rattle.hk_tailoring.proofs.ListLemmas.{AllByRecursion-push}
use Rattle.hk_tailoring.proofs.SectionLemmas.{sections-step, stated-more, distinct-push}
use Rattle.hk_tailoring.proofs.ParamLemmas.{left, whole, param-stopped, param-passed}
use Rattle.hk_tailoring.proofs.params.read_params.Goals as goal

pub loop-n-init : goal.loop-n-init
unfolding IsDistinct
loop-n-init c =
    let w = c.args.widths.now in
    let vs = c.args.tables.now in
    let none = c.new-params.ensures.items in
    record {
      checks = ap (λ ps. first_fault (left w.parameter_octets w.packed ps 0 vs)) none;
      params = ap (λ ps. ps ++ map (param_in w.packed) (sections Parameter 0 (map view vs))) none;
      count = ap (λ ps. length ps) none;
      fit = subst (λ ps. AllByRecursion (IsFitParam w) ps) (sym none) tt;
      ids = subst (λ ps. IsDistinct nat_eq (map (λ (p : Param). p.id) ps)) (sym none) tt;
      known = λ id. ap (λ ids. has_id ids id) c.requires.none ∙ ap (λ (ps : List Param). list_any (λ p. p.id == id) ps) (sym none);
    }

pub returns-in_err-add_param-clause-checked : goal.returns-in_err-add_param-clause-checked
returns-in_err-add_param-clause-checked c =
    let w = c.args.widths.now in
    let vs = c.args.tables.now in
    let v = c.index-tables-n.result in
    let fault = c.in_err-add_param.field-0.0 in
    passes-exit (whole w.parameter_octets w.packed vs) c.from_residual.result fault c.from_residual.ensures.1
    (λ not_memory.
    param-stopped w.parameter_octets w.packed c.loop-n.params.items c.loop-n.n vs v (section_of c.of_table-section.result) fault c.loop-n.invariant.checks
    c.index-tables-n.is c.loop-n-test.true c.of_table-section.ensures (c.in_err-add_param.ensures.checked not_memory))

pub loop-n-preserved : goal.loop-n-preserved
loop-n-preserved c =
    let w = c.args.widths.now in
    let vs = c.args.tables.now in
    let v = c.index-tables-n.result in
    let n = c.loop-n.n in
    let s = section_of c.of_table-section.result in
    let before = c.loop-n.params.items in
    let p = param_in w.packed s in
    let added = c.in_ok-add_param.ensures.added in
    let within = c.loop-n-test.true in
    record {
      checks =
          subst (λ ps. first_fault (left w.parameter_octets w.packed ps (n + 1) vs) ≡ first_fault (whole w.parameter_octets w.packed vs)) (sym added)
          (param-passed w.parameter_octets w.packed before n vs v s c.loop-n.invariant.checks c.index-tables-n.is within c.of_table-section.ensures
          c.in_ok-add_param.ensures.checked);
      params =
          ap (λ ps. ps ++ map (param_in w.packed) (sections Parameter (n + 1) (map view (drop (n + 1) vs)))) added
          ∙ stated-more (param_in w.packed) before s (sections Parameter n (map view (drop n vs))) (sections Parameter (n + 1) (map view (drop (n + 1) vs)))
          (map (param_in w.packed) (sections Parameter 0 (map view vs))) c.loop-n.invariant.params
          (sections-step Parameter n vs v s c.index-tables-n.is within c.of_table-section.ensures);
      count = ap (λ ps. length ps) added ∙ (length_push before p ∙ ap (λ k. k + 1) c.loop-n.invariant.count);
      fit = subst (λ ps. AllByRecursion (IsFitParam w) ps) (sym added) (AllByRecursion-push (IsFitParam w) before p c.loop-n.invariant.fit c.in_ok-add_param.ensures.fit);
      ids =
          subst (λ ps. IsDistinct nat_eq (map (λ (q : Param). q.id) ps)) (sym added)
          (distinct-push nat_eq (λ (q : Param). q.id) before p c.loop-n.invariant.ids c.in_ok-add_param.ensures.other);
      known = c.in_ok-add_param.ensures.ids;
    }
