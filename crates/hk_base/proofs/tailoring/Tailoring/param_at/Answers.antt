use Rattle.std.proofs.Common.{◌≡◌, ℕ, None, option_map, slice_get, ap, sym, subst, ◌∙◌}
use Rattle.std.proofs.lemmas.Option.{slice_get-map}
use Rattle.hk_base.specs.Fit.{IsFitParam}
use Rattle.hk_base.specs.TailoringParts.{TailoringParts}
use Rattle.hk_base.specs.declared.types.Param.{Param}
use Rattle.hk_base.proofs.Finds.{slice_get_each}
use Rattle.hk_base.proofs.tailoring.Tailoring.param_at.Goals as goal

pub returns-in-Some-clause-fit_param : goal.returns-in-Some-clause-fit_param
returns-in-Some-clause-fit_param c =
    let param = c.in-Some.param.now in
    let here = slice_get-map (λ (e : ℕ × Param). e.1) c.self.inside.params.entries c.args.number ∙ ap (option_map (λ (e : ℕ × Param). e.1)) (sym c.in-Some.ensures.entry) in
    subst (λ (t : TailoringParts). IsFitParam t.widths param) c.self.view_is
    (slice_get_each (IsFitParam c.self.inside.widths) _ c.args.number param here c.self.invariant.1.params)

pub returns-in-None-clause-param : goal.returns-in-None-clause-param
returns-in-None-clause-param c =
    subst (λ (t : TailoringParts). None ≡ slice_get t.params c.args.number) c.self.view_is
    (ap (option_map (λ (e : ℕ × Param). e.1)) c.in-None.ensures.entry ∙ sym (slice_get-map (λ (e : ℕ × Param). e.1) c.self.inside.params.entries c.args.number))
