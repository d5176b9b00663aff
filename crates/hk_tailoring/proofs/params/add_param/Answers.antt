use Rattle.std.proofs.Common.{◌≡◌, ◌∙◌, ◌==◌, ◌++◌, ◌∷◌, [], sym, subst, true, false}
use Rattle.std.specs.List.{list_any}
use Rattle.hk_base.specs.declared.types.Param.{Param}
use Rattle.hk_tailoring.specs.Ids.{has_id}
use Rattle.hk_tailoring.specs.Keys.{section_of}
use Rattle.hk_tailoring.specs.Params.{param_checks, param_in, next_param_checks, repeat_check}
use Rattle.hk_tailoring.proofs.CheckLemmas.{passes-exit, first_fault-passed, first_fault-stopped}
use Rattle.hk_tailoring.proofs.IdLemmas.{untrue, unfalse}
use Rattle.hk_tailoring.proofs.ParamLemmas.{repeat-found, repeat-passed}
use Rattle.hk_tailoring.proofs.params.add_param.Goals as goal

pub returns-in_err-param-clause-checked : goal.returns-in_err-param-clause-checked
unfolding next_param_checks
returns-in_err-param-clause-checked c =
    let s = section_of c.args.section.now in
    let w = c.args.widths.now in
    let here = param_checks w.parameter_octets w.packed s in
    let last = repeat_check c.args.params.now.items (param_in w.packed s) ∷ [] in
    let fault = c.in_err-param.field-0.0 in
    passes-exit (here ++ last) c.from_residual.result fault c.from_residual.ensures.1
    (λ not_memory. first_fault-stopped here last fault (c.in_err-param.ensures.checked not_memory))

pub returns-then-not-new-clause-checked : goal.returns-then-not-new-clause-checked
unfolding next_param_checks
returns-then-not-new-clause-checked c =
    let s = section_of c.args.section.now in
    let w = c.args.widths.now in
    let earlier = c.args.params.now.items in
    let param = c.in_ok-param.param in
    let found : list_any (λ e. e.id == param.id) earlier ≡ true =
    sym (c.requires.ids param.id) ∙ untrue (has_id c.args.ids.now param.id) c.in_ok-new.new c.in_ok-new.ensures.new c.if-not-new.true in
    λ _.
    first_fault-passed (param_checks w.parameter_octets w.packed s) (repeat_check earlier (param_in w.packed s) ∷ []) c.in_ok-param.ensures.checked
    ∙ repeat-found earlier param (param_in w.packed s) c.in_ok-param.ensures.param found

pub returns-clause-checked : goal.returns-clause-checked
unfolding next_param_checks
returns-clause-checked c =
    let s = section_of c.args.section.now in
    let w = c.args.widths.now in
    let earlier = c.args.params.now.items in
    let param = c.in_ok-param.param in
    let none : list_any (λ e. e.id == param.id) earlier ≡ false =
    sym (c.requires.ids param.id) ∙ unfalse (has_id c.args.ids.now param.id) c.in_ok-new.new c.in_ok-new.ensures.new c.if-not-new.false in
    first_fault-passed (param_checks w.parameter_octets w.packed s) (repeat_check earlier (param_in w.packed s) ∷ []) c.in_ok-param.ensures.checked
    ∙ repeat-passed earlier param (param_in w.packed s) c.in_ok-param.ensures.param none

pub returns-clause-other : goal.returns-clause-other
returns-clause-other c =
    let earlier = c.args.params.now.items in
    let param = c.in_ok-param.param in
    let none : list_any (λ e. e.id == param.id) earlier ≡ false =
    sym (c.requires.ids param.id) ∙ unfalse (has_id c.args.ids.now param.id) c.in_ok-new.new c.in_ok-new.ensures.new c.if-not-new.false in
    subst (λ (q : Param). list_any (λ e. e.id == q.id) earlier ≡ false) c.in_ok-param.ensures.param none
