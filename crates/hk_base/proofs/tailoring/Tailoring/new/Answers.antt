use Rattle.std.proofs.Common.{List, ap, sym, subst, ◌∙◌}
use Rattle.hk_base.specs.declared.types.Param.{Param}
use Rattle.hk_base.specs.Fit.{IsFit}
use Rattle.hk_base.proofs.KeyedLemmas.{keyed_is, values_are}
use Rattle.hk_base.specs.Keyed.{keyed}
use Rattle.hk_base.proofs.tailoring.Tailoring.new.Goals as goal

pub invariant_of-result : goal.invariant_of-result
invariant_of-result c =
    let e = c.in_ok-by_ids.ensures ∙ ap keyed c.into_vec.ensures in
    (keyed_is _ _ e, subst (λ (ps : List Param). IsFit (record { widths = c.args.widths; params = ps; boots = c.args.boots })) (sym (values_are _ _ e)) c.requires)

pub returns : goal.returns
returns c =
    let e = c.in_ok-by_ids.ensures ∙ ap keyed c.into_vec.ensures in
    ap (λ (ps : List Param). record { widths = c.args.widths; params = ps; boots = c.args.boots }) (values_are _ _ e)
