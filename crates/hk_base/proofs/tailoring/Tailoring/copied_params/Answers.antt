use Rattle.std.proofs.Common.{◌<◌, List, [], ◌∷◌, ◌++◌, take, length, ap, sym, arith, ◌∙◌}
use Rattle.std.proofs.lemmas.List.{take_more}
use Rattle.std.proofs.lemmas.Option.{get_or_from_slice_get}
use Rattle.hk_base.specs.declared.types.Param.{Param}
use Rattle.hk_base.proofs.tailoring.Tailoring.copied_params.Goals as goal

pub loop-number-preserved : goal.loop-number-preserved
loop-number-preserved c =
    let params = c.args.self.now.params in
    let n = c.loop-number.number in
    let param = c.in-Some.param.now in
    let copy = c.in_ok-copied.field-0 in
    let within : n < length params = omega (arith, c.loop-number-test.true, c.param_count-number-end.ensures.count) in
    let same = c.in_ok-copied.ensures ∙ sym (get_or_from_slice_get params n param param (sym c.in-Some.ensures.param)) in
    c.in_ok-push.ensures.items
    ∙ (ap (λ (xs : List Param). xs ++ copy ∷ []) c.loop-number.invariant
    ∙ (ap (λ (x : Param). take n params ++ x ∷ []) same ∙ sym (take_more params n param within)))
