use Rattle.std.proofs.Common.{◌≡◌, ◌++◌, List, ap, sym, ◌∙◌}
use Rattle.std.specs.Vec.Iter.{into_iter_items}
use Rattle.hk_base.specs.declared.types.Param.{Param}
use Rattle.hk_base.proofs.KeyedLemmas.{insert_next, taken_front}
use Rattle.hk_base.proofs.tailoring.by_ids.Goals as goal

pub loop-param-preserved : goal.loop-param-preserved
loop-param-preserved c =
    let given : into_iter_items c.into_iter-param-iterator.result ≡ c.args.params.items = c.into_iter-param-iterator.ensures.into_iter_gives.0 in
    let whole = taken_front c.into_iter-param-iterator.result c.loop-param.yielded c.loop-param.param-iterator c.loop-param.yielded_by in
    let split = sym given ∙ (whole ∙ ap (λ (xs : List Param). c.loop-param.yielded ++ xs) c.in-Some.ensures.steps.0) in
    c.in_ok-add.ensures ∙ insert_next c.loop-param.by_id c.args.params.items c.loop-param.yielded c.in-Some.param _ split c.requires c.loop-param.invariant
