use Rattle.std.proofs.Common.{◌≡◌, FitsSigned, IfErr, OnOk, rules, subst}
use Rattle.std.specs.Int.{w128}
use Rattle.std.proofs.lemmas.Int.{to_z-of_z}
use Rattle.board_steps.specs.Runs.{IsMade}
use Rattle.board_steps.specs.SlotRuns.{Refuses}
use Rattle.board_steps.specs.Steps.{MayFile}
use Rattle.board_steps.specs.declared.event.Event.TheVariants.{Filing}
use Rattle.board_steps.specs.declared.event.Sample.{Sample}
use Rattle.sampler_threads.specs.Deeds.{Takes, Tells}
use Rattle.sampler_threads.specs.Rings.{Stops}
use Rattle.sampler_threads.proofs.RunLemmas.{takes_nothing, takes_dropped, takes_filed}
use Rattle.sampler_threads.proofs.ServeLemmas.{on_ok, if_err}
use Rattle.sampler_threads.proofs.rings.file.Goals as goal

pub returns-in_default-clause-ok : goal.returns-in_default-clause-ok
returns-in_default-clause-ok c = takes_nothing c.args.core.now c.args.item c.in_default.is

pub returns-then-not-may_file-clause-ok : goal.returns-then-not-may_file-clause-ok
returns-then-not-may_file-clause-ok c =
    let v = c.in-Some.value in
    let fits : FitsSigned w128 v = search rules in
    let sample : Sample = record { param = c.args.item.param; slot = c.args.item.slot; value = v } in
    let told : Tells c.may_file.result (MayFile c.args.core.now sample) =
    subst (λ w. Tells c.may_file.result (MayFile c.args.core.now (record { param = c.args.item.param; slot = c.args.item.slot; value = w }))) (to_z-of_z w128 v fits) c.may_file.ensures in
    takes_dropped c.args.core.now c.args.item v c.in-Some.is (subst (λ b. Tells b (MayFile c.args.core.now sample)) c.if-not-may_file.true told)

pub returns-clause-ok : goal.returns-clause-ok
returns-clause-ok c =
    let v = c.in-Some.value in
    let fits : FitsSigned w128 v = search rules in
    let sample : Sample = record { param = c.args.item.param; slot = c.args.item.slot; value = v } in
    let core = c.args.core.now in
    let after = c.give.new.core in
    let made : OnOk c.give.result (IsMade core (Filing sample) after) =
    subst (λ w. OnOk c.give.result (IsMade core (Filing (record { param = c.args.item.param; slot = c.args.item.slot; value = w })) after)) (to_z-of_z w128 v fits) c.give.ensures.made in
    on_ok c.give.result (IsMade core (Filing sample) after) (Takes core c.args.item after) (λ m. takes_filed core after c.args.item v c.in-Some.is m) made

pub returns-clause-err : goal.returns-clause-err
returns-clause-err c =
    let v = c.in-Some.value in
    let fits : FitsSigned w128 v = search rules in
    let sample : Sample = record { param = c.args.item.param; slot = c.args.item.slot; value = v } in
    let core = c.args.core.now in
    let after = c.give.new.core in
    let told : Tells c.may_file.result (MayFile core sample) =
    subst (λ w. Tells c.may_file.result (MayFile core (record { param = c.args.item.param; slot = c.args.item.slot; value = w }))) (to_z-of_z w128 v fits) c.may_file.ensures in
    let may : MayFile core sample = subst (λ b. Tells b (MayFile core sample)) c.if-not-may_file.false told in
    let refused : IfErr c.give.result (λ fault. (after ≡ core) × Refuses core (Filing sample) fault) =
    subst (λ w. IfErr c.give.result (λ fault. (after ≡ core) × Refuses core (Filing (record { param = c.args.item.param; slot = c.args.item.slot; value = w })) fault)) (to_z-of_z w128 v fits) c.give.ensures.refused in
    if_err c.give.result (λ fault. (after ≡ core) × Refuses core (Filing sample) fault) (λ fault. (after ≡ core) × Stops core fault)
    (λ fault h. (h.0, (sample, may, h.1))) refused
