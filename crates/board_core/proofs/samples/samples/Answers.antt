use Rattle.std.proofs.Common.{rules, Vec, Global, FitsSigned, ◌∷◌, ◌++◌, [], ℤ, Some, None, sym, ◌∙◌, ap}
use Rattle.std.specs.Int.{w128}
use Rattle.std.proofs.lemmas.Int.{to_z-of_z}
use Rattle.std.proofs.lemmas.List.{append-nil}
use Rattle.hk_base.specs.Payload.{places}
use Rattle.board_core.specs.Closing.{held_sample}
use Rattle.board_core.proofs.EndSampleLemmas.{value-kept}
use Rattle.board_core.proofs.samples.samples.Goals.{in-Some-sample+in_ok-push, in_default-sample}
use Rattle.board_core.proofs.samples.samples.Goals as goal

pub loop-number-preserved : goal.loop-number-preserved
loop-number-preserved c =
    let ps = places c.args.def.now c.args.slot in
    let was = c.loop-number.values.items in
    elim c.match-sample.branch [
      | in-Some-sample+in_ok-push w ↦ (
          let fits : FitsSigned w128 w.in-Some-sample.value = search rules in
          value-kept (held_sample c.args.channels.now c.args.slot) was c.match-sample.values.items ps c.loop-number.number c.in-Some.place (Some w.in-Some-sample.value) (sym c.in-Some.ensures)
          (sym c.sample.ensures ∙ w.in-Some-sample.is)
          (ap (λ (x : Vec ℤ Global). x.items) w.values-is ∙ w.in_ok-push.ensures.items ∙ ap (λ z. was ++ z ∷ []) (to_z-of_z w128 w.in-Some-sample.value fits)) c.loop-number.invariant
          )
      | in_default-sample w ↦ value-kept (held_sample c.args.channels.now c.args.slot) was c.match-sample.values.items ps c.loop-number.number c.in-Some.place None (sym c.in-Some.ensures)
          (sym c.sample.ensures ∙ w.in_default-sample.is) (ap (λ (x : Vec ℤ Global). x.items) w.values-is ∙ sym (append-nil was)) c.loop-number.invariant
    ]
