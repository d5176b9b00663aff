use Rattle.std.proofs.Common.{arith, ◌<◌, sym, ◌∙◌, subst, ap, inl, inr, get_or, length}
use Rattle.std.proofs.lemmas.List.{get_or_default}
use Rattle.std.proofs.lemmas.Bool.{cases_eq}
use Rattle.ground_history.specs.Indexes.{HasMark}
use Rattle.ground_history.proofs.marks.Marks.make_room.Goals as goal

pub loop-step-preserved : goal.loop-step-preserved
loop-step-preserved c =
    record {
      marks = λ k s. c.make_place.ensures.marks k s ∙ c.loop-step.invariant.marks k s;
      room = λ j d lt. elim (cases_eq j c.loop-step.step-index) [
        | inl e ↦
            let under : j < length c.args.steps.now = omega arith in
            subst (λ n. HasMark c.make_place.new.self c.args.request n) (ap (λ i. get_or c.args.steps.now i 0) (sym e) ∙ get_or_default c.args.steps.now j 0 d under) c.in_ok-make_place.ensures.room
        | inr ne ↦
            let before : j < c.loop-step.step-index = omega arith in
            c.make_place.ensures.others _ _ (c.loop-step.invariant.room j d before)
      ];
    }
