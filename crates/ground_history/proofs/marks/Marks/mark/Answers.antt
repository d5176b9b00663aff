use Rattle.ground_history.proofs.marks.Marks.mark.Goals as goal

pub mark_one-requires : goal.mark_one-requires
mark_one-requires c = c.loop-step.invariant.room _ _ (c.requires c.loop-step.step-index 0 c.loop-step-test.true)
