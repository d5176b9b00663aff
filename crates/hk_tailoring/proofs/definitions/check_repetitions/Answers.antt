use Rattle.hk_tailoring.proofs.DefinitionLemmas.{repetition-passed}
use Rattle.hk_tailoring.proofs.definitions.check_repetitions.Goals as goal

pub loop-array-preserved : goal.loop-array-preserved
loop-array-preserved c =
    repetition-passed c.args.interval c.args.arrays.now c.loop-array.array-index c.array-item.result c.array-item.is c.loop-array-test.true
    c.if-interval-array-ne0.false c.loop-array.invariant
