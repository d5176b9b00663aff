use Rattle.session_texts.specs.Truth.{IsTrueText, HaveRisingTags, HasTrueReasons}
use Rattle.decommutator.proofs.TruthLemmas.{standing-true}
use Rattle.decommutator.proofs.decommutator.Decommutator.finish.Goals as goal

pub returns-clause-truth : goal.returns-clause-truth
returns-clause-truth g c = λ w stands. standing-true IsTrueText c.texts_are_true.ensures.known w c.args.self.now.standing stands

pub returns-clause-reasons : goal.returns-clause-reasons
returns-clause-reasons g c = λ w stands. standing-true (HasTrueReasons HaveRisingTags) c.texts_are_true.ensures.known_reasons w c.args.self.now.standing stands
