use Rattle.report_structures.proofs.FormedLemmas.{gives-formed}
use Rattle.report_structures.proofs.application.apply.Goals as goal

pub returns-clause-formed : goal.returns-clause-formed
returns-clause-formed c = gives-formed c.args.tailoring.now _ _ c.applied.result c.requires.grammar c.requires.formed c.applied.ensures
