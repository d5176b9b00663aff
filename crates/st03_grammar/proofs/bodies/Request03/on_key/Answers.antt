use Rattle.std.proofs.Common.{◌∙◌}
use Rattle.st03_grammar.proofs.Apart.{only_one}
use Rattle.st03_grammar.proofs.bodies.Request03.on_key.Goals as goal

pub returns-clause-only : goal.returns-clause-only
returns-clause-only c = λ n change apart e. c.first_on.ensures ∙ only_one c.args.self.now c.args.key n change apart e
