use Rattle.std.proofs.Common.{ap, add-one}
use Rattle.generated_sessions.specs.Generated as made
use Rattle.generated_sessions.proofs.laws.rounds_come_one_by_one.Goals as goal

pub returns-clause-more : goal.returns-clause-more
returns-clause-more c = λ seed count. ap (made.rounds seed) (add-one count)
