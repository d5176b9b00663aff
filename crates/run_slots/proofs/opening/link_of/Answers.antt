use Rattle.run_slots.proofs.StandingLemmas.{begins}
use Rattle.run_slots.proofs.opening.link_of.Goals as goal

pub returns : goal.returns
returns c = λ t. begins t c.args.script.now c.new.result c.new.ensures.settings c.new.ensures.held
