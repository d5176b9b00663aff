use Rattle.generated_sessions.specs.Parts.{made_param}
use Rattle.generated_sessions.proofs.Numbers.{mapped_more}
use Rattle.generated_sessions.proofs.structures.params.Goals as goal

pub loop-number-preserved : goal.loop-number-preserved
loop-number-preserved c =
    mapped_more made_param c.loop-number.number c.loop-number.params.items c.push.new.self.items _ c.loop-number.invariant c.param.ensures
    c.in_ok-push.ensures.items
