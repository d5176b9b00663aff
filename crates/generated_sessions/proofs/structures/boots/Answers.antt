use Rattle.generated_sessions.specs.Generated.{made_boot}
use Rattle.generated_sessions.proofs.Numbers.{mapped_more}
use Rattle.generated_sessions.proofs.structures.boots.Goals as goal

pub loop-number-preserved : goal.loop-number-preserved
loop-number-preserved c =
    mapped_more made_boot c.loop-number.number c.loop-number.boots.items c.push.new.self.items _ c.loop-number.invariant c.in_ok-boot.ensures
    c.in_ok-push.ensures.items
