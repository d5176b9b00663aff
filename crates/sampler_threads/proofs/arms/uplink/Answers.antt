use Rattle.std.proofs.Common.{◌≡◌, IfErr, rules, subst}
use Rattle.body_fields.specs.Spelling.{AreOctets}
use Rattle.board_steps.specs.SlotRuns.{Refuses}
use Rattle.board_steps.specs.declared.event.Event.TheVariants.{Uplink}
use Rattle.sampler_threads.proofs.arms.uplink.Goals as goal

pub returns-clause-octets : goal.returns-clause-octets
returns-clause-octets c = subst AreOctets c.as_slice-octets.ensures c.are_octets.ensures

pub returns-clause-err : goal.returns-clause-err
returns-clause-err c =
    let same : c.in_ok-copy.copy ≡ c.args.packet.now = search rules in
    subst (λ packet. IfErr c.give.result (λ fault. (c.give.new.core ≡ c.args.core.now) × Refuses c.args.core.now (Uplink packet) fault)) same c.give.ensures.refused
