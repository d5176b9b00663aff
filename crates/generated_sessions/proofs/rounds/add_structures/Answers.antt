use Rattle.generated_sessions.specs.Generated as made
use Rattle.generated_sessions.proofs.Numbers.{flat_mapped_more}
use Rattle.generated_sessions.proofs.rounds.add_structures.Goals as goal

pub loop-number-preserved : goal.loop-number-preserved
loop-number-preserved c =
    flat_mapped_more (made.delivered c.args.seed c.args.round) c.loop-number.number c.args.entries.now.items c.loop-number.entries.items
    c.add_delivered.new.entries.items c.loop-number.invariant
    c.in_ok-add_delivered.ensures
