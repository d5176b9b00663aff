use Rattle.std.proofs.Common.{List, arith, sym, subst}
use Rattle.session_record.specs.declared.entry.Entry.{Entry}
use Rattle.generated_sessions.specs.Generated as made
use Rattle.hk_replay.specs.Generating.{Follows}
use Rattle.hk_replay.proofs.GeneratingLemmas.{follows_none, follows_then}
use Rattle.hk_replay.proofs.generated.take_rounds.Goals as goal

pub loop-round-init : goal.loop-round-init
loop-round-init c = record {
  follows = subst (λ (es : List Entry). Follows es c.args.session.now.standing c.args.session.now.standing) (sym (c.rounds_come_one_by_one.ensures.none c.args.seed)) (follows_none c.args.session.now.standing);
  few = omega arith;
}

pub loop-round-preserved : goal.loop-round-preserved
loop-round-preserved c = record {
  follows = subst (λ (es : List Entry). Follows es c.args.session.now.standing c.take_round.new.session.standing) (sym (c.rounds_come_one_by_one.ensures.more c.args.seed c.loop-round.round))
      (follows_then (made.rounds c.args.seed c.loop-round.round) (made.round_entries c.args.seed c.loop-round.round) c.args.session.now.standing c.loop-round.session.standing c.take_round.new.session.standing
      c.loop-round.invariant.follows c.in_ok-take_round.ensures.follows);
  few = omega (arith, c.in_ok-take_round.ensures.few);
}
