use Rattle.std.proofs.Common.{List, ℕ, arith, subst, ◌∙◌}
use Rattle.hk_base.specs.Outside.{Takes}
use Rattle.session_record.proofs.WritingLemmas.{written-more, room-more}
use Rattle.session_record.proofs.writer.write_all.Goals as goal

pub loop-at-preserved : goal.loop-at-preserved
loop-at-preserved g c =
    let text = c.args.octets.now in
    let at = c.loop-at.at in
    let n = c.in_ok-at.field-0 in
    let P : List ℕ → Type 0 = λ left. Takes (g.K.Sink.taken c.loop-at.sink) n left (g.K.Sink.taken c.write.new.self) in
    record {
      within = omega (arith, c.in_ok-at.ensures.within.1, c.split_at.ensures.back_len);
      written = written-more _ (g.K.Sink.taken c.loop-at.sink) _ text at n c.loop-at.invariant.written (subst P c.split_at.ensures.back c.in_ok-at.ensures.took);
      faults = c.in_ok-at.ensures.count ∙ c.loop-at.invariant.faults;
      room = room-more _ (g.K.Sink.room c.loop-at.sink) _ text at n c.loop-at.invariant.room c.in_ok-at.ensures.room;
    }
