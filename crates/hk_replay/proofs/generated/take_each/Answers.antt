use Rattle.std.proofs.Common.{◌<◌, ◌∷◌, ◌++◌, [], List, length, take, arith, ap, sym, subst, ◌∙◌}
use Rattle.std.proofs.lemmas.List.{take_more}
use Rattle.session_record.specs.declared.entry.Entry.{Entry}
use Rattle.hk_replay.specs.Generating.{Follows}
use Rattle.hk_replay.proofs.GeneratingLemmas.{follows_none, follows_then, all_taken}
use Rattle.hk_replay.proofs.generated.take_each.Goals as goal

pub loop-entry-init : goal.loop-entry-init
loop-entry-init c = record { follows = follows_none c.args.session.now.standing; few = omega arith }

pub loop-entry-preserved : goal.loop-entry-preserved
loop-entry-preserved c =
    let i = c.loop-entry.entry-index in
    let item = c.entry-item.result in
    let es = c.args.entries.now in
    let below : i < length es = c.loop-entry-test.true in
    let start = c.args.session.now.standing in
    let after = c.take_one.new.session.standing in
    record {
      follows = subst (λ (xs : List Entry). Follows xs start after) (sym (take_more es i item below ∙ ap (λ (x : Entry). take i es ++ x ∷ []) (sym c.entry-item.is)))
          (follows_then (take i es) (item ∷ []) start c.loop-entry.session.standing after c.loop-entry.invariant.follows c.in_ok-take_one.ensures.follows);
      few = omega (arith, c.take_one.ensures.count);
    }

pub returns-clause-follows : goal.returns-clause-follows
returns-clause-follows c = all_taken c.args.entries.now c.loop-entry.entry-index c.args.session.now.standing c.loop-entry.session.standing c.loop-entry-test.false c.loop-entry.invariant.follows
