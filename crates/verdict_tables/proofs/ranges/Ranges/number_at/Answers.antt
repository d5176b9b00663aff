use Rattle.std.proofs.Common.{arith, ◌≡◌, ◌-◌, ◌+◌, refl}
use Rattle.verdict_tables.proofs.SearchLemmas.{between-all, between-later, between-earlier, between-found}
use Rattle.verdict_tables.proofs.ranges.Ranges.number_at.Goals as goal

pub loop-end-init : goal.loop-end-init
loop-end-init g c =
    record {
      more = omega arith;
      between = between-all c.args.self.now c.args.tag c.len-end.result (c.args.steps.now - c.args.steps.now) c.len-end.ensures.ranges c.len-end.ensures.len (omega arith);
    }

pub loop-end-preserved-then-first-tag : goal.loop-end-preserved-then-first-tag
loop-end-preserved-then-first-tag g c =
    let old = c.loop-end.invariant in
    let probe : c.first.new.steps - c.args.steps.now ≡ (c.loop-end.steps - c.args.steps.now) + 1 = omega (arith, old.more, c.first.ensures.cost) in
    record {
      more = omega (arith, old.more, c.first.ensures.cost);
      between = between-later c.args.self.now c.args.tag c.loop-end.last c.loop-end.end _ c.first.result _ _ old.between c.loop-end-test.true refl probe c.first.ensures.first c.if-first-tag.true;
    }

pub loop-end-preserved : goal.loop-end-preserved
loop-end-preserved g c =
    let old = c.loop-end.invariant in
    let probe : c.first.new.steps - c.args.steps.now ≡ (c.loop-end.steps - c.args.steps.now) + 1 = omega (arith, old.more, c.first.ensures.cost) in
    record {
      more = omega (arith, old.more, c.first.ensures.cost);
      between = between-earlier c.args.self.now c.args.tag c.loop-end.last c.loop-end.end _ c.first.result _ _ old.between c.loop-end-test.true refl probe c.first.ensures.first c.if-first-tag.false;
    }

pub returns-clause-number : goal.returns-clause-number
returns-clause-number g c =
    between-found c.args.self.now c.args.tag c.loop-end.last c.loop-end.end _ c.len-end.ensures.ranges c.loop-end.invariant.between c.loop-end-test.false
