use Rattle.std.proofs.Common.{arith, ◌+◌, ◌-◌, ◌/◌, ◌<◌, ◌≤◌, subst}
use Rattle.live_verdicts.proofs.SplitLemmas.{have-begun, are-late}
use Rattle.live_verdicts.proofs.counting.listed_below.Goals as goal
use Rattle.std.proofs.Common.{refl}

pub loop-from-preserved-then-low-tag : goal.loop-from-preserved-then-low-tag
loop-from-preserved-then-low-tag c =
    let g = c.args.history.now in
    let middle = c.loop-from.from + (c.loop-from.to - c.loop-from.from) / 2 in
    let within = c.loop-from.invariant.within in
    let below : middle < c.loop-from.to = omega (arith, c.loop-from-test.true) in
    record {
      order = omega (arith, below);
      within = within;
      begun = have-begun c.bounds_rise.ensures g (middle + 1) c.args.tag middle c.tailoring-tailoring.ensures.grounded (omega (arith, below, within)) refl
          (subst (λ n. n < c.args.tag) c.low.ensures c.if-low-tag.true);
      late = c.loop-from.invariant.late;
    }

pub loop-from-preserved : goal.loop-from-preserved
loop-from-preserved c =
    let g = c.args.history.now in
    let middle = c.loop-from.from + (c.loop-from.to - c.loop-from.from) / 2 in
    let within = c.loop-from.invariant.within in
    let below : middle < c.loop-from.to = omega (arith, c.loop-from-test.true) in
    record {
      order = omega arith;
      within = omega (arith, below, within);
      begun = c.loop-from.invariant.begun;
      late = are-late c.bounds_rise.ensures g middle c.args.tag c.tailoring-tailoring.ensures.grounded
          (subst (λ n. c.args.tag ≤ n) c.low.ensures (omega (arith, c.if-low-tag.false)));
    }
