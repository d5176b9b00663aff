use Rattle.std.proofs.Common.{arith, ◌≡◌, ◌<◌, ◌≤◌, length, subst}
use Rattle.live_verdicts.specs.Marks.{IsMarkOf, with_calm}
use Rattle.live_verdicts.proofs.GrowLemmas.{calm-more}
use Rattle.live_verdicts.proofs.growing.calm_until.Goals as goal

pub loop-number-preserved : goal.loop-number-preserved
loop-number-preserved c =
    record {
      calm = λ starts mark.
          let g = c.args.history.now in
          let m = c.args.mark.now in
          let n = c.loop-number.number in
          let within : n < length g.history.requests = omega (arith, c.requires.within, c.loop-number-test.true) in
          let listed : m.listed ≤ n = (let order = mark.order in let from = c.loop-number.auto.number in omega (arith, order, from)) in
          calm-more c.same_is_found.ensures g c.args.key starts m n within listed (c.in_ok-passes.ensures.passes c.if-not-branch.false) (c.loop-number.invariant.calm starts mark);
      left = c.passes.ensures.left;
    }

pub returns-clause-calm : goal.returns-clause-calm
returns-clause-calm c =
    λ starts mark.
    let m = c.args.mark.now in
    let end : c.loop-number.number ≡ c.args.end = omega (arith, c.loop-number-test.false, c.loop-number.auto.number-end) in
    subst (λ n. IsMarkOf c.args.history.now c.args.key starts (with_calm m n)) end (c.loop-number.invariant.calm starts mark)
