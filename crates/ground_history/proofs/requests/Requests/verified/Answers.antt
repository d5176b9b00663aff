use Rattle.std.proofs.Common.{arith, ◌+◌, ◌-◌, ◌*◌, ◌%◌, sym, ◌∙◌}
use Rattle.ground_history.proofs.RequestLemmas.{last-verified, none-next, none-turn, none-left}
use Rattle.ground_history.proofs.requests.Requests.verified.Goals as goal

pub returns-then-is_verified_by-clause-number : goal.returns-then-is_verified_by-clause-number
returns-then-is_verified_by-clause-number c =
    last-verified c.args.long c.args.id c.args.tag c.args.self.now (c.from-count.result % 16384 + 16384 * (c.loop-rounds.rounds - 1)) c.in-Some.request.now (sym c.in-Some.ensures)
    (sym c.is_verified_by.ensures ∙ c.if-is_verified_by.true)
    (none-next c.args.long c.args.id c.args.tag c.args.self.now c.from-count.result c.loop-rounds.rounds c.from-count.ensures c.len.ensures.counted c.loop-rounds-test.true c.loop-rounds.invariant.none)

pub loop-rounds-preserved : goal.loop-rounds-preserved
loop-rounds-preserved c =
    record {
      most = omega arith;
      none =
          none-turn c.args.long c.args.id c.args.tag c.args.self.now c.from-count.result c.loop-rounds.rounds c.in-Some.request.now c.from-count.ensures c.len.ensures.counted c.loop-rounds-test.true
          (sym c.in-Some.ensures) (sym c.is_verified_by.ensures ∙ c.if-is_verified_by.false) c.loop-rounds.invariant.none;
    }

pub returns-clause-number : goal.returns-clause-number
returns-clause-number c =
    none-left c.args.long c.args.id c.args.tag c.args.self.now c.from-count.result c.loop-rounds.rounds c.from-count.ensures c.len.ensures.counted c.loop-rounds-test.false c.loop-rounds.invariant.none
