use Rattle.std.proofs.Common.{arith}
use Rattle.opening_sweeps.proofs.tail.reach_one.Goals as goal

pub returns-clause-found : goal.returns-clause-found
returns-clause-found c =
    λ settled h.
    record {
      some = h.some;
      base = h.base;
      found = c.in_ok-found.ensures.formed;
      within = omega (arith, h.within, c.requires.limited);
      limited = omega arith;
      same = c.in_ok-found.ensures.found settled c.args.group.base h.within h.same;
    }
