use Rattle.std.proofs.Common.{◌-◌}
use Rattle.live_verdicts.specs.Marks.{ComesTo, IsPlaceOf, StandsFor, calm_at}
use Rattle.live_verdicts.specs.declared.mark.Mark.{Mark}
use Rattle.live_verdicts.proofs.reaching.reach.Given as goal

abbrev pub invariant-loop-alloc : goal.invariant-loop-alloc
invariant-loop-alloc l =
    record {
      stands : StandsFor l.held.items l.history;
      coming : IsPlaceOf (λ (m : Mark). ComesTo l.history.history m l.asked.listed l.asked.tag) l.asked.key l.held.items l.place;
    }

abbrev pub decreases-loop-alloc : goal.decreases-loop-alloc
decreases-loop-alloc l = l.asked.listed - calm_at l.held.items l.place
