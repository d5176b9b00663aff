use Rattle.std.proofs.Common.{List, sym, subst}
use Rattle.live_verdicts.specs.Marks.{StandsFor}
use Rattle.live_verdicts.specs.declared.mark.StructureMark.{StructureMark}
use Rattle.live_verdicts.proofs.HeldLemmas.{stands-left}
use Rattle.live_verdicts.proofs.held.give_up_first_of.Goals as goal

pub returns-in-Some : goal.returns-in-Some
returns-in-Some c =
    λ g stands.
    subst (λ (xs : List StructureMark). StandsFor xs g) (sym c.remove.ensures.items) (stands-left g c.args.held.now.items c.in-Some.first stands)
