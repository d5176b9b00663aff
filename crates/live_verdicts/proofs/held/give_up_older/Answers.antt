use Rattle.std.proofs.Common.{arith, ◌≤◌, List, length, sym, subst}
use Rattle.live_verdicts.specs.Marks.{StandsFor}
use Rattle.live_verdicts.specs.declared.mark.StructureMark.{StructureMark}
use Rattle.live_verdicts.proofs.HeldLemmas.{stands-drop}
use Rattle.live_verdicts.proofs.held.give_up_older.Goals as goal

pub returns : goal.returns
returns c =
    λ g stands.
    let held = c.args.held.now.items in
    let within : 256 ≤ length held = omega arith in
    subst (λ (xs : List StructureMark). StandsFor xs g) (sym c.in_ok-recent.ensures.tail) (stands-drop g held 256 within stands)
