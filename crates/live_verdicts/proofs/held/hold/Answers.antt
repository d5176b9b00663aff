use Rattle.std.proofs.Common.{List, sym, subst}
use Rattle.live_verdicts.specs.Marks.{StandsFor}
use Rattle.live_verdicts.specs.declared.mark.StructureMark.{StructureMark}
use Rattle.live_verdicts.proofs.HeldLemmas.{stands-more}
use Rattle.live_verdicts.proofs.held.hold.Goals as goal

pub returns-in_err-push-clause-stands : goal.returns-in_err-push-clause-stands
returns-in_err-push-clause-stands c =
    λ g stands mark. subst (λ (xs : List StructureMark). StandsFor xs g) (sym c.in_err-push.ensures.items) (c.give_up_first_of.ensures g (c.in_ok-give_up_older.ensures g stands))

pub returns-clause-stands : goal.returns-clause-stands
returns-clause-stands c =
    λ g stands mark.
    subst (λ (xs : List StructureMark). StandsFor xs g) (sym c.in_ok-push.ensures.items)
    (stands-more g c.give_up_first_of.new.held.items (record { key = c.args.key; mark = c.args.mark }) (c.give_up_first_of.ensures g (c.in_ok-give_up_older.ensures g stands)) mark)
