use Rattle.std.proofs.Common.{sym, subst, None, ◌∙◌}
use Rattle.entry_changes.specs.Changes.{AreSameBelow}
use Rattle.entry_changes.proofs.SameLemmas.{same-all}
use Rattle.decommutator.proofs.ChangeLemmas.{nothing-came, request-came, kept-came}
use Rattle.decommutator.proofs.changed.changed_from.Goals as goal

pub returns-in-Nothing : goal.returns-in-Nothing
returns-in-Nothing c = λ g e grounded came known. subst (AreSameBelow None g) (sym (nothing-came g c.args.history.now e (sym c.in-Nothing.is ∙ came) known)) (same-all g)

pub returns-in-Request : goal.returns-in-Request
returns-in-Request c = λ g e grounded came known.
    let sent = request-came g c.args.history.now e (sym c.in-Request.is ∙ came) known in
    c.changed_by_sent.ensures g sent.0 sent.1

pub returns-in-Kept : goal.returns-in-Kept
returns-in-Kept c = λ g e grounded came known.
    let got = kept-came g c.args.history.now c.in-Kept.tag e (sym c.in-Kept.is ∙ came) known in
    c.changed_by_kept.ensures g got.0 grounded got.1 got.2
