use Rattle.std.proofs.Common.{arith, sym, subst, None, refl, ◌∙◌}
use Rattle.entry_changes.specs.Changes.{AreUnsureSame}
use Rattle.decommutator.proofs.ChangeLemmas.{nothing-came, request-came, kept-came}
use Rattle.decommutator.proofs.changed.touched_by.Goals as goal

pub returns-in-Nothing : goal.returns-in-Nothing
returns-in-Nothing c = λ g e grounded came known.
    subst (AreUnsureSame None g) (sym (nothing-came g c.args.history.now e (sym c.in-Nothing.is ∙ came) known))
    (record { count = omega arith; unsures = λ key first end within up. refl })

pub returns-in-Request : goal.returns-in-Request
returns-in-Request c = λ g e grounded came known.
    let sent = request-came g c.args.history.now e (sym c.in-Request.is ∙ came) known in
    subst (AreUnsureSame None g) (sym sent.1) (c.sent_touches_none.ensures g sent.0)

pub returns-in-Kept : goal.returns-in-Kept
returns-in-Kept c = λ g e grounded came known.
    let got = kept-came g c.args.history.now c.in-Kept.tag e (sym c.in-Kept.is ∙ came) known in
    c.touched_by_kept.ensures g got.0 grounded got.1 got.2
