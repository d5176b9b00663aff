use Rattle.std.proofs.Common.{[], Result, Err, flat_map, sym, subst, ap, ◌∙◌}
use Rattle.std.proofs.lemmas.Result.{err_from_is_err_and}
use Rattle.session_record.specs.declared.entry.WriteFault.{WriteFault}
use Rattle.decommutator.specs.Output.{seen_as, Proceeds}
use Rattle.decommutator.specs.Due.{AreRising, new_tag, with_new, due_text}
use Rattle.decommutator.proofs.OutputLemmas.{memory-stops}
use Rattle.decommutator.proofs.LookLemmas.{WaitOn, as-it-was}
use Rattle.decommutator.proofs.FollowLemmas.{waiting-rise, come-rise, come-same}
use Rattle.decommutator.proofs.following.go_on.Goals as goal

pub add_new-requires : goal.add_new-requires
add_new-requires g c = waiting-rise c.args.waiting.now.items c.requires.before c.requires.waiting c.requires.grounded.tags

pub returns-in_err-add_new-clause-text : goal.returns-in_err-add_new-clause-text
returns-in_err-add_new-clause-text g c =
    let from = seen_as (g.K.Sink.taken c.args.sink.now) (g.K.Sink.faults c.args.sink.now) (g.K.Sink.room c.args.sink.now) in
    let text = flat_map (due_text c.args.history.now) (with_new (new_tag c.args.came) c.args.waiting.now.items) in
    let p = err_from_is_err_and c.from_residual.result c.from_residual.ensures.1 in
    let Q : Result Unit WriteFault → Type 0 = λ result. Proceeds text from result [] from in
    let R : WriteFault → Type 0 = λ fault. Q (Err fault) in
    subst Q (sym p.1) (subst R (sym p.2) (memory-stops text text [] from from (as-it-was text from)))

pub write_due-requires-clause-rising : goal.write_due-requires-clause-rising
write_due-requires-clause-rising g c =
    let tags = c.args.waiting.now.items in
    subst AreRising (sym (c.in_ok-add_new.ensures ∙ ap (λ o. with_new o tags) c.changes_by-changed.ensures.new))
    (come-rise c.args.live.now tags c.args.came c.args.history.now c.requires)

pub write_due-requires-clause-same : goal.write_due-requires-clause-same
write_due-requires-clause-same g c =
    let tags = c.args.waiting.now.items in
    subst (WaitOn c.changes_by-changed.result c.args.history.now) (sym c.in_ok-add_new.ensures)
    (come-same c.args.live.now tags c.args.came c.args.history.now c.changes_by-changed.result c.requires c.changes_by-changed.ensures.new c.changes_by-changed.ensures.same)

pub write_due-requires-clause-stands : goal.write_due-requires-clause-stands
write_due-requires-clause-stands g c =
    let has = c.requires in
    c.forget_from.ensures has.before c.args.history.now has.stands (c.changes_by-changed.ensures.same has.before has.entry has.grounded has.brought has.known)
    (c.changes_by-changed.ensures.unsure has.before has.entry has.grounded has.brought has.known)
