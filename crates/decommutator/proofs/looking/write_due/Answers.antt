use Rattle.std.proofs.Common.{◌≡◌, ◌++◌, [], List, ℕ, Result, Ok, Err, flat_map, filter, sym, subst, ap, ◌∙◌}
use Rattle.std.proofs.lemmas.Result.{err_from_is_err_and}
use Rattle.session_record.specs.declared.entry.WriteFault.{WriteFault}
use Rattle.decommutator.specs.Output.{as_seen, Proceeds}
use Rattle.decommutator.specs.Due.{due_text, waits}
use Rattle.decommutator.proofs.OutputLemmas.{memory-stops}
use Rattle.decommutator.proofs.LookLemmas.{WaitOn, later-wait, none-due, none-leave, due-later, left-later, gathered, nothing-written, as-it-was, ended, on-ok}
use Rattle.decommutator.proofs.looking.write_due.Goals as goal

pub returns-in_default-clause-text : goal.returns-in_default-clause-text
returns-in_default-clause-text g c =
    let from = as_seen g.K.Sink c.args.sink.now in
    let tags = c.args.waiting.now.items in
    nothing-written (flat_map (due_text c.args.history.now) tags) from (none-due c.args.changed c.args.history.now tags c.in_default.ensures c.requires.same)

pub returns-in_default-clause-waiting : goal.returns-in_default-clause-waiting
returns-in_default-clause-waiting g c = none-leave c.args.changed c.args.history.now c.args.waiting.now.items c.in_default.ensures c.requires.same

pub returns-in_err-tags-clause-text : goal.returns-in_err-tags-clause-text
returns-in_err-tags-clause-text g c =
    let from = as_seen g.K.Sink c.args.sink.now in
    let text = flat_map (due_text c.args.history.now) c.args.waiting.now.items in
    let p = err_from_is_err_and c.from_residual.result c.from_residual.ensures.1 in
    let Q : Result Unit WriteFault → Type 0 = λ result. Proceeds text from result [] from in
    let R : WriteFault → Type 0 = λ fault. Q (Err fault) in
    subst Q (sym p.1) (subst R (sym p.2) (memory-stops text text [] from from (as-it-was text from)))

pub look_over-requires-clause-same : goal.look_over-requires-clause-same
look_over-requires-clause-same g c =
    let told = c.in_ok-tags.ensures in
    subst (WaitOn c.args.changed c.args.history.now) (sym c.as_slice.ensures.value)
    (later-wait c.args.changed c.args.history.now c.split_from.new.tags.items c.in_ok-tags.tags.items c.args.waiting.now.items told.whole c.requires.same)

pub returns-in_err-look_over-clause-text : goal.returns-in_err-look_over-clause-text
returns-in_err-look_over-clause-text g c =
    let f = due_text c.args.history.now in
    let all = c.args.waiting.now.items in
    let from = as_seen g.K.Sink c.args.sink.now in
    let now = as_seen g.K.Sink c.look_over.new.sink in
    let out = c.look_over.new.out.items in
    let fault = c.in_err-look_over.field-0.0 in
    let told = c.in_ok-tags.ensures in
    let same : c.new-out.result.items ++ flat_map f c.as_slice.result.now ≡ flat_map f all =
    ap (λ o. o ++ flat_map f c.as_slice.result.now) c.new-out.ensures.items
    ∙ (ap (flat_map f) c.as_slice.ensures.value
    ∙ due-later c.args.changed c.args.history.now c.in-Some.first c.split_from.new.tags.items c.in_ok-tags.tags.items all c.in-Some.ensures told.below told.whole c.requires.same) in
    let N : List ℕ → Type 0 = λ octets. Proceeds octets from (Err fault) out now in
    let p = err_from_is_err_and c.from_residual-in_err-look_over.result c.from_residual-in_err-look_over.ensures.1 in
    let Q : Result Unit WriteFault → Type 0 = λ result. Proceeds (flat_map f all) from result [] now in
    let R : WriteFault → Type 0 = λ x. Q (Err x) in
    subst Q (sym p.1) (subst R (sym p.2) (ended (flat_map f all) out [] fault from now (subst N same c.in_err-look_over.ensures.text)))

pub returns-clause-text : goal.returns-clause-text
returns-clause-text g c =
    let f = due_text c.args.history.now in
    let all = c.args.waiting.now.items in
    let from = as_seen g.K.Sink c.args.sink.now in
    let mid = as_seen g.K.Sink c.look_over.new.sink in
    let now = as_seen g.K.Sink c.write_gathered.new.sink in
    let out = c.look_over.new.out.items in
    let told = c.in_ok-tags.ensures in
    let same : c.new-out.result.items ++ flat_map f c.as_slice.result.now ≡ flat_map f all =
    ap (λ o. o ++ flat_map f c.as_slice.result.now) c.new-out.ensures.items
    ∙ (ap (flat_map f) c.as_slice.ensures.value
    ∙ due-later c.args.changed c.args.history.now c.in-Some.first c.split_from.new.tags.items c.in_ok-tags.tags.items all c.in-Some.ensures told.below told.whole c.requires.same) in
    let N : List ℕ → Type 0 = λ octets. Proceeds octets from (Ok tt) out mid in
    gathered (flat_map f all) out c.write_gathered.result from mid now (subst N same c.in_ok-look_over.ensures.text) c.write_gathered.ensures.proceeds

pub returns-clause-waiting : goal.returns-clause-waiting
returns-clause-waiting g c =
    let told = c.in_ok-tags.ensures in
    let low = c.split_from.new.tags.items in
    let test = waits c.args.history.now in
    let new = c.look_over.new.waiting.items in
    let is : new ≡ low ++ filter test c.in_ok-tags.tags.items = c.in_ok-look_over.ensures.waiting ∙ ap (λ l. low ++ filter test l) c.as_slice.ensures.value in
    on-ok c.write_gathered.result (new ≡ filter test c.args.waiting.now.items)
    (left-later c.args.changed c.args.history.now c.in-Some.first low c.in_ok-tags.tags.items c.args.waiting.now.items new c.in-Some.ensures told.below told.whole c.requires.same is)
