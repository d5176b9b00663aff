use Rattle.std.proofs.Common.{arith, subst}
use Rattle.live_verdicts.proofs.SplitLemmas.{holds-below}
use Rattle.live_verdicts.specs.Marks.{GoesOn, IsMark}
use Rattle.live_verdicts.specs.declared.mark.Mark.{Mark}
use Rattle.live_verdicts.specs.declared.mark.StructureMark.{StructureMark}
use Rattle.live_verdicts.proofs.HeldLemmas.{place-at, held-mark}
use Rattle.live_verdicts.proofs.behind.mark_behind.Goals as goal

pub later_mark-requires-clause-mark : goal.later_mark-requires-clause-mark
later_mark-requires-clause-mark c =
    let key = c.args.asked.key in
    let held = c.args.held.now in
    let place = c.in-Some.field-0.place in
    let x = c.index-held-place.result in
    let told = c.in-Some.ensures.place in
    let both = place-at (λ (m : Mark). GoesOn c.args.history.now.history m c.in-Some.field-0.numbers.first c.args.asked.tag) key held place x told c.index-held-place.is in
    subst (λ (y : StructureMark). IsMark c.args.history.now key y.mark) c.index-held-place.is
    (held-mark c.args.history.now key held place x c.requires.stands told.0 c.index-held-place.is both.0)

pub returns-in-Some : goal.returns-in-Some
returns-in-Some c =
    λ comes.
    c.in_ok-later.ensures.mark
    (holds-below c.args.history.now.history c.in_ok-later.later c.in-Some.field-0.numbers.end c.args.asked.listed c.args.asked.tag c.in_ok-later.ensures.past (let same = c.in-Some.ensures.numbers.1 in omega (arith, same, c.requires.order)) comes.holds)
