use Rattle.std.proofs.Common.{arith, ◌≡◌, ◌∙◌, sym, subst}
use Rattle.live_verdicts.specs.Marks.{ComesTo, calm_at}
use Rattle.live_verdicts.specs.declared.mark.Mark.{Mark}
use Rattle.live_verdicts.specs.declared.mark.StructureMark.{StructureMark}
use Rattle.live_verdicts.proofs.HeldLemmas.{place-at, held-mark}
use Rattle.live_verdicts.proofs.PlaceLemmas.{IsMarked, changed_calm, get-same, stands-changed, calm-mark, next-mark, comes-next, calm-is, calm-set, own-key, if-place, if-calm}
use Rattle.live_verdicts.proofs.reaching.step.Goals as goal

pub returns-then-calm-mark-clause-stands : goal.returns-then-calm-mark-clause-stands
returns-then-calm-mark-clause-stands c =
    let g = c.args.history.now in
    let held = c.args.held.now.items in
    let place = c.args.place in
    let x = c.index.result.now in
    let y = c.index_mut.result.now in
    let same : x ≡ y = c.index.ensures ∙ (get-same held place x y c.requires.coming.0 ∙ sym c.index_mut.ensures.value) in
    let both = place-at (λ (m : Mark). ComesTo g.history m c.args.asked.listed c.args.asked.tag) c.args.asked.key held place x c.requires.coming c.index.ensures in
    let mark = held-mark g c.args.asked.key held place x c.requires.stands c.requires.coming.0 c.index.ensures both.0 in
    let marked = own-key g c.args.asked.key (changed_calm x c.in_ok-calm.calm) both.0 (calm-mark g c.args.asked.key x.mark c.in_ok-calm.calm mark c.in_ok-calm.ensures.calm) in
    stands-changed g held place (changed_calm y c.in_ok-calm.calm) (subst (λ (z : StructureMark). IsMarked g (changed_calm z c.in_ok-calm.calm)) same marked) c.requires.stands

pub returns-then-calm-mark-clause-more : goal.returns-then-calm-mark-clause-more
returns-then-calm-mark-clause-more c =
    let held = c.args.held.now.items in
    let place = c.args.place in
    let x = c.index.result.now in
    let before = calm-is held place x c.requires.coming.0 c.index.ensures in
    let after = calm-set held place (changed_calm c.index_mut.result.now c.in_ok-calm.calm) c.requires.coming.0 in
    omega (arith, before, after, c.if-calm-mark.true)

pub grown-requires-clause-within : goal.grown-requires-clause-within
grown-requires-clause-within c =
    let before = calm-is c.args.held.now.items c.args.place c.index.result.now c.requires.coming.0 c.index.ensures in
    omega (arith, before, c.requires.short, c.requires.within)

pub returns-clause-stands : goal.returns-clause-stands
returns-clause-stands c =
    let g = c.args.history.now in
    let held = c.args.held.now.items in
    let place = c.args.place in
    let x = c.index.result.now in
    let both = place-at (λ (m : Mark). ComesTo g.history m c.args.asked.listed c.args.asked.tag) c.args.asked.key held place x c.requires.coming c.index.ensures in
    let mark = held-mark g c.args.asked.key held place x c.requires.stands c.requires.coming.0 c.index.ensures both.0 in
    c.hold.ensures.stands g c.requires.stands (next-mark g c.args.asked.key x.mark c.in_ok-grown.grown mark c.in_ok-grown.ensures.grown c.in_ok-grown.ensures.mark)

pub returns-clause-coming : goal.returns-clause-coming
returns-clause-coming c =
    let g = c.args.history.now in
    let held = c.args.held.now.items in
    let place = c.args.place in
    let x = c.index.result.now in
    let listed = c.args.asked.listed in
    let before = calm-is held place x c.requires.coming.0 c.index.ensures in
    let both = place-at (λ (m : Mark). ComesTo g.history m listed c.args.asked.tag) c.args.asked.key held place x c.requires.coming c.index.ensures in
    let comes = comes-next g.history x.mark c.in_ok-grown.grown listed c.args.asked.tag c.in_ok-grown.ensures.grown (omega (arith, before, c.requires.short)) both.1 in
    if-place (λ (m : Mark). ComesTo g.history m listed c.args.asked.tag) c.args.asked.key c.hold.new.held.items c.in_ok-grown.grown comes c.hold.result c.hold.ensures.place

pub returns-clause-more : goal.returns-clause-more
returns-clause-more c =
    let held = c.args.held.now.items in
    let x = c.index.result.now in
    let before = calm-is held c.args.place x c.requires.coming.0 c.index.ensures in
    if-calm c.args.asked.key c.hold.new.held.items c.in_ok-grown.grown (calm_at held c.args.place) (let more = c.in_ok-grown.ensures.grown.calm in omega (arith, before, more)) c.hold.result c.hold.ensures.place
