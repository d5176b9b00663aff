use Rattle.std.proofs.Common.{arith, ◌≡◌, ◌∙◌, ◌<◌, length, sym, ap, subst}
use Rattle.live_verdicts.specs.Marks.{IsKept, narrowed_to}
use Rattle.live_verdicts.specs.declared.mark.StructureMark.{StructureMark}
use Rattle.live_verdicts.proofs.GrowLemmas.{all-taken}
use Rattle.live_verdicts.proofs.PlaceLemmas.{IsMarked, changed_calm, kept-done, kept-ahead, left-done, left-ahead, left-length, set-length, get-same, stands-same}
use Rattle.live_verdicts.proofs.forgetting.forget.Goals as goal

pub loop-place-preserved-then-is_kept : goal.loop-place-preserved-then-is_kept
loop-place-preserved-then-is_kept c =
    let held = c.loop-place.held.items in
    let place = c.loop-place.place in
    let x = c.index_mut.result.now in
    let first = c.index.result.now in
    let second = c.index-then-is_kept.result.now in
    let within : place < length held = omega (arith, c.loop-place-test.true) in
    let y = changed_calm x c.narrowed.result in
    let long = set-length held place y in
    let kept = subst (λ (z : StructureMark). IsKept z.mark c.args.from c.args.touched) (c.index.ensures ∙ (get-same held place first x within ∙ sym c.index_mut.ensures.value)) (c.is_kept.ensures c.if-is_kept.true) in
    let calm : c.narrowed.result ≡ narrowed_to x.mark.calm c.args.touched =
    c.narrowed.ensures ∙ ap (λ (z : StructureMark). narrowed_to z.mark.calm c.args.touched) (c.index-then-is_kept.ensures ∙ (get-same held place second x within ∙ sym c.index_mut.ensures.value)) in
    record {
      within = omega (arith, within, long);
      done = λ g later stands same unsure.
          kept-done c.args.from c.args.touched g later held place c.narrowed.result x within c.index_mut.ensures.value kept calm same unsure
          (c.loop-place.invariant.done g later stands same unsure) (c.loop-place.invariant.ahead g later stands same unsure);
      ahead = λ g later stands same unsure. kept-ahead g held place y (c.loop-place.invariant.ahead g later stands same unsure);
    }

pub loop-place-preserved-else-is_kept : goal.loop-place-preserved-else-is_kept
loop-place-preserved-else-is_kept c =
    let held = c.loop-place.held.items in
    let left = c.remove.new.self.items in
    let place = c.loop-place.place in
    let within : place < length held = omega (arith, c.loop-place-test.true) in
    let long = left-length held left place within c.remove.ensures.items in
    record {
      within = omega (arith, within, long);
      done = λ g later stands same unsure. left-done later held left place c.remove.ensures.items (c.loop-place.invariant.done g later stands same unsure);
      ahead = λ g later stands same unsure. left-ahead g held left place c.remove.ensures.items (c.loop-place.invariant.ahead g later stands same unsure);
    }

pub loop-place-preserved : goal.loop-place-preserved
loop-place-preserved c =
    let held = c.loop-place.held.items in
    let left = c.remove.new.self.items in
    let place = c.loop-place.place in
    let within : place < length held = omega (arith, c.loop-place-test.true) in
    let long = left-length held left place within c.remove.ensures.items in
    record {
      within = omega (arith, within, long);
      done = λ g later stands same unsure. left-done later held left place c.remove.ensures.items (c.loop-place.invariant.done g later stands same unsure);
      ahead = λ g later stands same unsure. left-ahead g held left place c.remove.ensures.items (c.loop-place.invariant.ahead g later stands same unsure);
    }

pub returns-then-is_nothing : goal.returns-then-is_nothing
returns-then-is_nothing c =
    λ g later stands same unsure.
    let none = c.is_nothing.ensures c.if-is_nothing.true in
    stands-same c.args.from c.args.touched g later c.args.held.now.items none.0 none.1 same unsure stands

pub returns : goal.returns
returns c =
    λ g later stands same unsure.
    record {
      marks = all-taken (IsMarked later) c.loop-place.held.items c.loop-place.place (omega (arith, c.loop-place-test.false)) (c.loop-place.invariant.done g later stands same unsure);
    }
