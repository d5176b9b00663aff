use Rattle.std.proofs.Common.{◌<◌, ◌-◌, ℕ, List, length, get_or, arith, ap, subst, sym, ◌∙◌}
use Rattle.hk_base.specs.declared.types.SuperList.{SuperList}
use Rattle.sample_slots.proofs.Places.{in_arrays, in_first, in_later, length-array_places}
use Rattle.sample_slots.specs.Slots.{array_places}
use Rattle.sample_slots.proofs.slots.place.Goals as goal

pub loop-array-init : goal.loop-array-init
loop-array-init c =
    let count = ap (λ (xs : List ℕ). length xs) c.as_slice-simple.ensures in
    sym (in_arrays c.args.def.now c.args.last c.args.number (c.args.number - length c.as_slice-simple.result.now) (omega (arith, count)))

pub returns-then-left-count : goal.returns-then-left-count
returns-then-left-count c =
    let i = c.loop-array.array-index in
    let item = c.array-item.result in
    let n = c.args.def.now.interval in
    let same = c.as_slice-array-items.ensures in
    let below : i < length c.args.def.now.arrays = subst (λ (xs : List SuperList). i < length xs) same c.loop-array-test.true in
    let is = c.array-item.is ∙ ap (λ (xs : List SuperList). get_or xs i item) same in
    sym c.array_place.ensures
    ∙ (sym (in_first (array_places c.args.last n) c.args.def.now.arrays i item c.loop-array.left below is (omega (arith, length-array_places c.args.last n item, c.sample_count-count.ensures.count)))
    ∙ c.loop-array.invariant)

pub loop-array-preserved : goal.loop-array-preserved
loop-array-preserved c =
    let i = c.loop-array.array-index in
    let item = c.array-item.result in
    let n = c.args.def.now.interval in
    let same = c.as_slice-array-items.ensures in
    let below : i < length c.args.def.now.arrays = subst (λ (xs : List SuperList). i < length xs) same c.loop-array-test.true in
    let is = c.array-item.is ∙ ap (λ (xs : List SuperList). get_or xs i item) same in
    sym (in_later (array_places c.args.last n) c.args.def.now.arrays i item c.loop-array.left (c.loop-array.left - c.sample_count-count.result) below is (omega (arith, length-array_places c.args.last n item, c.sample_count-count.ensures.count)))
    ∙ c.loop-array.invariant
