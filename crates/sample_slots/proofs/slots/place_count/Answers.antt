use Rattle.std.proofs.Common.{◌≡◌, ◌<◌, ◌++◌, List, length, take, get_or, arith, ap, subst, sym, ◌∙◌}
use Rattle.std.specs.List.{flat_map}
use Rattle.std.proofs.lemmas.List.{take_all}
use Rattle.hk_base.specs.declared.types.SuperList.{SuperList}
use Rattle.hk_base.specs.declared.types.Place.{Place}
use Rattle.sample_slots.proofs.Places.{length-more, length-array_places, places_are}
use Rattle.sample_slots.specs.Slots.{array_places, slot_places}
use Rattle.sample_slots.proofs.slots.place_count.Goals as goal

pub loop-array-preserved : goal.loop-array-preserved
loop-array-preserved c =
    let i = c.loop-array.array-index in
    let item = c.array-item.result in
    let n = c.args.def.now.interval in
    let same = c.as_slice-array-items.ensures in
    let below : i < length c.args.def.now.arrays = subst (λ (xs : List SuperList). i < length xs) same c.loop-array-test.true in
    let is = c.array-item.is ∙ ap (λ (xs : List SuperList). get_or xs i item) same in
    record {
      sum = λ last. omega (arith, c.loop-array.invariant.sum last, length-more (array_places last n) (slot_places last c.args.def.now.simple) c.args.def.now.arrays i item below is, length-array_places last n item, c.sample_count-count.ensures.count);
      small = omega (arith, c.loop-array.invariant.small, c.sample_count-count.ensures.most);
    }

pub returns : goal.returns
returns c = λ last.
    let arrays = c.args.def.now.arrays in
    let size = ap (λ (xs : List SuperList). length xs) c.as_slice-array-items.ensures in
    let all : take c.loop-array.array-index arrays ≡ arrays = take_all c.loop-array.array-index arrays (omega (arith, size, c.loop-array-test.false)) in
    c.loop-array.invariant.sum last
    ∙ (ap (λ (xs : List SuperList). length (slot_places last c.args.def.now.simple ++ flat_map (array_places last c.args.def.now.interval) xs)) all
    ∙ ap (λ (ps : List Place). length ps) (sym (places_are c.args.def.now last)))
