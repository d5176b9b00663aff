use Rattle.std.proofs.Common.{◌≤◌, ◌+◌, ◌*◌, ◌/◌, ℕ, List, length, drop, flat_map, arith, ap, sym, subst, ◌∙◌}
use Rattle.std.proofs.lemmas.List.{drop_all}
use Rattle.std.proofs.lemmas.Result.{err_from_is_err_and}
use Rattle.hk_base.specs.Payload.{Group, bits_of}
use Rattle.sample_slots.specs.Reading.{IsReadableArray, array_groups, groups_after, Fails}
use Rattle.sample_slots.proofs.Places.{opened}
use Rattle.sample_slots.proofs.ReadingLemmas.{sum-more, groups-end}
use Rattle.sample_slots.proofs.payload.read_arrays.Goals as goal

pub read_array-requires-clause-within : goal.read_array-requires-clause-within
read_array-requires-clause-within c =
    omega (arith, c.loop-array.invariant.whole, sum-more c.args.tailoring.now c.args.arrays.now c.loop-array.array-index c.array-item.result c.loop-array-test.true c.array-item.is)

small : (r n : ℕ) → r ≤ 4096 → n ≤ 255 → r * n ≤ 1044480
small r n few members = grind (arith, few, members)

pub loop-array-preserved : goal.loop-array-preserved
loop-array-preserved c =
    let t = c.args.tailoring.now in
    let arrays = c.args.arrays.now in
    let i = c.loop-array.array-index in
    let a = c.array-item.result in
    let readable = subst (λ x. IsReadableArray t x) (sym c.array-item.is) (c.requires.readable i a c.loop-array-test.true) in
    record {
      goes = λ interval. c.loop-array.invariant.goes interval
          ∙ (ap (λ (gs : List Group). groups_after t c.loop-array.values.items c.loop-array.group gs (bits_of c.loop-array.rest.now)) (opened (array_groups interval) arrays i a c.loop-array-test.true c.array-item.is)
          ∙ c.in_ok-rest.ensures.values (interval / a.repetition) (flat_map (array_groups interval) (drop (i + 1) arrays)));
      whole = omega (arith, c.loop-array.invariant.whole, c.in_ok-rest.ensures.left, sum-more t arrays i a c.loop-array-test.true c.array-item.is);
      groups = omega (arith, c.loop-array.invariant.groups, readable.repeated);
      count = omega (arith, c.loop-array.invariant.count, c.in_ok-rest.ensures.count, small a.repetition (length a.params) readable.repeated readable.few);
    }

pub returns-in_err-rest : goal.returns-in_err-rest
returns-in_err-rest c =
    let t = c.args.tailoring.now in
    let e = c.in_err-rest.field-0.0 in
    let arrays = c.args.arrays.now in
    let i = c.loop-array.array-index in
    let a = c.array-item.result in
    let p = err_from_is_err_and c.from_residual.result c.from_residual.ensures.1 in
    rw (p.1, p.2)
    (λ interval.
    subst (λ read. Fails e read)
    (sym (c.loop-array.invariant.goes interval ∙ ap (λ (gs : List Group). groups_after t c.loop-array.values.items c.loop-array.group gs (bits_of c.loop-array.rest.now)) (opened (array_groups interval) arrays i a c.loop-array-test.true c.array-item.is)))
    (c.in_err-rest.ensures.values (interval / a.repetition) (flat_map (array_groups interval) (drop (i + 1) arrays))))

pub returns : goal.returns
returns c = λ interval.
    c.loop-array.invariant.goes interval
    ∙ groups-end c.args.tailoring.now c.loop-array.values.items c.loop-array.group interval (drop c.loop-array.array-index c.args.arrays.now) (bits_of c.loop-array.rest.now) (drop_all c.loop-array.array-index c.args.arrays.now c.loop-array-test.false)
