use Rattle.std.proofs.Common.{◌≡◌, ◌+◌, ◌/◌, [], List, drop, flat_map, ap, subst}
use Rattle.std.proofs.lemmas.List.{drop_all}
use Rattle.hk_base.specs.Payload.{Group}
use Rattle.hk_base.specs.declared.types.SuperList.{SuperList}
use Rattle.sample_slots.specs.Reading.{array_groups}
use Rattle.sample_slots.specs.Writing.{GroupsFit}
use Rattle.sample_slots.proofs.PackingLemmas.{keeps-on}
use Rattle.sample_slots.proofs.Places.{opened}
use Rattle.sample_slots.proofs.WritingLemmas.{writes-fit, writes-more, writes-end, writes-all}
use Rattle.sample_slots.proofs.writing.write_arrays.Goals as goal

pub write_array-requires : goal.write_array-requires
write_array-requires c =
    let t = c.args.tailoring.now in
    let arrays = c.args.arrays.now in
    let i = c.loop-array.array-index in
    let a = c.array-item.result in
    let rest = c.loop-array.rest.now in
    let interval = c.requires.fit.0 in
    let left = writes-fit t (flat_map (array_groups interval) arrays) (flat_map (array_groups interval) (drop i arrays)) c.args.out.now.items c.loop-array.out.items c.args.values.now rest (c.loop-array.invariant.writes interval) c.requires.fit.1 in
    record {
      fit = (interval / a.repetition, flat_map (array_groups interval) (drop (i + 1) arrays), subst (λ (gs : List Group). GroupsFit t gs rest) (opened (array_groups interval) arrays i a c.loop-array-test.true c.array-item.is) left);
    }

pub loop-array-preserved : goal.loop-array-preserved
loop-array-preserved c =
    let arrays = c.args.arrays.now in
    let i = c.loop-array.array-index in
    let a = c.array-item.result in
    record {
      writes = λ interval. writes-more c.args.tailoring.now (flat_map (array_groups interval) arrays) (flat_map (array_groups interval) (drop i arrays)) (array_groups interval a) (flat_map (array_groups interval) (drop (i + 1) arrays)) c.args.out.now.items c.loop-array.out.items c.write_array.new.out.items c.args.values.now c.loop-array.rest.now c.in_ok-rest.rest.now (c.loop-array.invariant.writes interval)
          (opened (array_groups interval) arrays i a c.loop-array-test.true c.array-item.is)
          (c.in_ok-rest.ensures.bits (interval / a.repetition));
      kept = keeps-on c.args.out.now.items c.loop-array.out.items c.write_array.new.out.items c.loop-array.invariant.kept c.in_ok-rest.ensures.kept;
    }

pub returns-clause-bits : goal.returns-clause-bits
returns-clause-bits c =
    let t = c.args.tailoring.now in
    let arrays = c.args.arrays.now in
    let i = c.loop-array.array-index in
    let old = c.args.out.now.items in
    let new = c.loop-array.out.items in
    let values = c.args.values.now in
    let rest = c.loop-array.rest.now in
    λ interval.
    let all = flat_map (array_groups interval) arrays in
    let none : flat_map (array_groups interval) (drop i arrays) ≡ [] = ap (λ (xs : List SuperList). flat_map (array_groups interval) xs) (drop_all i arrays c.loop-array-test.false) in
    writes-all t all old new values rest (writes-end t all (flat_map (array_groups interval) (drop i arrays)) old new values rest none (c.loop-array.invariant.writes interval))
