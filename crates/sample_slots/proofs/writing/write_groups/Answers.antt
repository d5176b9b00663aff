use Rattle.std.proofs.Common.{◌≡◌, ◌++◌, ℕ, List, flat_map, ap, sym, subst, ◌∙◌}
use Rattle.hk_base.specs.Payload.{groups, bits_of, payload_bits}
use Rattle.hk_base.specs.declared.types.SuperList.{SuperList}
use Rattle.sample_slots.specs.Reading.{array_groups}
use Rattle.sample_slots.specs.Writing.{GroupsFit}
use Rattle.sample_slots.proofs.WritingLemmas.{groups-fit, simple-fit, writes-simple, on-ok}
use Rattle.sample_slots.proofs.writing.write_groups.Goals as goal

pub write_group-requires : goal.write_group-requires
write_group-requires c =
    let t = c.args.tailoring.now in
    let d = c.args.def.now in
    record {
      fit = simple-fit t d.simple c.as_slice.result.now (flat_map (array_groups d.interval) d.arrays) c.args.values.now c.as_slice.ensures (groups-fit t d.interval (groups d) c.args.values.now c.requires.fit);
    }

pub write_arrays-requires : goal.write_arrays-requires
write_arrays-requires c =
    let t = c.args.tailoring.now in
    let d = c.args.def.now in
    let rest = c.in_ok-rest.rest.now in
    let simple = writes-simple t d.simple c.as_slice.result.now c.args.out.now.items c.write_group.new.out.items c.args.values.now rest c.as_slice.ensures (c.in_ok-rest.ensures.bits 0) in
    let fit = simple.fit (flat_map (array_groups d.interval) d.arrays) (groups-fit t d.interval (groups d) c.args.values.now c.requires.fit) in
    record {
      fit = (d.interval, subst (λ (xs : List SuperList). GroupsFit t (flat_map (array_groups d.interval) xs) rest) (sym c.as_slice-2.ensures) fit);
    }

pub returns-clause-bits : goal.returns-clause-bits
returns-clause-bits c =
    let t = c.args.tailoring.now in
    let d = c.args.def.now in
    let rest = c.in_ok-rest.rest.now in
    let old = c.args.out.now.items in
    let mid = c.write_group.new.out.items in
    let new = c.write_arrays.new.out.items in
    let arrays = c.as_slice-2.result.now in
    let simple = writes-simple t d.simple c.as_slice.result.now old mid c.args.values.now rest c.as_slice.ensures (c.in_ok-rest.ensures.bits 0) in
    on-ok ((interval : ℕ) → bits_of new ≡ bits_of mid ++ payload_bits t (flat_map (array_groups interval) arrays) rest) (bits_of new ≡ bits_of old ++ payload_bits t (groups d) c.args.values.now) c.write_arrays.result
    (λ all.
    all d.interval
    ∙ (ap (λ (xs : List SuperList). bits_of mid ++ payload_bits t (flat_map (array_groups d.interval) xs) rest) c.as_slice-2.ensures ∙ simple.bits (flat_map (array_groups d.interval) d.arrays)))
    c.write_arrays.ensures.bits
