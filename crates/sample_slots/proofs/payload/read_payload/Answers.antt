use Rattle.std.proofs.Common.{◌≡◌, ◌++◌, ℕ, ℤ, List, [], length, sum_by, flat_map, arith, ap, sym, subst, ◌∙◌, Ok, Result}
use Rattle.std.specs.List.{All}
use Rattle.std.proofs.lemmas.Bool.{eq-eqb}
use Rattle.std.proofs.lemmas.Result.{err_from_is_err_and}
use Rattle.hk_base.specs.TailoringParts.{TailoringParts}
use Rattle.hk_base.specs.Payload.{Group, simple_group, bits_of, ids_octets, payload_size, payload_read}
use Rattle.hk_base.specs.declared.types.SuperList.{SuperList}
use Rattle.hk_base.specs.declared.types.Definition.{Definition}
use Rattle.hk_base.specs.declared.types.PayloadFault.{PayloadFault}
use Rattle.sample_slots.specs.Reading.{IsReadableArray, array_groups, array_octets, simple_count, groups_after, Fails}
use Rattle.sample_slots.proofs.CountLemmas.{read-count}
use Rattle.sample_slots.proofs.ReadingLemmas.{payload-groups, size-parts}
use Rattle.sample_slots.proofs.Sampled.{readable}
use Rattle.sample_slots.proofs.payload.read_payload.Goals as goal

-- what is left to read after the simple parameters
arrays_left : (t : TailoringParts) (d : Definition) (octets simple : List ℕ) (arrays : List SuperList) (first : ℕ) (values : List ℤ) (rest : List ℕ) → payload_size t d ≡ length octets → simple ≡ d.simple → arrays ≡ d.arrays → first ≡ simple_count simple
    → ((more : List Group) → groups_after t [] 0 (simple_group simple ++ more) (bits_of octets) ≡ groups_after t values (simple_count simple) more (bits_of rest))
    → payload_read t d octets ≡ groups_after t values first (flat_map (array_groups d.interval) arrays) (bits_of rest)
arrays_left t d octets simple arrays first values rest size is all count goes =
    payload-groups t d octets (eq-eqb (payload_size t d) (length octets) size)
    ∙ (ap (λ xs. groups_after t [] 0 (simple_group xs ++ flat_map (array_groups d.interval) d.arrays) (bits_of octets)) (sym is)
    ∙ (goes (flat_map (array_groups d.interval) d.arrays)
    ∙ (ap (λ n. groups_after t values n (flat_map (array_groups d.interval) d.arrays) (bits_of rest)) (sym count)
    ∙ ap (λ xs. groups_after t values first (flat_map (array_groups d.interval) xs) (bits_of rest)) (sym all))))

pub read_arrays-requires-clause-readable : goal.read_arrays-requires-clause-readable
read_arrays-requires-clause-readable c =
    subst (λ xs. All (IsReadableArray c.args.tailoring.now) xs) (sym c.as_slice.ensures) (readable c.args.tailoring.now c.args.def.now c.size-expected.ensures.sampled c.requires.formed)

pub read_arrays-requires-clause-whole : goal.read_arrays-requires-clause-whole
read_arrays-requires-clause-whole c =
    let t = c.args.tailoring.now in
    let simple = ap (λ (xs : List ℕ). ids_octets t.params xs) c.as_slice-simple.ensures in
    let arrays = ap (λ xs. sum_by (array_octets t) xs) c.as_slice.ensures in
    omega (arith, simple, arrays, c.in_ok-rest.ensures.left, size-parts t c.args.def.now, c.size-expected.ensures.size, c.if-found-expected.false)

pub returns-in_err-rest-clause-values : goal.returns-in_err-rest-clause-values
returns-in_err-rest-clause-values c =
    let t = c.args.tailoring.now in
    let d = c.args.def.now in
    let octets = c.args.bytes.now in
    let e = c.in_err-rest.field-0.0 in
    let more = flat_map (array_groups d.interval) d.arrays in
    let size : payload_size t d ≡ length octets = omega (arith, c.size-expected.ensures.size, c.if-found-expected.false) in
    let p = err_from_is_err_and c.from_residual.result c.from_residual.ensures.1 in
    rw (p.1, p.2)
    (subst (λ (read : Result (List ℤ) PayloadFault). Fails e read)
    (sym (payload-groups t d octets (eq-eqb (payload_size t d) (length octets) size) ∙ ap (λ (xs : List ℕ). groups_after t [] 0 (simple_group xs ++ more) (bits_of octets)) (sym c.as_slice-simple.ensures)))
    (c.in_err-rest.ensures.values more))

pub returns-in_err-read_arrays-clause-values : goal.returns-in_err-read_arrays-clause-values
returns-in_err-read_arrays-clause-values c =
    let t = c.args.tailoring.now in
    let d = c.args.def.now in
    let octets = c.args.bytes.now in
    let e = c.in_err-read_arrays.field-0.0 in
    let simple = c.as_slice-simple.result.now in
    let size : payload_size t d ≡ length octets = omega (arith, c.size-expected.ensures.size, c.if-found-expected.false) in
    let p = err_from_is_err_and c.from_residual-in_err-read_arrays.result c.from_residual-in_err-read_arrays.ensures.1 in
    rw (p.1, p.2)
    (subst (λ (read : Result (List ℤ) PayloadFault). Fails e read)
    (sym (arrays_left t d octets simple c.as_slice.result.now c.simple_groups-first.result c.read_simple.new.values.items c.in_ok-rest.rest.now size c.as_slice-simple.ensures c.as_slice.ensures c.simple_groups-first.ensures c.in_ok-rest.ensures.values))
    (c.in_err-read_arrays.ensures d.interval))

-- what was read, as a payload is read
read_all : (c : goal.After-from_vec) → payload_read c.args.tailoring.now c.args.def.now c.args.bytes.now ≡ Ok c.from_vec.result
read_all c =
    let t = c.args.tailoring.now in
    let d = c.args.def.now in
    let octets = c.args.bytes.now in
    let simple = c.as_slice-simple.result.now in
    let size : payload_size t d ≡ length octets = omega (arith, c.size-expected.ensures.size, c.if-found-expected.false) in
    arrays_left t d octets simple c.as_slice.result.now c.simple_groups-first.result c.read_simple.new.values.items c.in_ok-rest.rest.now size c.as_slice-simple.ensures c.as_slice.ensures c.simple_groups-first.ensures c.in_ok-rest.ensures.values
    ∙ (c.in_ok-read_arrays.ensures d.interval ∙ ap Ok (sym c.from_vec.ensures))

pub returns-clause-values : goal.returns-clause-values
returns-clause-values c = read_all c

pub returns-clause-count : goal.returns-clause-count
returns-clause-count c = λ last. read-count c.args.tailoring.now c.args.def.now c.args.bytes.now c.from_vec.result last c.requires.formed (read_all c)
