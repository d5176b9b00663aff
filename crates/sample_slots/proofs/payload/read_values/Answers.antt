use Rattle.std.proofs.Common.{◌≡◌, ◌+◌, ◌++◌, ◌∷◌, [], ℕ, ℤ, List, FitsSigned, length, drop, rules, arith, ap, sym, ◌∙◌}
use Rattle.std.specs.Int.{w128}
use Rattle.std.proofs.lemmas.Int.{to_z-of_z}
use Rattle.std.proofs.lemmas.List.{drop_all, length_push}
use Rattle.std.proofs.lemmas.Result.{err_from_is_err_and}
use Rattle.hk_base.specs.Payload.{bits_of}
use Rattle.sample_slots.specs.Reading.{values_after}
use Rattle.sample_slots.proofs.BitsLemmas.{drop-sum}
use Rattle.sample_slots.proofs.ReadingLemmas.{read-more, read-fails, read-end, bits-more, fails-so}
use Rattle.sample_slots.proofs.payload.read_values.Goals as goal

pub read_fitting-requires-clause-within : goal.read_fitting-requires-clause-within
read_fitting-requires-clause-within c =
    omega (arith, c.loop-id.invariant.left, bits-more c.args.tailoring.now c.args.ids.now c.loop-id.id-index c.known_param-param.result.now c.loop-id-test.true c.known_param-param.ensures.param)

pub loop-id-preserved : goal.loop-id-preserved
loop-id-preserved c =
    let t = c.args.tailoring.now in
    let ids = c.args.ids.now in
    let i = c.loop-id.id-index in
    let param = c.known_param-param.result.now in
    let bits = bits_of c.args.bytes.now in
    let fits : FitsSigned w128 c.in_ok-value.value = search rules in
    let next : c.push.new.values.items ≡ c.loop-id.values.items ++ c.in_ok-value.value ∷ [] = c.in_ok-push.ensures.ok ∙ ap (λ (z : ℤ). c.loop-id.values.items ++ z ∷ []) (to_z-of_z w128 c.in_ok-value.value fits) in
    record {
      goes = c.loop-id.invariant.goes
          ∙ (read-more t c.loop-id.values.items ids (drop c.loop-id.position bits) i param c.len.result c.in_ok-value.value c.loop-id-test.true c.known_param-param.ensures.param (sym c.in_ok-value.ensures)
          ∙ (ap (λ (vs : List ℤ). values_after t vs (drop (i + 1) ids) (drop param.bits (drop c.loop-id.position bits))) (sym next)
          ∙ ap (λ (xs : List ℕ). values_after t c.push.new.values.items (drop (i + 1) ids) xs) (sym (drop-sum c.loop-id.position param.bits (c.loop-id.position + c.from-position.result) bits (omega (arith, c.from-position.ensures))))));
      left = omega (arith, c.loop-id.invariant.left, c.from-position.ensures, bits-more t ids i param c.loop-id-test.true c.known_param-param.ensures.param);
      small = omega (arith, c.loop-id.invariant.small, c.from-position.ensures, c.known_param-param.ensures.shape.bits.1);
      count = omega (arith, c.loop-id.invariant.count, ap (λ (vs : List ℤ). length vs) next, length_push c.loop-id.values.items c.in_ok-value.value);
    }

pub returns-in_err-value-clause-values : goal.returns-in_err-value-clause-values
returns-in_err-value-clause-values c =
    let t = c.args.tailoring.now in
    let e = c.in_err-value.field-0.0 in
    let p = err_from_is_err_and c.from_residual.result c.from_residual.ensures.1 in
    let count : c.len.result ≡ length c.loop-id.values.items = search rules in
    rw (p.1, p.2)
    (fails-so e (values_after t c.args.values.now.items c.args.ids.now (bits_of c.args.bytes.now))
    (c.loop-id.invariant.goes
    ∙ read-fails t c.loop-id.values.items c.args.ids.now (drop c.loop-id.position (bits_of c.args.bytes.now)) c.loop-id.id-index c.known_param-param.result.now c.len.result e c.loop-id-test.true c.known_param-param.ensures.param count (sym c.in_err-value.ensures)))

pub returns-clause-values : goal.returns-clause-values
returns-clause-values c =
    c.loop-id.invariant.goes
    ∙ read-end c.args.tailoring.now c.loop-id.values.items (drop c.loop-id.id-index c.args.ids.now) (drop c.loop-id.position (bits_of c.args.bytes.now)) (drop_all c.loop-id.id-index c.args.ids.now c.loop-id-test.false)
