use Rattle.std.proofs.Common.{◌≡◌, ◌<◌, ◌+◌, ◌-◌, ◌*◌, ◌∷◌, ◌++◌, ℕ, List, length, arith, ap, sym, subst, ◌∙◌}
use Rattle.std.proofs.lemmas.Result.{err_from_is_err_and}
use Rattle.hk_base.specs.Payload.{Group, repetitions, bits_of, ids_octets}
use Rattle.sample_slots.specs.Reading.{groups_after, Fails}
use Rattle.sample_slots.proofs.ReadingLemmas.{repetitions-more}
use Rattle.sample_slots.proofs.payload.read_array.Goals as goal

-- the groups that are left, the next one with the parameters that the code has
unrolled : (ids found : List ℕ) (spacing r i : ℕ) → i < r → found ≡ ids → repetitions ids spacing (r - i) ≡ record { lag = (r - (i + 1)) * spacing; params = found } ∷ repetitions ids spacing (r - (i + 1))
unrolled ids found spacing r i h same =
    repetitions-more ids spacing r i h ∙ ap (λ (xs : List ℕ). record { lag = (r - (i + 1)) * spacing; params = xs } ∷ repetitions ids spacing (r - (i + 1))) (sym same)

pub returns-in_err-rest-clause-values : goal.returns-in_err-rest-clause-values
returns-in_err-rest-clause-values c =
    let t = c.args.tailoring.now in
    let e = c.in_err-rest.field-0.0 in
    let ids = c.args.array.now.params in
    let r = c.args.array.now.repetition in
    let i = c.loop-repetition.repetition in
    let p = err_from_is_err_and c.from_residual.result c.from_residual.ensures.1 in
    rw (p.1, p.2)
    (λ spacing more.
    subst (λ read. Fails e read)
    (sym (c.loop-repetition.invariant.goes spacing more ∙ ap (λ (gs : List Group). groups_after t c.loop-repetition.values.items (c.args.first + i) (gs ++ more) (bits_of c.loop-repetition.rest.now)) (unrolled ids c.as_slice.result.now spacing r i c.loop-repetition-test.true c.as_slice.ensures)))
    (c.in_err-rest.ensures.values ((r - (i + 1)) * spacing) (repetitions ids spacing (r - (i + 1)) ++ more)))

pub loop-repetition-preserved : goal.loop-repetition-preserved
loop-repetition-preserved c =
    let t = c.args.tailoring.now in
    let ids = c.args.array.now.params in
    let r = c.args.array.now.repetition in
    let i = c.loop-repetition.repetition in
    let new = c.read_group.new.values.items in
    let rest = bits_of c.in_ok-rest.rest.now in
    let same = c.as_slice.ensures in
    let octets = ids_octets t.params ids in
    let left = ap (λ (xs : List ℕ). ids_octets t.params xs) same in
    let count = ap (λ (xs : List ℕ). length xs) same in
    record {
      goes = λ spacing more. c.loop-repetition.invariant.goes spacing more
          ∙ (ap (λ (gs : List Group). groups_after t c.loop-repetition.values.items (c.args.first + i) (gs ++ more) (bits_of c.loop-repetition.rest.now)) (unrolled ids c.as_slice.result.now spacing r i c.loop-repetition-test.true same)
          ∙ (c.in_ok-rest.ensures.values ((r - (i + 1)) * spacing) (repetitions ids spacing (r - (i + 1)) ++ more)
          ∙ ap (λ (n : ℕ). groups_after t new n (repetitions ids spacing (r - (i + 1)) ++ more) rest) (omega arith)));
      left = omega (arith, c.loop-repetition.invariant.left, c.in_ok-rest.ensures.left, left);
      count = omega (arith, c.loop-repetition.invariant.count, c.in_ok-rest.ensures.count, count);
    }
