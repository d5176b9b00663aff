use Rattle.std.proofs.Common.{◌≡◌, ◌+◌, ◌-◌, ◌*◌, ◌<◌, ◌∷◌, [], ℕ, List, arith, ap, sym, ◌∙◌}
use Rattle.hk_base.specs.Payload.{repetitions}
use Rattle.sample_slots.proofs.PackingLemmas.{keeps-on}
use Rattle.sample_slots.proofs.ReadingLemmas.{repetitions-more}
use Rattle.sample_slots.proofs.WritingLemmas.{repetition-fit, writes-more, writes-end}
use Rattle.sample_slots.proofs.writing.write_array.Goals as goal

-- the groups that are left, the next one with the parameters that the code has
unrolled : (ids found : List ℕ) (spacing r i : ℕ) → i < r → found ≡ ids → repetitions ids spacing (r - i) ≡ record { lag = (r - (i + 1)) * spacing; params = found } ∷ repetitions ids spacing (r - (i + 1))
unrolled ids found spacing r i h same =
    repetitions-more ids spacing r i h ∙ ap (λ (xs : List ℕ). record { lag = (r - (i + 1)) * spacing; params = xs } ∷ repetitions ids spacing (r - (i + 1))) (sym same)

pub write_group-requires : goal.write_group-requires
write_group-requires c =
    let fit = c.requires.fit in
    record {
      fit = repetition-fit c.args.tailoring.now c.args.array.now.params c.as_slice.result.now fit.0 c.args.array.now.repetition c.loop-repetition._repetition fit.1 c.loop-repetition.rest.now c.loop-repetition-test.true c.as_slice.ensures ((c.loop-repetition.invariant.writes fit.0).fit fit.1 fit.2);
    }

pub returns-in_err-rest-clause-kept : goal.returns-in_err-rest-clause-kept
returns-in_err-rest-clause-kept c = keeps-on c.args.out.now.items c.loop-repetition.out.items c.write_group.new.out.items c.loop-repetition.invariant.kept c.in_err-rest.ensures.kept

pub loop-repetition-preserved : goal.loop-repetition-preserved
loop-repetition-preserved c =
    let ids = c.args.array.now.params in
    let found = c.as_slice.result.now in
    let r = c.args.array.now.repetition in
    let i = c.loop-repetition._repetition in
    record {
      writes = λ spacing. writes-more c.args.tailoring.now (repetitions ids spacing r) (repetitions ids spacing (r - i)) (record { lag = (r - (i + 1)) * spacing; params = found } ∷ []) (repetitions ids spacing (r - (i + 1))) c.args.out.now.items c.loop-repetition.out.items c.write_group.new.out.items c.args.values.now c.loop-repetition.rest.now c.in_ok-rest.rest.now
          (c.loop-repetition.invariant.writes spacing)
          (unrolled ids found spacing r i c.loop-repetition-test.true c.as_slice.ensures)
          (c.in_ok-rest.ensures.bits ((r - (i + 1)) * spacing));
      kept = keeps-on c.args.out.now.items c.loop-repetition.out.items c.write_group.new.out.items c.loop-repetition.invariant.kept c.in_ok-rest.ensures.kept;
    }

pub returns-clause-bits : goal.returns-clause-bits
returns-clause-bits c =
    let ids = c.args.array.now.params in
    let r = c.args.array.now.repetition in
    let i = c.loop-repetition._repetition in
    let none : r - i ≡ 0 = omega (arith, c.loop-repetition-test.false) in
    λ spacing. writes-end c.args.tailoring.now (repetitions ids spacing r) (repetitions ids spacing (r - i)) c.args.out.now.items c.loop-repetition.out.items c.args.values.now c.loop-repetition.rest.now (ap (λ (k : ℕ). repetitions ids spacing k) none) (c.loop-repetition.invariant.writes spacing)
