use Rattle.std.proofs.Common.{◌≡◌, ◌+◌, ◌++◌, ℕ, ℤ, List, FitsSigned, drop, get_or, filter_map, rules, ap, sym, ◌∙◌}
use Rattle.std.specs.Int.{w128}
use Rattle.std.proofs.lemmas.Int.{to_z-of_z}
use Rattle.hk_base.specs.Parameters.{parameter, fits, value_bits}
use Rattle.hk_base.specs.Payload.{bits_of, values_bits}
use Rattle.sample_slots.specs.Writing.{written}
use Rattle.sample_slots.proofs.PackingLemmas.{keeps-on}
use Rattle.sample_slots.proofs.WritingLemmas.{fit-param, fit-more, fit-some, values-more, value-written}
use Rattle.sample_slots.proofs.writing.write_values.Goals as goal

pub unreachable-requires : goal.unreachable-requires
unreachable-requires c = fit-some c.args.tailoring.now c.args.ids.now c.loop-id.id-index c.loop-id.rest.now c.loop-id-test.true c.in_default.ensures.cases c.loop-id.invariant.fit

pub write_value-requires-clause-fits : goal.write_value-requires-clause-fits
write_value-requires-clause-fits c =
    let t = c.args.tailoring.now in
    let ids = c.args.ids.now in
    let i = c.loop-id.id-index in
    let v = c.in-Some.value.now in
    let p = c.known_param.result.now in
    let signed : FitsSigned w128 v = search rules in
    ap (λ (z : ℤ). fits p z) (to_z-of_z w128 v signed)
    ∙ fit-param (parameter t (get_or ids i 0)) p v c.known_param.ensures.param (fit-more t ids i c.loop-id.rest.now v c.in-Some.after.now c.loop-id-test.true c.in-Some.ensures.cases.0 c.loop-id.invariant.fit).0

pub returns-in_err-pending-clause-kept : goal.returns-in_err-pending-clause-kept
returns-in_err-pending-clause-kept c = keeps-on c.args.out.now.items c.loop-id.out.items c.write_value.new.out.items c.loop-id.invariant.kept c.in_err-pending.ensures.kept

pub loop-id-preserved : goal.loop-id-preserved
loop-id-preserved c =
    let t = c.args.tailoring.now in
    let ids = c.args.ids.now in
    let i = c.loop-id.id-index in
    let rest = c.loop-id.rest.now in
    let v = c.in-Some.value.now in
    let vs = c.in-Some.after.now in
    let p = c.known_param.result.now in
    let mid = written c.loop-id.out.items c.loop-id.pending in
    let later = values_bits (filter_map (parameter t) (drop (i + 1) ids)) vs in
    let split = c.in-Some.ensures.cases.0 in
    let signed : FitsSigned w128 v = search rules in
    let one : written c.write_value.new.out.items c.in_ok-pending.pending ≡ mid ++ value_bits p v = c.in_ok-pending.ensures.bits ∙ ap (λ (z : ℤ). mid ++ value_bits p z) (to_z-of_z w128 v signed) in
    let whole = ap (λ (xs : List ℕ). mid ++ xs) (sym (values-more t ids i p rest v vs c.loop-id-test.true c.known_param.ensures.param split)) ∙ c.loop-id.invariant.bits in
    record {
      bits = value-written (bits_of c.args.out.now.items ++ values_bits (filter_map (parameter t) ids) c.args.values.now) mid (written c.write_value.new.out.items c.in_ok-pending.pending) (value_bits p v) later one whole;
      fit = (fit-more t ids i rest v vs c.loop-id-test.true split c.loop-id.invariant.fit).1;
      pending = c.in_ok-pending.ensures.pending;
      kept = keeps-on c.args.out.now.items c.loop-id.out.items c.write_value.new.out.items c.loop-id.invariant.kept c.in_ok-pending.ensures.kept;
    }
