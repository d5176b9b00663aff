use Rattle.std.proofs.Common.{sym, map, arith, ◌^◌, ◌-◌, ◌≡◌, ◌≤◌, ◌∙◌, pos, ◌≤ℤ◌, ◌<ℤ◌, rules, FitsSigned, to_z, of_z}
use Rattle.std.specs.Int.{w128}
use Rattle.std.proofs.lemmas.Int.{to_z-of_z}
use Rattle.toml.specs.View.{view}
use Rattle.std.specs.Prelude.{filter_map}
use Rattle.hk_tailoring.specs.Keys.{section_of, natural_of, members_checks}
use Rattle.hk_tailoring.proofs.CheckLemmas.{answers-exit}
use Rattle.hk_tailoring.proofs.ListLemmas.{members-stopped, members-passed, values-more, AllByRecursion-push, small-value}
use Rattle.hk_tailoring.proofs.section.Section.value_members.Goals as goal

pub returns-in_err-number-clause-values : goal.returns-in_err-number-clause-values
returns-in_err-number-clause-values c =
    let s = section_of c.args.self.now in
    let key = c.args.key.now in
    let vs = c.args.values.now in
    let v = c.index-values-n.result in
    let fault = c.in_err-number.field-0.0 in
    let greatest = 2 ^ c.args.bits - 1 in
    answers-exit (λ numbers. numbers.items) (members_checks s key greatest 0 (map view vs)) (map pos (filter_map natural_of (map view vs))) c.from_residual.result fault
    c.from_residual.ensures.1
    (λ not_memory.
    members-stopped s key greatest c.loop-n.n vs v fault c.loop-n.invariant.checks c.index-values-n.is c.loop-n-test.true
    (rw c.greatest_in-greatest.ensures at (c.in_err-number.ensures.number not_memory)))

pub loop-n-preserved : goal.loop-n-preserved
loop-n-preserved c =
    let s = section_of c.args.self.now in
    let vs = c.args.values.now in
    let n = c.loop-n.n in
    let v = c.index-values-n.result in
    let number = c.in_ok-number.number in
    let within = c.loop-n-test.true in
    let said = c.in_ok-number.ensures in
    let greatest = c.greatest_in-greatest.ensures in
    let fits : FitsSigned w128 c.from.result = search rules in
    let same : to_z w128 (of_z w128 c.from.result) ≡ pos number = to_z-of_z w128 c.from.result fits ∙ c.from.ensures in
    let small : number ≤ 2 ^ c.args.bits - 1 = omega (arith, said.within, greatest) in
    record {
      greatest = greatest;
      checks = members-passed s c.args.key.now (2 ^ c.args.bits - 1) n vs v c.loop-n.invariant.checks c.index-values-n.is within (rw greatest at said.number.0);
      numbers =
          rw c.in_ok-push.ensures.items
          (values-more c.loop-n.numbers.items n vs v number _ c.loop-n.invariant.numbers c.index-values-n.is within (sym said.number.1) same);
      count = omega (arith, c.in_ok-push.ensures.len);
      small =
          rw c.in_ok-push.ensures.items
          (AllByRecursion-push (λ z. (pos 0 ≤ℤ z) × (z <ℤ pos (2 ^ c.args.bits))) c.loop-n.numbers.items _ c.loop-n.invariant.small
          (small-value c.args.bits number _ same small));
    }
