use Rattle.std.proofs.Common.{◌≡◌, ◌*◌, ◌∷◌, [], arith, List, length, sym, subst, ap, ◌∙◌}
use Rattle.std.specs.List.{AllByRecursion}
use Rattle.hk_base.specs.TailoringParts.{TailoringParts}
use Rattle.pus_messages.specs.Spelling.{HasRoom}
use Rattle.ground_history.specs.Histories.{Kept}
use Rattle.ground_history.specs.Ground.{Ground}
use Rattle.decommutator.specs.Standing.{with_verdicts, tally_by}
use Rattle.decommutator.specs.Tallying.{verdicts_on}
use Rattle.decommutator.proofs.TallyLemmas.{none-counted, one-counted, few-left, values-left}
use Rattle.decommutator.proofs.tally.tally_verdicts.Goals as goal

pub loop-kept-init : goal.loop-kept-init
loop-kept-init c =
    let g = c.args.verdicts.now in
    let known = c.history-history.ensures.history in
    let same = c.into_iter-kept-iterator.ensures.into_iter_gives ∙ c.packets-kept-items.ensures ∙ ap (λ (x : Ground). x.history.kept) known in
    let size = ap (length {A = Kept}) same in
    record {
      ahead =
          subst
          (λ (ks : List Kept). with_verdicts g.tailoring (record { sent = c.count.result; received = c.kept.result; repeats = c.args.counts.now.repeats; decided = 0; undecidable = 0; other = 0; values = 0 }) (verdicts_on g.tailoring g.history ks) ≡ tally_by g c.args.counts.now)
          (sym same)
          (none-counted g c.args.counts.now c.count.result c.kept.result (c.count.ensures ∙ ap (λ (x : Ground). length x.history.requests) known) (c.kept.ensures ∙ ap (λ (x : Ground). length x.history.kept) known));
      short = subst (λ (ks : List Kept). AllByRecursion (λ (k : Kept). HasRoom k.report.body) ks) (sym same) c.history-history.ensures.grounded.short;
      few = omega (arith, size);
      values = omega (arith, size);
    }

pub loop-kept-preserved-in-Some-2 : goal.loop-kept-preserved-in-Some-2
loop-kept-preserved-in-Some-2 c =
    let g = c.args.verdicts.now in
    let x = c.loop-kept.tally in
    let new = c.count_verdict.new.tally in
    let k = c.in-Some.kept.now in
    let rest = c.next.new.self in
    let all = c.loop-kept.kept-iterator in
    let steps = c.in-Some.ensures.steps in
    let counted =
    subst (λ (t : TailoringParts). new ≡ with_verdicts t x ((c.tag.result, c.in-Some-2.verdict) ∷ [])) (c.tailoring-tailoring.ensures.tailoring ∙ ap (λ (y : Ground). y.tailoring) c.history-history.ensures.history) c.count_verdict.ensures.counted in
    record {
      ahead = one-counted g.tailoring g.history x new (tally_by g c.args.counts.now) k c.tag.result c.in-Some-2.verdict c.in_ok-verdict.field-0 rest all steps c.in_ok-verdict.ensures.verdict c.in-Some-2.is c.tag.ensures counted c.loop-kept.invariant.ahead;
      short = (subst (λ (ks : List Kept). AllByRecursion (λ (j : Kept). HasRoom j.report.body) ks) steps c.loop-kept.invariant.short).1;
      few = few-left g.tailoring x new k c.tag.result c.in-Some-2.verdict rest all (length g.history.kept) steps counted c.loop-kept.invariant.few;
      values = values-left x.values new.values k rest all (4294967296 * length g.history.kept) steps c.count_verdict.ensures.most c.loop-kept.invariant.values;
    }
