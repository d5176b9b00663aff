use Rattle.std.proofs.Common.{arith, ◌∙◌, ◌+◌, ◌^◌, ◌<◌, List, length, sym, ap, subst, Vec, Global, Option, Some, None, append-nil}
use Rattle.std.specs.Prelude.{find, filter_map, nat_le}
use Rattle.std.specs.Option.{option_copied}
use Rattle.hk_base.specs.TailoringParts.{TailoringParts}
use Rattle.hk_base.specs.Fit.{IsFit}
use Rattle.pus_messages.specs.declared.message.Report.{Report}
use Rattle.ground_history.specs.Histories.{Kept, tag_of}
use Rattle.opening_sweeps.specs.Requests.{Start}
use Rattle.definition_intervals.proofs.KeptLemmas.{next-more, is-next, no-kept, no-report, tag-small}
use Rattle.entry_changes.specs.Changes.{told_start_below}
use Rattle.live_verdicts.proofs.ToldLemmas.{told-end, told-after}
use Rattle.live_verdicts.proofs.AmongLemmas.{told-all}
use Rattle.live_verdicts.proofs.between.told_between.Goals as goal
use Rattle.live_verdicts.proofs.between.told_between.Goals.{in-Some-told_start_below+in_ok-push, in_default-told_start_below, then-loop-from-test+else-from-last, else-loop-from-test}

pub overflow_add-from : goal.overflow_add-from
overflow_add-from c =
    let g = c.args.history.now in
    let next = is-next g.history.kept c.loop-from.from c.in-Some.report.now c.requires.tags c.in-Some.ensures in
    let fit = subst (λ (t : TailoringParts). IsFit t) c.tailoring.ensures.tailoring c.greatest_tag-most.ensures.fit in
    let small : c.in-Some.report.now.header.tag + 1 < 2 ^ 64 = subst (λ (r : Report). r.header.tag + 1 < 2 ^ 64) next.report (tag-small g next.kept fit.widths c.requires next.member) in
    omega (arith, small)

pub loop-from-smaller : goal.loop-from-smaller
loop-from-smaller c =
    let g = c.args.history.now in
    let next = is-next g.history.kept c.loop-from.from c.in-Some.report.now c.requires.tags c.in-Some.ensures in
    omega (arith, ap (λ (ks : List Kept). length ks) next.left)

pub loop-from-preserved : goal.loop-from-preserved
loop-from-preserved c =
    let g = c.args.history.now in
    let key = c.args.key in
    let r = c.in-Some.report.now in
    let before = c.loop-from.starts.items in
    let next = is-next g.history.kept c.loop-from.from r c.requires.tags c.in-Some.ensures in
    let told = c.told_start_below.ensures next.kept next.report in
    elim c.match-told_start_below.branch [
      | in-Some-told_start_below+in_ok-push w ↦
          let o : Option Start = Some w.in-Some-told_start_below.start in
          next-more (told_start_below key c.args.tag) g.history.kept c.loop-from.from r before c.match-told_start_below.starts.items _ o next (sym w.in-Some-told_start_below.is ∙ told)
          (ap (λ (v : Vec Start Global). v.items) w.starts-is ∙ w.in_ok-push.ensures.items) c.loop-from.invariant
      | in_default-told_start_below w ↦
          let o : Option Start = None in
          next-more (told_start_below key c.args.tag) g.history.kept c.loop-from.from r before c.match-told_start_below.starts.items _ o next (sym w.in_default-told_start_below.is ∙ told)
          (ap (λ (v : Vec Start Global). v.items) w.starts-is ∙ sym (append-nil before)) c.loop-from.invariant
    ]

pub returns-in_default : goal.returns-in_default
returns-in_default c =
    let ks = c.args.history.now.history.kept in
    let from = c.loop-from.from in
    let none = no-report (find (λ x. nat_le from (tag_of x)) ks) (sym c.report_from.ensures ∙ ap (λ o. option_copied o) c.in_default.is) in
    told-all c.loop-from.starts.items _ _ (ap (λ (xs : List Kept). filter_map (told_start_below c.args.key c.args.tag) xs) (no-kept from ks none)) c.loop-from.invariant

pub returns : goal.returns
returns c =
    let ks = c.args.history.now.history.kept in
    let from = c.loop-from.from in
    elim c.loop-from-test.branch [
      | then-loop-from-test+else-from-last w ↦
          let last = c.newest_told-last.ensures in
          told-all c.loop-from.starts.items _ _ (told-after c.args.key from c.args.tag ks (omega (arith, last, w.if-from-last))) c.loop-from.invariant
      | else-loop-from-test w ↦ told-all c.loop-from.starts.items _ _ (told-end c.args.key from c.args.tag ks (omega (arith, w.loop-from-test))) c.loop-from.invariant
    ]
