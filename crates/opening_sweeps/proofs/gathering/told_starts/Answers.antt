use Rattle.std.proofs.Common.{arith, ◌≡◌, ◌∙◌, ◌+◌, ◌^◌, ◌<◌, ◌++◌, ◌∷◌, [], List, length, refl, sym, ap, subst, Vec, Global, Option, Some, None, append-nil, option_to_list}
use Rattle.std.specs.Prelude.{find, option_map, filter_map, nat_le}
use Rattle.std.specs.Option.{option_copied}
use Rattle.hk_base.specs.TailoringParts.{TailoringParts}
use Rattle.hk_base.specs.Fit.{IsFit}
use Rattle.pus_messages.specs.declared.message.Report.{Report}
use Rattle.ground_history.specs.Histories.{Kept, tag_of}
use Rattle.ground_history.specs.Ground.{newest_told}
use Rattle.opening_sweeps.specs.Requests.{Start, told_start, told_starts}
use Rattle.definition_intervals.proofs.KeptLemmas.{IsNext, is-next, kept_from, no-kept, no-report, tag-small, all-ahead, next-more, none-behind}
use Rattle.opening_sweeps.proofs.GatherLemmas.{untold}
use Rattle.opening_sweeps.proofs.gathering.told_starts.Goals as goal
use Rattle.opening_sweeps.proofs.gathering.told_starts.Goals.{in-Some-told_start+in_ok-push, in_default-told_start}

pub loop-from-init : goal.loop-from-init
loop-from-init c =
    let ks = c.args.history.now.history.kept in
    all-ahead (told_start c.args.key) ks c.new-starts.result.items ∙ ap (λ xs. xs ++ filter_map (told_start c.args.key) ks) c.new-starts.ensures.items

pub overflow_add-from : goal.overflow_add-from
overflow_add-from c =
    let g = c.args.history.now in
    let next = is-next g.history.kept c.loop-from.from c.in-Some.report.now c.requires.tags c.in-Some.ensures in
    let fit = subst (λ (t : TailoringParts). IsFit t) c.tailoring.ensures.tailoring c.greatest_tag-most.ensures.fit in
    let small : c.in-Some.report.now.header.tag + 1 < 2 ^ 64 = subst (λ (r : Report). r.header.tag + 1 < 2 ^ 64) next.report (tag-small g next.kept fit.widths c.requires next.member) in
    omega (arith, small)

pub loop-from-smaller : goal.loop-from-smaller
loop-from-smaller c =
    let g = c.args.history.now in
    let next = is-next g.history.kept c.loop-from.from c.in-Some.report.now c.requires.tags c.in-Some.ensures in
    omega (arith, ap (λ (ks : List Kept). length ks) next.left)

pub loop-from-preserved : goal.loop-from-preserved
loop-from-preserved c =
    let g = c.args.history.now in
    let key = c.args.key in
    let r = c.in-Some.report.now in
    let before = c.loop-from.starts.items in
    let all = told_starts g.history key in
    let next = is-next g.history.kept c.loop-from.from r c.requires.tags c.in-Some.ensures in
    let told = c.told_start.ensures next.kept next.report in
    elim c.match-told_start.branch [
      | in-Some-told_start+in_ok-push w ↦
          let o : Option Start = Some w.in-Some-told_start.start in
          next-more (told_start key) g.history.kept c.loop-from.from r before c.match-told_start.starts.items all o next (sym w.in-Some-told_start.is ∙ told)
          (ap (λ (v : Vec Start Global). v.items) w.starts-is ∙ w.in_ok-push.ensures.items) c.loop-from.invariant
      | in_default-told_start w ↦
          let o : Option Start = None in
          next-more (told_start key) g.history.kept c.loop-from.from r before c.match-told_start.starts.items all o next (sym w.in_default-told_start.is ∙ told)
          (ap (λ (v : Vec Start Global). v.items) w.starts-is ∙ sym (append-nil before)) c.loop-from.invariant
    ]

pub returns-in_default : goal.returns-in_default
returns-in_default c =
    let g = c.args.history.now in
    let ks = g.history.kept in
    let from = c.loop-from.from in
    let none = no-report (find (λ x. nat_le from (tag_of x)) ks) (sym c.report_from.ensures ∙ ap (λ o. option_copied o) c.in_default.is) in
    sym (append-nil c.loop-from.starts.items) ∙ (ap (λ (xs : List Kept). c.loop-from.starts.items ++ filter_map (told_start c.args.key) xs) (sym (no-kept from ks none)) ∙ c.loop-from.invariant)

pub returns : goal.returns
returns c =
    let ks = c.args.history.now.history.kept in
    let from = c.loop-from.from in
    let after : newest_told ks < from = let last = c.newest_told-last.ensures in omega (arith, last, c.loop-from-test.false) in
    sym (append-nil c.loop-from.starts.items) ∙ (ap (λ ss. c.loop-from.starts.items ++ ss) (sym (none-behind (told_start c.args.key) (untold c.args.key) from ks after)) ∙ c.loop-from.invariant)
