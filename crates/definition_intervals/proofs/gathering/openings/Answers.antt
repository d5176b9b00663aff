use Rattle.std.proofs.Common.{arith, ◌≡◌, ◌∙◌, ◌+◌, ◌^◌, ◌<◌, ◌++◌, ◌∷◌, [], List, length, refl, sym, ap, subst, Vec, Global, Option, Some, None, append-nil, option_to_list}
use Rattle.std.specs.Prelude.{find, option_map, filter_map, nat_le}
use Rattle.std.specs.List.{All}
use Rattle.std.specs.Option.{option_copied}
use Rattle.hk_base.specs.TailoringParts.{TailoringParts}
use Rattle.hk_base.specs.Fit.{IsFit}
use Rattle.pus_messages.specs.declared.message.Report.{Report}
use Rattle.ground_history.specs.Histories.{Kept, tag_of}
use Rattle.ground_history.specs.Ground.{newest_told}
use Rattle.definition_intervals.specs.Openings as definitions
use Rattle.definition_intervals.specs.Openings.{Opening, report_opening}
use Rattle.definition_intervals.specs.Findings.{IsFormedOpening}
use Rattle.definition_intervals.proofs.KeptLemmas.{is-next, kept_from, no-kept, no-report, tag-small, all-ahead, next-more, none-behind}
use Rattle.definition_intervals.proofs.GatherLemmas.{no-opening, openings-formed}
use Rattle.definition_intervals.proofs.gathering.openings.Goals as goal
use Rattle.definition_intervals.proofs.gathering.openings.Goals.{in-Some-2+in_ok-push, in_default-2}

pub loop-from-init : goal.loop-from-init
loop-from-init c =
    let g = c.args.history.now in
    let h = g.history in
    let key = c.args.key in
    let tag = c.args.tag in
    all-ahead (report_opening h key tag) h.kept c.in_ok-openings.openings.items
    ∙ ap (λ (xs : List Opening). xs ++ filter_map (report_opening h key tag) h.kept) c.in_ok-openings.ensures.openings

pub overflow_add-from : goal.overflow_add-from
overflow_add-from c =
    let g = c.args.history.now in
    let next = is-next g.history.kept c.loop-from.from c.in-Some.report.now c.requires.tags c.in-Some.ensures in
    let fit = subst (λ (t : TailoringParts). IsFit t) c.tailoring.ensures.tailoring c.greatest_tag-most.ensures.fit in
    let small : c.in-Some.report.now.header.tag + 1 < 2 ^ 64 = subst (λ (r : Report). r.header.tag + 1 < 2 ^ 64) next.report (tag-small g next.kept fit.widths c.requires next.member) in
    omega (arith, small)

pub loop-from-smaller : goal.loop-from-smaller
loop-from-smaller c =
    let g = c.args.history.now in
    let next = is-next g.history.kept c.loop-from.from c.in-Some.report.now c.requires.tags c.in-Some.ensures in
    omega (arith, ap (λ (ks : List Kept). length ks) next.left)

pub loop-from-preserved : goal.loop-from-preserved
loop-from-preserved c =
    let g = c.args.history.now in
    let h = g.history in
    let key = c.args.key in
    let tag = c.args.tag in
    let r = c.in-Some.report.now in
    let before = c.loop-from.openings.items in
    let all = definitions.openings g.tailoring h key tag in
    let next = is-next h.kept c.loop-from.from r c.requires.tags c.in-Some.ensures in
    let opened = c.in_ok-opening.ensures next.kept next.report in
    elim c.match-branch-3.branch [
      | in-Some-2+in_ok-push w ↦
          let o : Option Opening = Some w.in-Some-2.opening in
          next-more (report_opening h key tag) h.kept c.loop-from.from r before c.match-branch-3.openings.items all o next (sym w.in-Some-2.is ∙ opened)
          (ap (λ (v : Vec Opening Global). v.items) w.openings-is ∙ w.in_ok-push.ensures.items) c.loop-from.invariant
      | in_default-2 w ↦
          let o : Option Opening = None in
          next-more (report_opening h key tag) h.kept c.loop-from.from r before c.match-branch-3.openings.items all o next (sym w.in_default-2.is ∙ opened)
          (ap (λ (v : Vec Opening Global). v.items) w.openings-is ∙ sym (append-nil before)) c.loop-from.invariant
    ]

pub returns-in_default-clause-openings : goal.returns-in_default-clause-openings
returns-in_default-clause-openings c =
    let h = c.args.history.now.history in
    let from = c.loop-from.from in
    let none = no-report (find (λ x. nat_le from (tag_of x)) h.kept) (sym c.report_from.ensures ∙ ap (λ o. option_copied o) c.in_default.is) in
    sym (append-nil c.loop-from.openings.items)
    ∙ (ap (λ (xs : List Kept). c.loop-from.openings.items ++ filter_map (report_opening h c.args.key c.args.tag) xs) (sym (no-kept from h.kept none)) ∙ c.loop-from.invariant)

pub returns-in_default-clause-formed : goal.returns-in_default-clause-formed
returns-in_default-clause-formed c =
    let g = c.args.history.now in
    let h = g.history in
    let from = c.loop-from.from in
    let none = no-report (find (λ x. nat_le from (tag_of x)) h.kept) (sym c.report_from.ensures ∙ ap (λ o. option_copied o) c.in_default.is) in
    let all = sym (append-nil c.loop-from.openings.items)
    ∙ (ap (λ (xs : List Kept). c.loop-from.openings.items ++ filter_map (report_opening h c.args.key c.args.tag) xs) (sym (no-kept from h.kept none)) ∙ c.loop-from.invariant) in
    subst (λ (os : List Opening). All (IsFormedOpening g.tailoring) os) (sym all) (openings-formed g c.args.key c.args.tag c.requires c.in_ok-openings.ensures.formed)

pub returns-clause-openings : goal.returns-clause-openings
returns-clause-openings c =
    let h = c.args.history.now.history in
    let from = c.loop-from.from in
    let after : newest_told h.kept < from = let last = c.newest_told-last.ensures in omega (arith, last, c.loop-from-test.false) in
    sym (append-nil c.loop-from.openings.items)
    ∙ (ap (λ (os : List Opening). c.loop-from.openings.items ++ os) (sym (none-behind (report_opening h c.args.key c.args.tag) (no-opening h c.args.key c.args.tag) from h.kept after)) ∙ c.loop-from.invariant)

pub returns-clause-formed : goal.returns-clause-formed
returns-clause-formed c =
    let g = c.args.history.now in
    let h = g.history in
    let from = c.loop-from.from in
    let after : newest_told h.kept < from = let last = c.newest_told-last.ensures in omega (arith, last, c.loop-from-test.false) in
    let all = sym (append-nil c.loop-from.openings.items)
    ∙ (ap (λ (os : List Opening). c.loop-from.openings.items ++ os) (sym (none-behind (report_opening h c.args.key c.args.tag) (no-opening h c.args.key c.args.tag) from h.kept after)) ∙ c.loop-from.invariant) in
    subst (λ (os : List Opening). All (IsFormedOpening g.tailoring) os) (sym all) (openings-formed g c.args.key c.args.tag c.requires c.in_ok-openings.ensures.formed)
