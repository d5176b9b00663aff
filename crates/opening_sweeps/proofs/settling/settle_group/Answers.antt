use Rattle.std.proofs.Common.{arith, ◌≡◌, ℕ, List, Option, ◌++◌, length, sym, ◌∙◌, ap, subst, option_to_list}
use Rattle.std.specs.Prelude.{filter, find}
use Rattle.opening_sweeps.specs.Requests.{Bounded, as_request}
use Rattle.opening_sweeps.specs.Groups.{is_past, is_unsure, is_sure}
use Rattle.opening_sweeps.proofs.OutcomeLemmas.{on_ok}
use Rattle.opening_sweeps.proofs.SettleLemmas.{alike-settled}
use Rattle.opening_sweeps.proofs.settling.settle_group.Goals as goal

pub returns-clause-alike : goal.returns-clause-alike
returns-clause-alike c =
    let t = c.args.tailoring.now in
    let r = c.args.request.now in
    let g = c.args.group.now in
    let gs = c.args.groups.now.items in
    let past = c.in_ok-past.ensures ∙ ap (λ (ts : List ℕ). filter (is_past r) ts) c.as_slice-tags.ensures in
    let unsure = c.in_ok-unsure.ensures ∙ ap (λ (ts : List ℕ). filter (is_unsure r) ts) c.as_slice-tags.ensures in
    let sure = c.in_ok-sure.ensures ∙ ap (λ (ts : List ℕ). option_to_list (find (is_sure r) ts)) c.as_slice-tags.ensures in
    let certain = c.as_request-certain.ensures ∙ ap (λ (x : Bounded). as_request x.accepted r) c.request.view_is in
    on_ok _ _ c.add_settled-2.result
    (λ h rest rising.
    alike-settled t r rest gs c.add_past.new.groups.items c.add_settled.new.groups.items c.add_settled-2.new.groups.items g.base g.tags
    c.in_ok-past.past.items c.in_ok-unsure.unsure.items c.in_ok-sure.sure.items c.as_request.result c.as_request-certain.result rising past unsure sure c.as_request.ensures certain
    (c.in_ok-add_past.ensures.alike rest) (c.in_ok-add_settled.ensures.alike rest) (h rest))
    c.add_settled-2.ensures.alike

pub returns-clause-reached : goal.returns-clause-reached
returns-clause-reached c =
    on_ok _ _ c.add_settled-2.result
    (λ h rs all. h rs (c.in_ok-add_settled.ensures.reached rs (c.in_ok-add_past.ensures.reached c.args.tailoring.now rs c.requires.base all)))
    c.add_settled-2.ensures.reached
