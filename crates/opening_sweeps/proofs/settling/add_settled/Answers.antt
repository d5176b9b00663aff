use Rattle.std.proofs.Common.{arith, ◌≡◌, List, Option, ◌++◌, length, sym, subst}
use Rattle.std.proofs.lemmas.Grind.{common_steps}
use Rattle.definition_intervals.specs.Founds.{found_after}
use Rattle.opening_sweeps.proofs.OutcomeLemmas.{on_ok}
use Rattle.opening_sweeps.proofs.JoinLemmas.{alike-none, alike-instead}
use Rattle.opening_sweeps.proofs.settling.add_settled.Goals as goal

pub returns-then-is_empty-clause-alike : goal.returns-then-is_empty-clause-alike
returns-then-is_empty-clause-alike c =
    let none : length c.args.tags.items ≡ 0 = grind (arith, common_steps) in
    λ rest. alike-none rest c.args.groups.now.items (found_after c.args.tailoring.now c.args.request.now c.args.base.now) c.args.tags.items none

pub returns-clause-alike : goal.returns-clause-alike
returns-clause-alike c =
    let found = found_after c.args.tailoring.now c.args.request.now c.args.base.now in
    on_ok _ _ c.add_openings.result
    (λ h rest. alike-instead rest c.args.groups.now.items c.add_openings.new.groups.items c.in_ok-after.after found c.args.tags.items c.in_ok-after.ensures.same (h rest))
    c.add_openings.ensures.alike

pub returns-clause-reached : goal.returns-clause-reached
returns-clause-reached c =
    on_ok _ _ c.add_openings.result
    (λ h rs all. h c.args.tailoring.now rs c.args.place (omega arith) c.in_ok-after.ensures.formed all)
    c.add_openings.ensures.reached
