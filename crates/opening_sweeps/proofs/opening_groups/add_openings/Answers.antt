use Rattle.std.proofs.Common.{arith, ◌≡◌, ℕ, ◌<◌, ◌≤◌, List, ◌∷◌, [], ◌++◌, length, sym, ◌∙◌, ap, subst}
use Rattle.std.proofs.lemmas.Grind.{common_steps}
use Rattle.std.specs.List.{All, HoldsAt}
use Rattle.definition_intervals.specs.Founds.{AreSameFound}
use Rattle.opening_sweeps.specs.Courses.{AreAlike}
use Rattle.opening_sweeps.specs.Groups.{courses, courses_at, joined, IsReached}
use Rattle.opening_sweeps.specs.declared.group.Group.{Group}
use Rattle.opening_sweeps.proofs.OutcomeLemmas.{on_ok}
use Rattle.opening_sweeps.proofs.JoinLemmas.{made, alike-none, alike-at, reached-at, alike-made, reached-made}
use Rattle.opening_sweeps.proofs.opening_groups.add_openings.Goals as goal

pub returns-then-is_empty-clause-alike : goal.returns-then-is_empty-clause-alike
returns-then-is_empty-clause-alike c =
    let none : length c.args.tags.items ≡ 0 = grind (arith, common_steps) in
    λ rest. alike-none rest c.args.groups.now.items c.args.base c.args.tags.items none

pub returns-in-Some-clause-alike : goal.returns-in-Some-clause-alike
returns-in-Some-clause-alike c =
    let gs = c.args.groups.now.items in
    let tags = c.args.tags.items in
    let told = subst (λ (xs : List Group). (c.in-Some.number < length xs) × HoldsAt (λ g. AreSameFound g.base c.args.base) xs c.in-Some.number) c.deref.ensures.value c.in-Some.ensures in
    on_ok _ _ c.join.result
    (λ is rest. alike-at rest gs c.join.new.groups.items c.in-Some.number c.args.base tags told.0 told.1
    (subst (λ (ts : List ℕ). HoldsAt (λ g. c.join.new.groups.items ≡ joined gs c.in-Some.number g ts) gs c.in-Some.number) c.deref-in-Some.ensures.value is))
    c.join.ensures

pub returns-in-Some-clause-reached : goal.returns-in-Some-clause-reached
returns-in-Some-clause-reached c =
    let gs = c.args.groups.now.items in
    let tags = c.args.tags.items in
    let told = subst (λ (xs : List Group). (c.in-Some.number < length xs) × HoldsAt (λ g. AreSameFound g.base c.args.base) xs c.in-Some.number) c.deref.ensures.value c.in-Some.ensures in
    on_ok _ _ c.join.result
    (λ is t rs limit le formed all. reached-at t rs c.args.place limit gs c.join.new.groups.items c.in-Some.number tags told.0
    (subst (λ (ts : List ℕ). HoldsAt (λ g. c.join.new.groups.items ≡ joined gs c.in-Some.number g ts) gs c.in-Some.number) c.deref-in-Some.ensures.value is) all)
    c.join.ensures

pub returns-in-None-clause-alike : goal.returns-in-None-clause-alike
returns-in-None-clause-alike c =
    let gs = c.args.groups.now.items in
    let tags = c.args.tags.items in
    on_ok _ _ c.add_group.result
    (λ is rest. subst (λ (xs : List Group). AreAlike rest (courses gs ++ courses_at c.args.base tags) (courses xs)) (sym is) (alike-made rest gs tags c.args.base c.args.place))
    c.add_group.ensures

pub returns-in-None-clause-reached : goal.returns-in-None-clause-reached
returns-in-None-clause-reached c =
    let gs = c.args.groups.now.items in
    let tags = c.args.tags.items in
    let some : 1 ≤ length tags = grind (arith, common_steps) in
    on_ok _ _ c.add_group.result
    (λ is t rs limit le formed all. subst (λ (xs : List Group). All (IsReached t rs c.args.place limit) xs) (sym is)
    (reached-made t rs c.args.place limit gs tags c.args.base le some formed all))
    c.add_group.ensures
