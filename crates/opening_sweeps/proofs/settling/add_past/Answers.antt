use Rattle.std.proofs.Common.{arith, ◌≡◌, List, Option, ◌++◌, length, sym, subst}
use Rattle.std.proofs.lemmas.Grind.{common_steps}
use Rattle.hk_base.specs.declared.types.Structure.{Structure}
use Rattle.definition_intervals.specs.Founds.{IsFormedFound}
use Rattle.opening_sweeps.specs.Courses.{AreAlike}
use Rattle.opening_sweeps.specs.Groups.{courses, courses_at}
use Rattle.opening_sweeps.proofs.OutcomeLemmas.{on_ok}
use Rattle.opening_sweeps.proofs.JoinLemmas.{alike-none}
use Rattle.opening_sweeps.proofs.settling.add_past.Goals as goal

pub returns-then-is_empty-clause-alike : goal.returns-then-is_empty-clause-alike
returns-then-is_empty-clause-alike c =
    let none : length c.args.tags.items ≡ 0 = grind (arith, common_steps) in
    λ rest. alike-none rest c.args.groups.now.items c.args.base.now c.args.tags.items none

pub returns-clause-alike : goal.returns-clause-alike
returns-clause-alike c =
    on_ok _ _ c.add_openings.result
    (λ h rest. subst (λ (f : Option (List (Option Structure))). AreAlike rest (courses c.args.groups.now.items ++ courses_at f c.args.tags.items) (courses c.add_openings.new.groups.items))
    c.in_ok-copied_found.ensures (h rest))
    c.add_openings.ensures.alike

pub returns-clause-reached : goal.returns-clause-reached
returns-clause-reached c =
    on_ok _ _ c.add_openings.result
    (λ h t rs formed all. h t rs c.args.place (omega arith) (subst (λ (f : Option (List (Option Structure))). IsFormedFound t f) (sym c.in_ok-copied_found.ensures) formed) all)
    c.add_openings.ensures.reached
