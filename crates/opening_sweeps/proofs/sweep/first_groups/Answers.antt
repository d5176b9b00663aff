use Rattle.std.proofs.Common.{arith, ◌≡◌, ◌∙◌, ◌≤◌, List, Option, [], ◌∷◌, ◌++◌, Some, None, IfSome, option_to_list, sym, ap, subst, map}
use Rattle.std.specs.List.{All}
use Rattle.std.proofs.lemmas.List.Elements.{All-nil}
use Rattle.opening_sweeps.specs.Requests.{Start, IsFormedStart}
use Rattle.opening_sweeps.specs.Courses.{Course, AreAlike, course_of}
use Rattle.opening_sweeps.specs.Groups.{courses, IsReached}
use Rattle.opening_sweeps.specs.declared.group.Group.{Group}
use Rattle.opening_sweeps.proofs.sweep.first_groups.Goals as goal

pub returns-clause-alike : goal.returns-clause-alike
returns-clause-alike c =
    let new = courses c.add_start.new.groups.items in
    λ rest.
    subst (λ (o : Option Start). AreAlike rest (map course_of (option_to_list o)) new) (sym c.in-Some.is)
    (subst (λ (gs : List Group). AreAlike rest (courses gs ++ course_of c.in-Some.start ∷ []) new) c.new-groups.ensures.items (c.in_ok-add_start.ensures.alike rest))

pub returns-clause-reached : goal.returns-clause-reached
returns-clause-reached c =
    λ t rs formed.
    c.in_ok-add_start.ensures.reached t rs 0 (omega arith) (subst (λ (o : Option Start). IfSome o (IsFormedStart t)) c.in-Some.is formed)
    (subst (λ (gs : List Group). All (IsReached t rs 0 0) gs) (sym c.new-groups.ensures.items) (All-nil (IsReached t rs 0 0)))
