use Rattle.std.proofs.Common.{◌≡◌, ℕ, ◌≤◌, List, ◌∷◌, [], ◌++◌, Option, Some, sym, ◌∙◌, ap, subst}
use Rattle.hk_base.specs.declared.types.Structure.{Structure}
use Rattle.definition_intervals.specs.Founds.{IsFormedFound}
use Rattle.opening_sweeps.specs.Requests.{Start}
use Rattle.opening_sweeps.specs.Courses.{Course, AreAlike, course_of}
use Rattle.opening_sweeps.specs.Groups.{courses, courses_at}
use Rattle.opening_sweeps.proofs.OutcomeLemmas.{on_ok}
use Rattle.opening_sweeps.proofs.JoinLemmas.{formed-one}
use Rattle.opening_sweeps.proofs.opening_groups.add_start.Goals as goal

pub returns-clause-alike : goal.returns-clause-alike
returns-clause-alike c =
    let start = c.args.start.now in
    let gs = c.args.groups.now.items in
    let state : Some c.in_ok-states.states ≡ Some (start.state ∷ []) = ap Some (c.in_ok-states.ensures ∙ ap (λ (s : Start). s.state ∷ []) c.start.view_is) in
    let tag : c.in_ok-tags.tags.items ≡ start.tag ∷ [] = c.in_ok-tags.ensures ∙ ap (λ (s : Start). s.tag ∷ []) c.start.view_is in
    let same : courses_at (Some c.in_ok-states.states) c.in_ok-tags.tags.items ≡ course_of start ∷ [] =
    ap (λ (f : Option (List (Option Structure))). courses_at f c.in_ok-tags.tags.items) state ∙ ap (λ (ts : List ℕ). courses_at (Some (start.state ∷ [])) ts) tag in
    on_ok _ _ c.add_openings.result
    (λ h rest. subst (λ (ks : List Course). AreAlike rest (courses gs ++ ks) (courses c.add_openings.new.groups.items)) same (h rest))
    c.add_openings.ensures.alike

pub returns-clause-reached : goal.returns-clause-reached
returns-clause-reached c =
    let start = c.args.start.now in
    let state : Some (start.state ∷ []) ≡ Some c.in_ok-states.states = ap Some (sym (c.in_ok-states.ensures ∙ ap (λ (s : Start). s.state ∷ []) c.start.view_is)) in
    on_ok _ _ c.add_openings.result
    (λ h t rs limit le formed all. h t rs limit le (subst (λ (f : Option (List (Option Structure))). IsFormedFound t f) state (formed-one t start.state formed)) all)
    c.add_openings.ensures.reached
