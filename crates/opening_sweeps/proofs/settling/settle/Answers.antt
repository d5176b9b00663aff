use Rattle.std.proofs.Common.{arith, ◌≡◌, ℕ, ◌+◌, ◌<◌, ◌≤◌, List, length, sym, ap, subst, map, take, drop}
use Rattle.std.specs.List.{All}
use Rattle.opening_sweeps.specs.Courses.{AreAlike, course_after, course_after_all}
use Rattle.opening_sweeps.specs.Groups.{courses, IsReached}
use Rattle.opening_sweeps.specs.declared.group.Group.{Group}
use Rattle.opening_sweeps.proofs.SettleLemmas.{alike-place, all-limit, all-bases}
use Rattle.opening_sweeps.proofs.settling.settle.Goals as goal

pub loop-place-preserved : goal.loop-place-preserved
loop-place-preserved c =
    let t = c.args.tailoring.now in
    let rs = c.args.requests.now in
    let i = c.loop-place.place in
    let r = c.index-requests-place.result in
    let gs = c.loop-place.groups.items in
    let new = c.in_ok-groups.groups.items in
    let within : i < length rs = omega arith in
    record {
      alike = λ ks h.
          alike-place c.same_is_found.ensures t rs i r ks gs new within c.index-requests-place.is c.requires.rising (c.loop-place.invariant.alike ks h)
          (λ rest rising. subst (λ (xs : List Group). AreAlike rest (map (course_after t r) (courses xs)) (courses new)) c.deref.ensures.value (c.in_ok-groups.ensures.alike rest rising));
      reached = λ limit le all. all-limit t rs (i + 1) (i + 1) limit new le (c.in_ok-groups.ensures.reached rs);
      bases = all-bases t rs (i + 1) (i + 1) new (c.in_ok-groups.ensures.reached rs);
    }

pub returns-clause-alike : goal.returns-clause-alike
returns-clause-alike c =
    let t = c.args.tailoring.now in
    let rs = c.args.requests.now in
    let end : c.loop-place.place ≡ c.args.to = omega arith in
    λ ks h.
    subst (λ (n : ℕ). AreAlike (drop n rs) (map (course_after_all t (take n rs)) ks) (courses c.loop-place.groups.items)) end (c.loop-place.invariant.alike ks h)

pub returns-clause-reached : goal.returns-clause-reached
returns-clause-reached c =
    let t = c.args.tailoring.now in
    let rs = c.args.requests.now in
    let end : c.loop-place.place ≡ c.args.to = omega arith in
    λ limit le all.
    subst (λ (n : ℕ). All (IsReached t rs n limit) c.loop-place.groups.items) end (c.loop-place.invariant.reached limit (omega arith) all)
