use Rattle.std.proofs.Common.{arith, ◌≡◌, ℕ, ◌∙◌, ◌+◌, ◌<◌, ◌≤◌, ◌++◌, ◌∷◌, [], List, length, sym, ap, subst, take, drop, map, append-nil, append_assoc}
use Rattle.std.specs.List.{All}
use Rattle.std.proofs.lemmas.List.{map_push}
use Rattle.std.proofs.lemmas.List.Elements.{All-get_or}
use Rattle.opening_sweeps.specs.Requests.{Start, IsFormedStart}
use Rattle.opening_sweeps.specs.Courses.{Course, AreAlike, course_of}
use Rattle.opening_sweeps.specs.Groups.{courses}
use Rattle.opening_sweeps.proofs.CourseLemmas.{alike-refl, alike-trans, alike-append}
use Rattle.opening_sweeps.proofs.StartLemmas.{part-more, part-none}
use Rattle.opening_sweeps.proofs.sweep.open.Goals as goal

pub loop-place-init : goal.loop-place-init
loop-place-init c =
    let gs = c.args.groups.items in
    let within : c.args.from ≤ length c.args.starts.now = omega arith in
    record {
      alike = λ rest.
          subst (λ (ks : List Course). AreAlike rest ks (courses gs))
          (sym (ap (λ (ss : List Start). courses gs ++ map course_of ss) (part-none c.args.starts.now c.args.from within) ∙ append-nil (courses gs))) (alike-refl rest (courses gs));
      reached = λ t rs limit le formed all. all;
    }

pub loop-place-preserved : goal.loop-place-preserved
loop-place-preserved c =
    let ss = c.args.starts.now in
    let from = c.args.from in
    let i = c.loop-place.place in
    let s = c.index-starts-place.result in
    let gs = courses c.args.groups.items in
    let earlier = map course_of (drop from (take i ss)) in
    let now = courses c.loop-place.groups.items in
    let new = courses c.add_start.new.groups.items in
    let order : from ≤ i = omega arith in
    let within : i < length ss = omega arith in
    let more : gs ++ map course_of (drop from (take (i + 1) ss)) ≡ (gs ++ earlier) ++ course_of s ∷ [] =
    ap (λ (xs : List Start). gs ++ map course_of xs) (part-more ss from i s order within c.index-starts-place.is)
    ∙ (ap (λ (ks : List Course). gs ++ ks) (map_push course_of (drop from (take i ss)) s) ∙ sym (append_assoc gs earlier (course_of s ∷ []))) in
    record {
      alike = λ rest.
          subst (λ (ks : List Course). AreAlike rest ks new) (sym more)
          (alike-trans rest ((gs ++ earlier) ++ course_of s ∷ []) (now ++ course_of s ∷ []) new
          (alike-append rest (gs ++ earlier) now (course_of s ∷ []) (course_of s ∷ []) (c.loop-place.invariant.alike rest) (alike-refl rest (course_of s ∷ [])))
          (c.in_ok-add_start.ensures.alike rest));
      reached = λ t rs limit le formed all.
          c.in_ok-add_start.ensures.reached t rs limit le (subst (λ (x : Start). IsFormedStart t x) (sym c.index-starts-place.is) (All-get_or (IsFormedStart t) ss i s within formed))
          (c.loop-place.invariant.reached t rs limit le formed all);
    }

pub returns-clause-alike : goal.returns-clause-alike
returns-clause-alike c =
    let end : c.loop-place.place ≡ c.args.to = omega arith in
    λ rest.
    subst (λ (n : ℕ). AreAlike rest (courses c.args.groups.items ++ map course_of (drop c.args.from (take n c.args.starts.now))) (courses c.loop-place.groups.items)) end
    (c.loop-place.invariant.alike rest)
