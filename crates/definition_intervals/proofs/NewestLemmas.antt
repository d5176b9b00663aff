-- The opening with the greatest tag, one opening after the other.
use Rattle.std.proofs.Common.{arith, ◌≡◌, ◌<◌, ◌≤◌, refl, sym, ◌∙◌, ap, List, [], ◌∷◌, ◌++◌, Bool, true, false, Option, Some, None}
use Rattle.std.specs.Prelude.{nat_lt, if◌then◌else◌}
use Rattle.std.proofs.lemmas.Bool.{ltb-true, ltb-false, lt-ltb, le-ltb}
use Rattle.definition_intervals.specs.Openings.{Opening}
use Rattle.definition_intervals.specs.Verdicts.{later_of, latest}
use Rattle.definition_intervals.specs.Findings.{newer_of}

-- of three, from the left or from the right
of_three : (x p o : Opening) → later_of x (Some (newer_of (Some p) o)) ≡ newer_of (Some (later_of x (Some p))) o
of_three x p o = go (nat_lt o.tag p.tag) (nat_lt p.tag x.tag) refl refl
  where
    go : (a b : Bool) → nat_lt o.tag p.tag ≡ a → nat_lt p.tag x.tag ≡ b
        → later_of x (Some (if a then p else o)) ≡ newer_of (Some (if b then x else p)) o
    go true true e f =
        let low : o.tag < p.tag = ltb-true o.tag p.tag e in
        let high : p.tag < x.tag = ltb-true p.tag x.tag f in
        ap (λ c. if c then x else p) f ∙ sym (ap (λ c. if c then x else o) (lt-ltb o.tag x.tag (omega arith)))
    go true false e f = ap (λ c. if c then x else p) f ∙ sym (ap (λ c. if c then p else o) e)
    go false true e f = refl
    go false false e f =
        let low : p.tag ≤ o.tag = ltb-false o.tag p.tag e in
        let high : x.tag ≤ p.tag = ltb-false p.tag x.tag f in
        ap (λ c. if c then x else o) (le-ltb o.tag x.tag (omega arith)) ∙ sym (ap (λ c. if c then p else o) e)

-- one more opening behind the others
pub latest-more : (os : List Opening) (o : Opening) → latest (os ++ o ∷ []) ≡ Some (newer_of (latest os) o)
latest-more [] o = refl
latest-more (x ∷ os) o = ap (λ l. Some (later_of x l)) (latest-more os o) ∙ ap Some (go (latest os))
  where
    go : (l : Option Opening) → later_of x (Some (newer_of l o)) ≡ newer_of (Some (later_of x l)) o
    go None = refl
    go (Some p) = of_three x p o
