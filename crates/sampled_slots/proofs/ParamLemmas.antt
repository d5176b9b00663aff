-- The parameters of a sampler: each is found by its ID, and stands with one sampler alone.
use Rattle.std.proofs.Common.{arith, ◌≡◌, ℕ, suc, ◌+◌, ◌%◌, refl, ap, subst, ◌∙◌, List, [], ◌∷◌, map, filter, find, cond, Bool, true, false, not, ◌==◌, Some, inl, inr}
use Rattle.std.specs.Prelude.{nat_eq, if◌then◌else◌}
use Rattle.std.specs.List.{AllByRecursion, IsDistinct}
use Rattle.std.proofs.lemmas.Bool.{eqb-true, eq-eqb}
use Rattle.std.proofs.lemmas.Map.Keys.{IsDistinct-head, IsDistinct-tail}
use Rattle.hk_base.specs.Fit.{IsFit}
use Rattle.hk_base.specs.Parameters.{parameter, is_settable}
use Rattle.hk_base.specs.TailoringParts.{TailoringParts}
use Rattle.hk_base.specs.declared.types.Param.{Param}
use Rattle.hk_base.proofs.Membership.{IsIn, IsIn-filter, IsIn-list_any, AllByRecursion-IsIn, IsIn-AllByRecursion}
use Rattle.sampler_threads.specs.Orders.{dealt, kept_if, sensed}
use Rattle.sampler_threads.specs.Samplings.{is_sensed}
use Rattle.board_runs.specs.Samplers.{shared_out, is_among}

-- each parameter has an ID of its own
abbrev pub AreApart : List Param → Type 0
AreApart [] = Unit {0}
AreApart (p ∷ ps) = AllByRecursion (λ (q : Param). (p.id == q.id) ≡ false) ps × AreApart ps

others : (id : ℕ) (ps : List Param) → AllByRecursion (λ y. nat_eq id y ≡ false) (map (λ (p : Param). p.id) ps) → AllByRecursion (λ (q : Param). (id == q.id) ≡ false) ps
others id [] h = tt
others id (p ∷ ps) h = (h.0, others id ps h.1)

pub ids-apart : (ps : List Param) → IsDistinct nat_eq (map (λ (p : Param). p.id) ps) → AreApart ps
ids-apart [] h = tt
ids-apart (p ∷ ps) h =
    (others p.id ps (IsDistinct-head nat_eq p.id (map (λ (q : Param). q.id) ps) h), ids-apart ps (IsDistinct-tail nat_eq p.id (map (λ (q : Param). q.id) ps) h))

all-filter : (P : Param → Type 0) (f : Param → Bool) (ps : List Param) → AllByRecursion P ps → AllByRecursion P (filter f ps)
all-filter P f [] h = tt
all-filter P f (p ∷ ps) h = by (f p) (all-filter P f ps h.1)
  where
    by : (b : Bool) → AllByRecursion P (filter f ps) → AllByRecursion P (cond b (p ∷ filter f ps) (filter f ps))
    by true rest = (h.0, rest)
    by false rest = rest

pub filter-apart : (f : Param → Bool) (ps : List Param) → AreApart ps → AreApart (filter f ps)
filter-apart f [] h = tt
filter-apart f (p ∷ ps) h = by (f p) (filter-apart f ps h.1)
  where
    by : (b : Bool) → AreApart (filter f ps) → AreApart (cond b (p ∷ filter f ps) (filter f ps))
    by true rest = (all-filter (λ (q : Param). (p.id == q.id) ≡ false) f ps h.0, rest)
    by false rest = rest

-- the sensed parameters of a fit tailoring are apart
pub sensed-apart : (t : TailoringParts) → IsFit t → AreApart (sensed t.params)
sensed-apart t fit = filter-apart (λ p. not (is_settable p)) t.params (ids-apart t.params fit.ids)

-- a parameter is found by its ID
pub found : (ps : List Param) → AreApart ps → (p : Param) → IsIn p ps → find (λ (q : Param). q.id == p.id) ps ≡ Some p
found [] apart p h = absurd h
found (x ∷ ps) apart p (inl e) =
    subst (λ (z : Param). find (λ (q : Param). q.id == p.id) (z ∷ ps) ≡ Some p) e
    (ap (λ b. cond b (Some p) (find (λ (q : Param). q.id == p.id) ps)) (eq-eqb p.id p.id refl))
found (x ∷ ps) apart p (inr h) =
    ap (λ b. cond b (Some x) (find (λ (q : Param). q.id == p.id) ps)) (AllByRecursion-IsIn (λ (q : Param). (x.id == q.id) ≡ false) p ps apart.0 h)
    ∙ found ps apart.1 p h

-- a sensed parameter, found by its ID
abbrev pub IsSensedOf : TailoringParts → Param → Type 0
IsSensedOf t p = (parameter t p.id ≡ Some p) × (not (is_settable p) ≡ true)

pub dealt-IsIn : (n k i : ℕ) (p : Param) (ps : List Param) → IsIn p (dealt n k i ps) → IsIn p ps
dealt-IsIn n k i p [] h = absurd h
dealt-IsIn n k i p (x ∷ ps) h = by (i % n == k) h (λ j. dealt-IsIn n k (i + 1) p ps j)
  where
    by : (b : Bool) → IsIn p (kept_if b x (dealt n k (i + 1) ps)) → (IsIn p (dealt n k (i + 1) ps) → IsIn p ps) → IsIn p (x ∷ ps)
    by true (inl e) rest = inl e
    by true (inr j) rest = inr (rest j)
    by false j rest = inr (rest j)

-- so is each parameter of a sampler
pub dealt-own : (t : TailoringParts) (n k : ℕ) → IsFit t → AllByRecursion (IsSensedOf t) (dealt n k 0 (sensed t.params))
dealt-own t n k fit =
    IsIn-AllByRecursion (IsSensedOf t) (dealt n k 0 (sensed t.params))
    (λ p h.
    let there = IsIn-filter (λ q. not (is_settable q)) p t.params (dealt-IsIn n k 0 p (sensed t.params) h) in
    (found t.params (ids-apart t.params fit.ids) p there.0, there.1))

-- a sample of one of them is of a sensed parameter
pub among-sensed : (t : TailoringParts) (id : ℕ) (ps : List Param) → AllByRecursion (IsSensedOf t) ps → is_among ps id ≡ true → is_sensed (parameter t id) ≡ true
among-sensed t id ps own e =
    let r = IsIn-list_any (λ (p : Param). p.id == id) ps e in
    let o = AllByRecursion-IsIn (IsSensedOf t) r.0 ps own r.1 in
    subst (λ j. is_sensed (parameter t j) ≡ true) (eqb-true r.0.id id r.2) (ap is_sensed o.0 ∙ o.1)

-- they are those that a run has for the sampler
kept-one : (b : Bool) (p : Param) (xs : List Param) → kept_if b p xs ≡ (if b then p ∷ xs else xs)
kept-one true p xs = refl
kept-one false p xs = refl

pub dealt-shared : (n k i : ℕ) (ps : List Param) → dealt n k i ps ≡ shared_out n k i ps
dealt-shared n k i [] = refl
dealt-shared n k i (p ∷ ps) =
    let next : i + 1 ≡ suc i = omega arith in
    kept-one (i % n == k) p (dealt n k (i + 1) ps)
    ∙ ap (λ xs. if i % n == k then p ∷ xs else xs) (ap (λ j. dealt n k j ps) next ∙ dealt-shared n k (suc i) ps)
