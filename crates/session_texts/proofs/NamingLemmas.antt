-- The request that a verdict names: the first open change of the opening with the greatest tag.
use Rattle.std.proofs.Common.{arith, ◌≡◌, ℕ, ◌<◌, ◌≤◌, refl, sym, ◌∙◌, ap, List, [], ◌∷◌, Bool, true, false, nat_lt, Option, Some, None, inl, inr}
use Rattle.std.proofs.lemmas.Bool.{ltb-true, ltb-false, true≢false}
use Rattle.std.specs.Prelude.{◌≢◌, not, filter, filter_map, find, unwrap_or, option_map, if◌then◌else◌}
use Rattle.std.specs.List.{AllByRecursion, list_any, list_all}
use Rattle.hk_base.proofs.Membership.{IsIn, list_any-IsIn}
use Rattle.hk_base.specs.TailoringParts.{TailoringParts}
use Rattle.hk_base.specs.declared.types.Definition.{Definition}
use Rattle.definition_intervals.specs.Openings.{Candidate, Opening, is_open, first_open}
use Rattle.definition_intervals.specs.States.{definition_eq, is_crowded}
use Rattle.definition_intervals.specs.Verdicts.{later_of, latest, named_request, common_states, explanation, verdict_by, verdict_from, verdict_of}
use Rattle.definition_intervals.specs.declared.answer.Verdict.{Verdict}
use Rattle.definition_intervals.specs.declared.answer.Verdict.TheVariants.{Decided, Undecidable, Crowded, NoOpening}
use Rattle.definition_intervals.proofs.NamedLemmas.{find-none}

-- the request that a verdict names, or another number
abbrev pub named_by : Verdict → ℕ → ℕ
named_by (Undecidable k) other = k
named_by (Crowded k) other = k
named_by _ other = other

verdict_by-names : (ds : List Definition) (k : ℕ) → named_by (verdict_by ds k) k ≡ k
verdict_by-names [] k = refl
verdict_by-names (d ∷ ds) k = go (list_all (definition_eq d) ds)
  where
    go : (b : Bool) → named_by (if b then Decided d else Undecidable k) k ≡ k
    go true = refl
    go false = refl

verdict_from-names : (t : TailoringParts) (tag : ℕ) (payload : List ℕ) (os : List Opening) (k : ℕ) → named_by (verdict_from t tag payload os k) k ≡ k
verdict_from-names t tag payload [] k = refl
verdict_from-names t tag payload (o ∷ os) k = verdict_by-names (filter_map (explanation t tag payload) (common_states t (o ∷ os))) k

verdict_of-names : (t : TailoringParts) (tag : ℕ) (payload : List ℕ) (os : List Opening) → named_by (verdict_of t tag payload os) (named_request os) ≡ named_request os
verdict_of-names t tag payload [] = refl
verdict_of-names t tag payload (o ∷ os) = verdict_from-names t tag payload (filter (λ x. not (is_crowded t x)) (o ∷ os)) (named_request (o ∷ os))

-- a verdict over openings isn't that there is none
verdict_by-opened : (ds : List Definition) (k : ℕ) → verdict_by ds k ≢ NoOpening
verdict_by-opened [] k e = cc
verdict_by-opened (d ∷ ds) k e = go (list_all (definition_eq d) ds) e
  where
    go : (b : Bool) → (if b then Decided d else Undecidable k) ≢ NoOpening
    go true e = cc
    go false e = cc

verdict_from-opened : (t : TailoringParts) (tag : ℕ) (payload : List ℕ) (os : List Opening) (k : ℕ) → verdict_from t tag payload os k ≢ NoOpening
verdict_from-opened t tag payload [] k e = cc
verdict_from-opened t tag payload (o ∷ os) k e = verdict_by-opened (filter_map (explanation t tag payload) (common_states t (o ∷ os))) k e

pub no-opening : (t : TailoringParts) (tag : ℕ) (payload : List ℕ) (os : List Opening) → verdict_of t tag payload os ≡ NoOpening → os ≡ []
no-opening t tag payload [] e = refl
no-opening t tag payload (o ∷ os) e = absurd (verdict_from-opened t tag payload (filter (λ x. not (is_crowded t x)) (o ∷ os)) (named_request (o ∷ os)) e)

-- no other tag is greater than that of the latest opening
latest-greatest : (o : Opening) (os : List Opening) → AllByRecursion (λ x. x.tag ≤ (later_of o (latest os)).tag) (o ∷ os)
latest-greatest o [] = (omega arith, tt)
latest-greatest o (p ∷ os) = go (nat_lt (later_of p (latest os)).tag o.tag) refl (latest-greatest p os)
  where
    all-below : (a b : ℕ) (xs : List Opening) → a ≤ b → AllByRecursion (λ (x : Opening). x.tag ≤ a) xs → AllByRecursion (λ (x : Opening). x.tag ≤ b) xs
    all-below a b [] le h = tt
    all-below a b (x ∷ xs) le h = let here = h.0 in (omega (arith, here, le), all-below a b xs le h.1)

    go : (b : Bool) → nat_lt (later_of p (latest os)).tag o.tag ≡ b → AllByRecursion (λ (x : Opening). x.tag ≤ (later_of p (latest os)).tag) (p ∷ os)
        → AllByRecursion (λ (x : Opening). x.tag ≤ (if b then o else later_of p (latest os)).tag) (o ∷ p ∷ os)
    go true e h =
        let lt : (later_of p (latest os)).tag < o.tag = ltb-true (later_of p (latest os)).tag o.tag e in
        (omega arith, all-below (later_of p (latest os)).tag o.tag (p ∷ os) (omega (arith, lt)) h)
    go false e h = (ltb-false (later_of p (latest os)).tag o.tag e, h)

latest-in : (o : Opening) (os : List Opening) → IsIn (later_of o (latest os)) (o ∷ os)
latest-in o [] = inl refl
latest-in o (p ∷ os) = go (nat_lt (later_of p (latest os)).tag o.tag) (latest-in p os)
  where
    go : (b : Bool) → IsIn (later_of p (latest os)) (p ∷ os) → IsIn (if b then o else later_of p (latest os)) (o ∷ p ∷ os)
    go true i = inl refl
    go false i = inr i

-- the opening with the greatest tag, and the first of its open changes
pub record IsFirstOfLatest (os : List Opening) (k : ℕ) : Type 0 where
  pub opening : Opening
  pub inside : IsIn opening os
  pub greatest : AllByRecursion (λ o. o.tag ≤ opening.tag) os
  pub first : first_open opening ≡ Some k

first-of : (o : Opening) → list_any is_open o.requests ≡ true → (k : ℕ) × (first_open o ≡ Some k)
first-of o e = go (find is_open o.requests) refl
  where
    go : (f : Option Candidate) → find is_open o.requests ≡ f → (k : ℕ) × (option_map (λ (c : Candidate). c.number) f ≡ Some k)
    go (Some c) p = (c.number, refl)
    go None p = absurd (true≢false (sym e ∙ find-none is_open o.requests p))

open-each : (os : List Opening) (o : Opening) → list_any (λ x. not (list_any is_open x.requests)) os ≡ false → IsIn o os → list_any is_open o.requests ≡ true
open-each os o e i = go (list_any is_open o.requests) refl
  where
    go : (b : Bool) → list_any is_open o.requests ≡ b → b ≡ true
    go true p = refl
    go false p = absurd (true≢false (sym (list_any-IsIn (λ x. not (list_any is_open x.requests)) o os i (ap not p)) ∙ e))

-- where no opening is without an open change, what is named is the first of the latest opening
pub named-first : (t : TailoringParts) (tag : ℕ) (payload : List ℕ) (os : List Opening) (k : ℕ) → list_any (λ o. not (list_any is_open o.requests)) os ≡ false
    → named_by (verdict_of t tag payload os) (named_request os) ≡ k → verdict_of t tag payload os ≢ NoOpening → IsFirstOfLatest os k
named-first t tag payload [] k unsettled names opened = absurd (opened refl)
named-first t tag payload (o ∷ os) k unsettled names opened =
    let top : Opening = later_of o (latest os) in
    let inside : IsIn top (o ∷ os) = latest-in o os in
    let first = first-of top (open-each (o ∷ os) top unsettled inside) in
    let same : named_request (o ∷ os) ≡ first.0 = ap (λ (f : Option ℕ). unwrap_or f 0) first.1 in
    let is : first.0 ≡ k = sym same ∙ sym (verdict_of-names t tag payload (o ∷ os)) ∙ names in
    record { opening = top; inside = inside; greatest = latest-greatest o os; first = first.1 ∙ ap Some is }
