-- The states that are possible from each opening, one opening after the other.
use Rattle.std.proofs.Common.{arith, ◌≡◌, ◌≤◌, refl, sym, ◌∙◌, ap, subst, List, [], ◌∷◌, ◌++◌, Bool, true, false, ◌&&◌, Option, Some, None, IfSome, length, length-append, append-nil}
use Rattle.std.specs.Prelude.{not, filter, if◌then◌else◌}
use Rattle.std.specs.List.{list_any, list_all, IsDistinct, All, AllByRecursion}
use Rattle.std.proofs.lemmas.List.Elements.{filter-append, All-filter}
use Rattle.std.proofs.lemmas.List.Folds.{list_all-append}
use Rattle.std.proofs.lemmas.Map.Keys.{IsDistinct-cons, IsDistinct-head, IsDistinct-tail}
use Rattle.std.proofs.lemmas.Map.Made.{is_member-filter}
use Rattle.hk_base.specs.TailoringParts.{TailoringParts}
use Rattle.hk_base.specs.declared.types.Structure.{Structure}
use Rattle.definition_intervals.specs.Openings.{Opening}
use Rattle.definition_intervals.specs.States.{state_eq, states_from, is_possible_from, is_crowded}
use Rattle.definition_intervals.specs.Verdicts.{common_states}
use Rattle.definition_intervals.specs.Findings.{IsSetOf, AreFound, AreCommon, uncrowded_openings, shared_states, narrowed}
use Rattle.definition_intervals.proofs.EqualityLemmas.{state_eq-Decides}
use Rattle.definition_intervals.proofs.SetLemmas.{state_eq_laws}

-- a filter keeps states apart
filter-apart : (s : Option Structure) (test : Option Structure → Bool) (ss : List (Option Structure)) → AllByRecursion (λ x. state_eq s x ≡ false) ss → AllByRecursion (λ x. state_eq s x ≡ false) (filter test ss)
filter-apart s test [] h = tt
filter-apart s test (x ∷ ss) h = go (test x) (filter-apart s test ss h.1)
  where
    go : (b : Bool) → AllByRecursion (λ y. state_eq s y ≡ false) (filter test ss) → AllByRecursion (λ y. state_eq s y ≡ false) (if b then x ∷ filter test ss else filter test ss)
    go true rest = (h.0, rest)
    go false rest = rest

pub filter-once : (test : Option Structure → Bool) (ss : List (Option Structure)) → IsDistinct state_eq ss → IsDistinct state_eq (filter test ss)
filter-once test [] h = h
filter-once test (x ∷ ss) h = go (test x) (filter-once test ss (IsDistinct-tail state_eq x ss h))
  where
    go : (b : Bool) → IsDistinct state_eq (filter test ss) → IsDistinct state_eq (if b then x ∷ filter test ss else filter test ss)
    go true rest = IsDistinct-cons state_eq x (filter test ss) (filter-apart x test ss (IsDistinct-head state_eq x ss h)) rest
    go false rest = rest

pub filter-members : (test : Option Structure → Bool) (q : Option Structure) (ss : List (Option Structure)) → list_any (state_eq q) (filter test ss) ≡ (list_any (state_eq q) ss && test q)
filter-members test q ss = is_member-filter state_eq_laws test q (λ x e. ap test ((state_eq-Decides q x).0 e)) ss

-- a common state is one that is possible from each opening
pub common-members : (t : TailoringParts) (q : Option Structure) (o : Opening) (os : List Opening) → list_any (state_eq q) (common_states t (o ∷ os)) ≡ list_all (is_possible_from t q) (o ∷ os)
common-members t q o os = filter-members (λ state. list_all (is_possible_from t state) os) q (states_from t o)

and_true : (b : Bool) → (b && true) ≡ b
and_true true = refl
and_true false = refl

-- one more opening that isn't crowded
common-more : (t : TailoringParts) (os : List Opening) (o : Opening) (states found : List (Option Structure)) → 1 ≤ length os → IsSetOf states (common_states t os) → IsSetOf found (states_from t o)
    → IsSetOf (shared_states states found) (common_states t (os ++ o ∷ []))
common-more t [] o states found some h g = absurd (omega arith)
common-more t (x ∷ os) o states found some h g =
    record {
      once = filter-once (λ s. list_any (state_eq s) found) states h.once;
      members = λ q. filter-members (λ s. list_any (state_eq s) found) q states
          ∙ (ap (λ b. b && list_any (state_eq q) found) (h.members q ∙ common-members t q x os)
          ∙ (ap (λ b. list_all (is_possible_from t q) (x ∷ os) && b) (g.members q)
          ∙ sym (common-members t q x (os ++ o ∷ []) ∙ (list_all-append (is_possible_from t q) (x ∷ os) (o ∷ [])
          ∙ ap (λ b. list_all (is_possible_from t q) (x ∷ os) && b) (and_true (list_any (state_eq q) (states_from t o)))))));
    }

-- the first one
common-first : (t : TailoringParts) (o : Opening) (found : List (Option Structure)) → IsSetOf found (states_from t o) → IsSetOf found (common_states t (o ∷ []))
common-first t o found g =
    record { once = g.once; members = λ q. g.members q ∙ sym (common-members t q o [] ∙ and_true (list_any (state_eq q) (states_from t o))) }

uncrowded-one : (t : TailoringParts) (o : Opening) (b : Bool) → is_crowded t o ≡ b → uncrowded_openings t (o ∷ []) ≡ (if b then [] else o ∷ [])
uncrowded-one t o b e = ap (λ (c : Bool). if not c then o ∷ [] else []) e ∙ go b
  where
    go : (c : Bool) → (if not c then o ∷ [] else []) ≡ (if c then [] else o ∷ [])
    go true = refl
    go false = refl

uncrowded-more : (t : TailoringParts) (os : List Opening) (o : Opening) (b : Bool) → is_crowded t o ≡ b → uncrowded_openings t (os ++ o ∷ []) ≡ uncrowded_openings t os ++ (if b then [] else o ∷ [])
uncrowded-more t os o b e = filter-append (λ x. not (is_crowded t x)) os (o ∷ []) ∙ ap (λ l. uncrowded_openings t os ++ l) (uncrowded-one t o b e)

-- what the openings so far and one more leave
pub common-step : (t : TailoringParts) (os : List Opening) (o : Opening) (common found : Option (List (Option Structure))) → AreCommon t os common → AreFound t o found
    → AreCommon t (os ++ o ∷ []) (narrowed common found)
common-step t os o None None h g = uncrowded-more t os o true g ∙ (append-nil (uncrowded_openings t os) ∙ h)
common-step t os o (Some states) None h g =
    let same = uncrowded-more t os o true g ∙ append-nil (uncrowded_openings t os) in
    subst (λ l. (1 ≤ length l) × IsSetOf states (common_states t l)) (sym same) h
common-step t os o None (Some found) h g =
    let same = uncrowded-more t os o false g.0 ∙ ap (λ l. l ++ o ∷ []) h in
    subst (λ l. (1 ≤ length l) × IsSetOf found (common_states t l)) (sym same) (omega arith, common-first t o found g.1)
common-step t os o (Some states) (Some found) h g =
    subst (λ l. (1 ≤ length l) × IsSetOf (shared_states states found) (common_states t l)) (sym (uncrowded-more t os o false g.0))
    (longer (uncrowded_openings t os) h.0, common-more t (uncrowded_openings t os) o states found h.0 h.1 g.1)
  where
    longer : (l : List Opening) → 1 ≤ length l → 1 ≤ length (l ++ o ∷ [])
    longer l k = omega (arith, length-append l (o ∷ []))

-- what each state has that is left
pub narrowed-all : (P : Option Structure → Type 0) (common found : Option (List (Option Structure))) → IfSome common (All P) → IfSome found (All P) → IfSome (narrowed common found) (All P)
narrowed-all P None None h g = h
narrowed-all P (Some states) None h g = h
narrowed-all P None (Some found) h g = g
narrowed-all P (Some states) (Some found) h g = All-filter (λ s. list_any (state_eq s) found) P states h
