-- A verdict goes by which definitions remain, in whatever order.
use Rattle.std.proofs.Common.{arith, ◌≡◌, ℕ, suc, ◌+◌, ◌<◌, ◌≤◌, add-one, drop, get_or, drop-cons, refl, sym, ◌∙◌, ap, List, [], ◌∷◌, Bool, true, false, ◌&&◌, inl, inr, Option, Some, None, length}
use Rattle.std.specs.Prelude.{filter_map, if◌then◌else◌}
use Rattle.std.specs.List.{cons_option, list_all}
use Rattle.std.proofs.lemmas.Bool.{both_ways, and_left}
use Rattle.hk_base.specs.TailoringParts.{TailoringParts}
use Rattle.hk_base.specs.declared.types.Definition.{Definition}
use Rattle.hk_base.specs.declared.types.Structure.{Structure}
use Rattle.hk_base.proofs.Membership.{IsIn, IsIn-filter_map, filter_map-IsIn, list_all-IsIn, IsIn-list_all}
use Rattle.definition_intervals.specs.Openings.{Opening}
use Rattle.definition_intervals.specs.States.{definition_eq}
use Rattle.definition_intervals.specs.Verdicts.{named_request, common_states, explanation, verdict_by, verdict_from, verdict_of}
use Rattle.definition_intervals.specs.Findings.{IsSetOf, AreCommon, uncrowded_openings, is_agreed}
use Rattle.definition_intervals.specs.declared.answer.Verdict.{Verdict}
use Rattle.definition_intervals.specs.declared.answer.Verdict.TheVariants.{Decided, Undecidable, Crowded}
use Rattle.definition_intervals.proofs.EqualityLemmas.{definition_eq-Decides}
use Rattle.definition_intervals.proofs.SetLemmas.{same-IsIn}

-- all are the first one
all-first : (d x : Definition) (ds : List Definition) → list_all (definition_eq d) ds ≡ true → IsIn x (d ∷ ds) → x ≡ d
all-first d x ds e (inl p) = p
all-first d x ds e (inr i) = sym ((definition_eq-Decides d x).0 (list_all-IsIn (definition_eq d) x ds e i))

first-all : (d : Definition) (ds : List Definition) → ((x : Definition) → IsIn x ds → x ≡ d) → list_all (definition_eq d) ds ≡ true
first-all d ds h = IsIn-list_all (definition_eq d) ds (λ x i. (definition_eq-Decides d x).1 (sym (h x i)))

-- where all of one list are its first, so are all of a list without others
one_definition : (a b : Definition) (as' bs : List Definition) → ((x : Definition) → IsIn x (b ∷ bs) → IsIn x (a ∷ as')) → list_all (definition_eq a) as' ≡ true
    → (b ≡ a) × (list_all (definition_eq b) bs ≡ true)
one_definition a b as' bs within e =
    let same : b ≡ a = all-first a b as' e (within b (inl refl)) in
    (same, first-all b bs (λ x i. all-first a x as' e (within x (inr i)) ∙ sym same))

verdict_by-same : (as' bs : List Definition) (k : ℕ) → ((x : Definition) → IsIn x as' → IsIn x bs) → ((x : Definition) → IsIn x bs → IsIn x as') → verdict_by as' k ≡ verdict_by bs k
verdict_by-same [] [] k f g = refl
verdict_by-same [] (b ∷ bs) k f g = absurd (g b (inl refl))
verdict_by-same (a ∷ as') [] k f g = absurd (f a (inl refl))
verdict_by-same (a ∷ as') (b ∷ bs) k f g = go (list_all (definition_eq a) as') (list_all (definition_eq b) bs) refl refl
  where
    go : (x y : Bool) → list_all (definition_eq a) as' ≡ x → list_all (definition_eq b) bs ≡ y → (if x then Decided a else Undecidable k) ≡ (if y then Decided b else Undecidable k)
    go true true e h = ap Decided (sym (one_definition a b as' bs g e).0)
    go true false e h = absurd (both_ways (list_all (definition_eq b) bs) h (one_definition a b as' bs g e).1)
    go false true e h = absurd (both_ways (list_all (definition_eq a) as') e (one_definition b a bs as' f h).1)
    go false false e h = refl

-- the definitions of states that have the members of others
explained : (explain : Option Structure → Option Definition) (xs ys : List (Option Structure)) → ((s : Option Structure) → IsIn s xs → IsIn s ys) → (d : Definition)
    → IsIn d (filter_map explain xs) → IsIn d (filter_map explain ys)
explained explain xs ys within d i =
    let r = IsIn-filter_map explain d xs i in
    filter_map-IsIn explain r.0 d ys (within r.0 r.1) r.2

pub verdict_by-states : (explain : Option Structure → Option Definition) (states all : List (Option Structure)) (k : ℕ) → IsSetOf states all
    → verdict_by (filter_map explain states) k ≡ verdict_by (filter_map explain all) k
verdict_by-states explain states all k h =
    verdict_by-same (filter_map explain states) (filter_map explain all) k
    (λ d i. explained explain states all (λ s j. same-IsIn s states all h.members j) d i)
    (λ d i. explained explain all states (λ s j. same-IsIn s all states (λ q. sym (h.members q)) j) d i)

-- the verdict from the openings that aren't crowded
from_uncrowded : (t : TailoringParts) (tag : ℕ) (payload : List ℕ) (os : List Opening) (k : ℕ) → 1 ≤ length os
    → verdict_from t tag payload os k ≡ verdict_by (filter_map (explanation t tag payload) (common_states t os)) k
from_uncrowded t tag payload [] k h = absurd (omega arith)
from_uncrowded t tag payload (o ∷ os) k h = refl

verdict-from : (t : TailoringParts) (tag : ℕ) (payload : List ℕ) (os : List Opening) → 1 ≤ length os → verdict_of t tag payload os ≡ verdict_from t tag payload (uncrowded_openings t os) (named_request os)
verdict-from t tag payload [] h = absurd (omega arith)
verdict-from t tag payload (o ∷ os) h = refl

pub verdict-common : (t : TailoringParts) (tag : ℕ) (payload : List ℕ) (os : List Opening) (states : List (Option Structure)) → 1 ≤ length os → AreCommon t os (Some states)
    → verdict_by (filter_map (explanation t tag payload) states) (named_request os) ≡ verdict_of t tag payload os
verdict-common t tag payload os states some h =
    verdict_by-states (explanation t tag payload) states (common_states t (uncrowded_openings t os)) (named_request os) h.1
    ∙ sym (verdict-from t tag payload os some ∙ from_uncrowded t tag payload (uncrowded_openings t os) (named_request os) h.0)

pub verdict-crowded : (t : TailoringParts) (tag : ℕ) (payload : List ℕ) (os : List Opening) → 1 ≤ length os → AreCommon t os None → Crowded (named_request os) ≡ verdict_of t tag payload os
verdict-crowded t tag payload os some h =
    sym (verdict-from t tag payload os some ∙ ap (λ (l : List Opening). verdict_from t tag payload l (named_request os)) h)

-- one more definition that is the one so far, or another one
pub agreed-more : (only : Option Definition) (d : Definition) (ds : List Definition) (k : ℕ) → is_agreed only d ≡ true → verdict_by (cons_option only (d ∷ ds)) k ≡ verdict_by (d ∷ ds) k
agreed-more None d ds k e = refl
agreed-more (Some f) d ds k e =
    let same : f ≡ d = (definition_eq-Decides f d).0 e in
    ap (λ b. if b && list_all (definition_eq f) ds then Decided f else Undecidable k) e ∙ ap (λ x. if list_all (definition_eq x) ds then Decided x else Undecidable k) same

pub disagreed : (only : Option Definition) (d : Definition) (ds : List Definition) (k : ℕ) → is_agreed only d ≡ false → verdict_by (cons_option only (d ∷ ds)) k ≡ Undecidable k
disagreed None d ds k e = absurd (both_ways true e refl)
disagreed (Some f) d ds k e = ap (λ b. if b then Decided f else Undecidable k) (and_left (definition_eq f d) (list_all (definition_eq f) ds) e)

-- what is left from a state on
rest-from : (explain : Option Structure → Option Definition) (ss : List (Option Structure)) (i : ℕ) (s : Option Structure) → i < length ss → s ≡ get_or ss i s
    → filter_map explain (drop i ss) ≡ cons_option (explain s) (filter_map explain (drop (i + 1) ss))
rest-from explain ss i s l e =
    ap (λ xs. filter_map explain xs) (drop-cons ss i s l ∙ ap (λ x. x ∷ drop (suc i) ss) (sym e))
    ∙ ap (λ n. cons_option (explain s) (filter_map explain (drop n ss))) (sym (add-one i))

-- a state that explains nothing, one that agrees, and one that doesn't
pub unexplained-step : (explain : Option Structure → Option Definition) (ss : List (Option Structure)) (i : ℕ) (s : Option Structure) (only : Option Definition) (k : ℕ) (v : Verdict)
    → i < length ss → s ≡ get_or ss i s → explain s ≡ None → verdict_by (cons_option only (filter_map explain (drop i ss))) k ≡ v
    → verdict_by (cons_option only (filter_map explain (drop (i + 1) ss))) k ≡ v
unexplained-step explain ss i s only k v l e none h =
    let rest = filter_map explain (drop (i + 1) ss) in
    sym (ap (λ xs. verdict_by (cons_option only xs) k) (rest-from explain ss i s l e ∙ ap (λ (o : Option Definition). cons_option o rest) none)) ∙ h

pub agreed-step : (explain : Option Structure → Option Definition) (ss : List (Option Structure)) (i : ℕ) (s : Option Structure) (only : Option Definition) (d : Definition) (k : ℕ) (v : Verdict)
    → i < length ss → s ≡ get_or ss i s → explain s ≡ Some d → is_agreed only d ≡ true → verdict_by (cons_option only (filter_map explain (drop i ss))) k ≡ v
    → verdict_by (cons_option (Some d) (filter_map explain (drop (i + 1) ss))) k ≡ v
agreed-step explain ss i s only d k v l e some agrees h =
    let rest = filter_map explain (drop (i + 1) ss) in
    sym (ap (λ xs. verdict_by (cons_option only xs) k) (rest-from explain ss i s l e ∙ ap (λ (o : Option Definition). cons_option o rest) some) ∙ agreed-more only d rest k agrees) ∙ h

pub disagreed-step : (explain : Option Structure → Option Definition) (ss : List (Option Structure)) (i : ℕ) (s : Option Structure) (only : Option Definition) (d : Definition) (k : ℕ) (v : Verdict)
    → i < length ss → s ≡ get_or ss i s → explain s ≡ Some d → is_agreed only d ≡ false → verdict_by (cons_option only (filter_map explain (drop i ss))) k ≡ v
    → Undecidable k ≡ v
disagreed-step explain ss i s only d k v l e some differs h =
    let rest = filter_map explain (drop (i + 1) ss) in
    sym (ap (λ xs. verdict_by (cons_option only xs) k) (rest-from explain ss i s l e ∙ ap (λ (o : Option Definition). cons_option o rest) some) ∙ disagreed only d rest k differs) ∙ h
