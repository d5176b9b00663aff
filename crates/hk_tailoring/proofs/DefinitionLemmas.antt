-- The parameter IDs and the arrays of a definition, one after the other.
use Rattle.std.proofs.Common.{◌≡◌, ℕ, zero, suc, ◌+◌, ◌%◌, ◌<◌, refl, ap, sym, subst, ◌∙◌, List, [], ◌∷◌, ◌++◌, length, take, drop, get_or, Option, Some, None, Bool, true, false, not, ◌||◌, ◌==◌, cond, IsTrue, ◌≤◌, arith, eqb-true}
use Rattle.std.specs.Prelude.{find, is_some, codes, pos}
use Rattle.std.specs.List.{list_any, AllByRecursion}
use Rattle.std.specs.Option.{option_or}
use Rattle.std.proofs.lemmas.List.{drop_more, take_more}
use Rattle.std.proofs.lemmas.List.Folds.{list_any-append}
use Rattle.std.proofs.Math.Bool.{or-false}
use Rattle.std.proofs.lemmas.Bool.{false≢true}
use Rattle.hk_base.specs.declared.types.Param.{Param}
use Rattle.hk_base.specs.declared.types.SuperList.{SuperList}
use Rattle.hk_base.specs.declared.types.Widths.{Widths}
use Rattle.hk_base.specs.declared.types.Definition.{Definition}
use Rattle.hk_base.specs.TailoringParts.{TailoringParts}
use Rattle.hk_base.specs.Definitions.{first_repeat, parameter_ids, IsArray, IsWellFormed}
use Rattle.hk_tailoring.specs.Sizes.{IsFitArray, IsFitDefinition}
use Rattle.hk_tailoring.specs.declared.fault.TailoringFault.{TailoringFault}
use Rattle.hk_tailoring.specs.declared.fault.TailoringFault.TheVariants.{OutOfRange, UnknownParam, Doubled, BadRepetition}
use Rattle.hk_tailoring.specs.Keys.{Section, path_of}
use Rattle.hk_tailoring.specs.Checks.{Check, first_fault}
use Rattle.hk_tailoring.specs.Structures.{id_checks, ids_checks, repetition_check, repetition_checks, some_check, is_empty_list}
use Rattle.hk_tailoring.proofs.CheckLemmas.{first_fault-append, stopped-here, passed-here}

-- the first ID of those that are left, and those after it
pub ids_checks-step : (params : List Param) (ids : List ℕ) (i : ℕ) → i < length ids
    → ids_checks params (take i ids) (drop i ids)
    ≡ id_checks params (take i ids) (get_or ids i 0) ++ ids_checks params (take (i + 1) ids) (drop (i + 1) ids)
ids_checks-step params ids i h =
    ap (λ xs. ids_checks params (take i ids) xs) (drop_more ids i 0 h)
    ∙ ap (λ earlier. id_checks params (take i ids) (get_or ids i 0) ++ ids_checks params earlier (drop (i + 1) ids)) (sym (take_more ids i 0 h))

-- the checks of the IDs that are left have the first fault of all
abbrev pub SameFault : List Param → List ℕ → ℕ → Type 0
SameFault params ids i = first_fault (ids_checks params (take i ids) (drop i ids)) ≡ first_fault (ids_checks params [] ids)

-- an ID's fault is the first of all
pub id-stopped : (params : List Param) (ids : List ℕ) (i : ℕ) (fault : TailoringFault) → SameFault params ids i → i < length ids
    → first_fault (id_checks params (take i ids) (get_or ids i 0)) ≡ Some fault → first_fault (ids_checks params [] ids) ≡ Some fault
id-stopped params ids i fault same h found =
    stopped-here (ids_checks params [] ids) (ids_checks params (take i ids) (drop i ids)) (id_checks params (take i ids) (get_or ids i 0))
    (ids_checks params (take (i + 1) ids) (drop (i + 1) ids)) fault same (ids_checks-step params ids i h) found

-- an ID whose checks are met is passed by
pub id-passed : (params : List Param) (ids : List ℕ) (i : ℕ) → SameFault params ids i → i < length ids
    → first_fault (id_checks params (take i ids) (get_or ids i 0)) ≡ None → SameFault params ids (i + 1)
id-passed params ids i same h met =
    passed-here (ids_checks params [] ids) (ids_checks params (take i ids) (drop i ids)) (id_checks params (take i ids) (get_or ids i 0))
    (ids_checks params (take (i + 1) ids) (drop (i + 1) ids)) same (ids_checks-step params ids i h) met

-- an array whose repetition number divides the interval is passed by
pub repetition-passed : (interval : ℕ) (arrays : List SuperList) (i : ℕ) (a : SuperList) → a ≡ get_or arrays i a → i < length arrays
    → interval % a.repetition ≡ 0
    → first_fault (repetition_checks interval (drop i arrays)) ≡ first_fault (repetition_checks interval arrays)
    → first_fault (repetition_checks interval (drop (i + 1) arrays)) ≡ first_fault (repetition_checks interval arrays)
repetition-passed interval arrays i a e h divides same =
    passed-here (repetition_checks interval arrays) (repetition_checks interval (drop i arrays)) (repetition_check interval a ∷ [])
    (repetition_checks interval (drop (i + 1) arrays)) same
    (ap (λ xs. repetition_checks interval xs) (drop_more arrays i a h ∙ ap (λ x. x ∷ drop (i + 1) arrays) (sym e)))
    (ap (λ n. cond (n == 0) None (Some (BadRepetition a.repetition interval))) divides)

-- all of two lists of checks are met
pub none-parts : (a b : List Check) → first_fault (a ++ b) ≡ None → (first_fault a ≡ None) × (first_fault b ≡ None)
none-parts a b none = go (first_fault a) (sym (first_fault-append a b) ∙ none)
  where
    go : (o : Option TailoringFault) → option_or o (first_fault b) ≡ None → (o ≡ None) × (first_fault b ≡ None)
    go None h = (refl, h)
    go (Some f) h = cc

-- a check that is met
met-from : (fault : TailoringFault) (met : Bool) (rest : Option TailoringFault) → cond met rest (Some fault) ≡ None → (met ≡ true) × (rest ≡ None)
met-from fault true rest h = (refl, h)
met-from fault false rest h = cc

-- what passes a test is found
found-any : {X : Type 0} (test : X → Bool) (xs : List X) → list_any test xs ≡ true → is_some (find test xs) ≡ true
found-any test [] h = cc
found-any test (x ∷ xs) h = go (test x) h (λ e. found-any test xs e)
  where
    go : (b : Bool) → (b || list_any test xs) ≡ true → (list_any test xs ≡ true → is_some (find test xs) ≡ true) → is_some (cond b (Some x) (find test xs)) ≡ true
    go true e rest = refl
    go false e rest = rest e

-- IDs whose checks are met are known
pub known-from : (params : List Param) (earlier ids : List ℕ) → first_fault (ids_checks params earlier ids) ≡ None
    → AllByRecursion (λ id. IsTrue (is_some (find (λ p. p.id == id) params))) ids
unfolding id_checks
known-from params earlier [] none = tt
known-from params earlier (id ∷ ids) none =
    let parts = none-parts (id_checks params earlier id) (ids_checks params (earlier ++ id ∷ []) ids) none in
    let known = met-from (UnknownParam id) (list_any (λ p. p.id == id) params) _ parts.0 in
    (found-any (λ p. p.id == id) params known.0, known-from params (earlier ++ id ∷ []) ids parts.1)

not-true : (b : Bool) → not b ≡ true → b ≡ false
not-true true h = cc
not-true false h = refl

or-swap : (a b : Bool) → (a || b) ≡ (b || a)
or-swap true true = refl
or-swap true false = refl
or-swap false true = refl
or-swap false false = refl

-- whether a number is 0, by a test
pub some-by : (n : ℕ) (b : Bool) → b ≡ (n == 0) → b ≡ false → 0 < n
some-by zero b test h = absurd (false≢true (sym h ∙ test))
some-by (suc n) b test h = omega arith

pub none-by : (n : ℕ) (b : Bool) → b ≡ (n == 0) → b ≡ true → n ≡ 0
none-by n b test h = eqb-true n 0 (sym test ∙ h)

-- IDs whose checks are met don't stand twice
pub once-from : (params : List Param) (earlier before ids : List ℕ)
    → ((x : ℕ) → list_any (λ e. e == x) before ≡ list_any (λ e. e == x) earlier)
    → first_fault (ids_checks params earlier ids) ≡ None → first_repeat before ids ≡ None
unfolding id_checks
once-from params earlier before [] same none = refl
once-from params earlier before (id ∷ ids) same none =
    let parts = none-parts (id_checks params earlier id) (ids_checks params (earlier ++ id ∷ []) ids) none in
    let known = met-from (UnknownParam id) (list_any (λ p. p.id == id) params) _ parts.0 in
    let new = met-from (Doubled id) (not (list_any (λ e. e == id) earlier)) _ known.1 in
    let absent : list_any (λ e. e == id) before ≡ false = same id ∙ not-true (list_any (λ e. e == id) earlier) new.0 in
    ap (λ b. cond b (Some id) (first_repeat (id ∷ before) ids)) absent
    ∙ once-from params (earlier ++ id ∷ []) (id ∷ before) ids
    (λ x.
    or-swap (id == x) (list_any (λ e. e == x) before)
    ∙ (ap (λ b. b || (id == x)) (same x) ∙ (ap (λ b. list_any (λ e. e == x) earlier || b) (sym (or-false (id == x))) ∙ sym (list_any-append (λ e. e == x) earlier (id ∷ [])))))
    parts.1

-- arrays whose repetition numbers divide the interval
pub arrays-from : (t : TailoringParts) (interval : ℕ) (arrays : List SuperList) → AllByRecursion (IsFitArray t.widths) arrays
    → first_fault (repetition_checks interval arrays) ≡ None → AllByRecursion (IsArray t interval) arrays
arrays-from t interval [] fit none = tt
arrays-from t interval (a ∷ arrays) fit none =
    let here = met-from (BadRepetition a.repetition interval) (interval % a.repetition == 0) _ none in (
      record {
        members = fit.0.members;
        few = fit.0.few;
        repeated = fit.0.repeated;
        field = fit.0.field;
        divides = eqb-true (interval % a.repetition) 0 here.0;
      },
      arrays-from t interval arrays fit.1 here.1,
    )

-- repetition numbers are 1 or more
pub positive-from : (w : Widths) (arrays : List SuperList) → AllByRecursion (IsFitArray w) arrays → AllByRecursion (λ a. 1 ≤ a.repetition) arrays
positive-from w [] fit = tt
positive-from w (a ∷ arrays) fit = (fit.0.repeated, positive-from w arrays fit.1)

-- a list with a member
some-from : (ids : List ℕ) → 0 < length ids → 1 ≤ length ids
some-from ids h = omega arith

-- a definition whose checks are met is well formed
pub well-formed : (t : TailoringParts) (d : Definition) → IsFitDefinition t.widths d → 0 < length (parameter_ids d)
    → first_fault (ids_checks t.params [] (parameter_ids d)) ≡ None → first_fault (repetition_checks d.interval d.arrays) ≡ None
    → IsWellFormed t d
well-formed t d fit some ids repetitions =
    record {
      interval = fit.interval;
      some = some-from (parameter_ids d) some;
      known = known-from t.params [] (parameter_ids d) ids;
      once = once-from t.params [] [] (parameter_ids d) (λ x. refl) ids;
      simple = fit.simple;
      few_arrays = fit.few_arrays;
      arrays = arrays-from t d.interval d.arrays fit.arrays repetitions;
    }

-- a definition with a parameter, or without one
pub some-checked : (s : Section) (d : Definition) (ids : List ℕ) → ids ≡ parameter_ids d → 0 < length ids → first_fault (some_check s d ∷ []) ≡ None
some-checked s d ids same h = go (parameter_ids d) (subst (λ xs. 0 < length xs) same h)
  where
    go : (xs : List ℕ) → 0 < length xs → cond (not (is_empty_list xs)) None (Some (OutOfRange (path_of s (codes "simple")) (pos 0))) ≡ None
    go [] h = absurd (omega arith)
    go (x ∷ xs) h = refl

-- a definition without a parameter
pub none-checked : (s : Section) (d : Definition) (ids : List ℕ) (rest : List Check) → ids ≡ parameter_ids d → length ids ≡ 0
    → first_fault (some_check s d ∷ [] ++ rest) ≡ Some (OutOfRange (path_of s (codes "simple")) (pos 0))
none-checked s d ids rest same h = go (parameter_ids d) (subst (λ xs. length xs ≡ 0) same h)
  where
    go : (xs : List ℕ) → length xs ≡ 0
        → cond (not (is_empty_list xs)) (first_fault rest) (Some (OutOfRange (path_of s (codes "simple")) (pos 0))) ≡ Some (OutOfRange (path_of s (codes "simple")) (pos 0))
    go [] h = refl
    go (x ∷ xs) h = absurd (omega arith)
