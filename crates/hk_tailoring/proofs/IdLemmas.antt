-- Sets of parameter IDs, and the checks that ask them.
use Rattle.std.proofs.Common.{◌≡◌, ℕ, refl, ap, sym, ◌∙◌, List, [], ◌∷◌, ◌++◌, Some, None, Bool, true, false, not, cond, ◌||◌, ◌==◌}
use Rattle.std.specs.List.{list_any}
use Rattle.std.specs.BTreeMap.{is_at}
use Rattle.std.specs.Ordering.{nat_cmp}
use Rattle.std.specs.Cmp.{unsigned_tied, nat_eq_equiv}
use Rattle.std.proofs.lemmas.List.Folds.{list_any-append}
use Rattle.std.proofs.Math.Bool.{or-false}
use Rattle.hk_base.specs.declared.types.Param.{Param}
use Rattle.hk_tailoring.specs.declared.fault.TailoringFault.TheVariants.{UnknownParam, Doubled}
use Rattle.hk_tailoring.specs.Checks.{first_fault}
use Rattle.hk_tailoring.specs.Ids.{has_id, AreSame, AreIdsOf}
use Rattle.hk_tailoring.specs.Structures.{id_checks}

-- what an ordered set answers
pub ordered-has : (id : ℕ) (ids : List ℕ) → list_any (is_at (nat_cmp id)) ids ≡ has_id ids id
ordered-has id [] = refl
ordered-has id (k ∷ ids) =
    ap (λ b. b || list_any (is_at (nat_cmp id)) ids) (unsigned_tied id k ∙ nat_eq_equiv.symm id k) ∙ ap (λ b. k == id || b) (ordered-has id ids)

cond-or : (a b : Bool) → cond a true b ≡ (a || b)
cond-or true b = refl
cond-or false b = refl

-- an ordered set after an ID was put in
pub ordered-added : (old new : List ℕ) (id : ℕ)
    → ((q : ℕ) → list_any (is_at (nat_cmp q)) new ≡ cond (is_at (nat_cmp id) q) true (list_any (is_at (nat_cmp q)) old))
    → (x : ℕ) → has_id new x ≡ (id == x || has_id old x)
ordered-added old new id updates x =
    sym (ordered-has x new)
    ∙ (updates x
    ∙ (ap (λ b. cond b true (list_any (is_at (nat_cmp x)) old)) (unsigned_tied id x) ∙ (ap (λ b. cond (id == x) true b) (ordered-has x old) ∙ cond-or (id == x) (has_id old x))))

or-swap : (a b : Bool) → (a || b) ≡ (b || a)
or-swap true true = refl
or-swap true false = refl
or-swap false true = refl
or-swap false false = refl

-- one more member, of any kind, that has the ID
pub one-more : {X : Type 0} (key : X → ℕ) (xs : List X) (x : X) (old new : List ℕ) → ((id : ℕ) → has_id old id ≡ list_any (λ e. key e == id) xs)
    → ((id : ℕ) → has_id new id ≡ (key x == id || has_id old id))
    → (id : ℕ) → has_id new id ≡ list_any (λ e. key e == id) (xs ++ x ∷ [])
one-more key xs x old new before added id =
    added id
    ∙ (ap (λ b. key x == id || b) (before id)
    ∙ (or-swap (key x == id) (list_any (λ e. key e == id) xs)
    ∙ (ap (λ b. list_any (λ e. key e == id) xs || b) (sym (or-false (key x == id))) ∙ sym (list_any-append (λ e. key e == id) xs (x ∷ [])))))

-- an ID that no parameter has
pub id-unknown : (params : List Param) (ids known : List ℕ) (id : ℕ) → AreIdsOf params known → has_id known id ≡ false
    → first_fault (id_checks params ids id) ≡ Some (UnknownParam id)
unfolding id_checks
id-unknown params ids known id are none =
    ap (λ b. cond b (cond (not (has_id ids id)) None (Some (Doubled id))) (Some (UnknownParam id))) (sym (are id) ∙ none)

-- an ID that came before
pub id-doubled : (params : List Param) (ids known earlier : List ℕ) (id : ℕ) → AreIdsOf params known → has_id known id ≡ true → AreSame earlier ids
    → has_id earlier id ≡ true → first_fault (id_checks params ids id) ≡ Some (Doubled id)
unfolding id_checks
id-doubled params ids known earlier id are known_id same found =
    ap (λ b. cond b (cond (not (has_id ids id)) None (Some (Doubled id))) (Some (UnknownParam id))) (sym (are id) ∙ known_id)
    ∙ ap (λ b. cond (not b) None (Some (Doubled id))) (sym (same id) ∙ found)

-- an ID that is known, and new
pub id-met : (params : List Param) (ids known earlier : List ℕ) (id : ℕ) → AreIdsOf params known → has_id known id ≡ true → AreSame earlier ids
    → has_id earlier id ≡ false → first_fault (id_checks params ids id) ≡ None
unfolding id_checks
id-met params ids known earlier id are known_id same found =
    ap (λ b. cond b (cond (not (has_id ids id)) None (Some (Doubled id))) (Some (UnknownParam id))) (sym (are id) ∙ known_id)
    ∙ ap (λ b. cond (not b) None (Some (Doubled id))) (sym (same id) ∙ found)

-- whether a test that was turned round fails
pub untrue : (a b : Bool) → b ≡ not a → b ≡ false → a ≡ true
untrue true b is h = refl
untrue false b is h = cc

pub unfalse : (a b : Bool) → b ≡ not a → b ≡ true → a ≡ false
unfalse true b is h = cc
unfalse false b is h = refl
