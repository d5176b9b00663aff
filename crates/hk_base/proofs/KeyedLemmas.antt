-- Parameters by their IDs.
use Rattle.std.proofs.Common.{◌≡◌, ℕ, false, eqb, List, [], ◌∷◌, ◌++◌, map, None, refl, sym, ap, subst, ◌∙◌, arith}
use Rattle.std.specs.Prelude.{find}
use Rattle.std.proofs.lemmas.Bool.Decides.{nat_tests}
use Rattle.std.specs.List.{IsDistinct, AllByRecursion}
use Rattle.std.specs.Map.{lookup}
use Rattle.std.specs.Vec.Iter.{into_iter_items, into_iter_steps}
use Rattle.std.specs.declared.vec.IntoIter.{IntoIter}
use Rattle.std.specs.Iterator.{Yields}
use Rattle.hk_base.specs.declared.types.Param.{Param}
use Rattle.indexmap.specs.IndexMap.{IndexMap, insert_entry}
use Rattle.indexmap.proofs.CallerLemmas.{insert_entry-new}
use Rattle.std.proofs.lemmas.List.{map_push}
use Rattle.hk_base.specs.Keyed.{keyed, IsKeyed}

eqb_turned : (m n : ℕ) → eqb m n ≡ eqb n m
eqb_turned m n = grind (arith, nat_tests)

-- a look-up by the ID finds the first parameter that has it
pub lookup-keyed : (params : List Param) (id : ℕ) → lookup (eqb id) (keyed params) ≡ find (λ (param : Param). eqb param.id id) params
lookup-keyed [] id = refl
lookup-keyed (param ∷ params) id = rw (eqb_turned id param.id, lookup-keyed params id) refl

at_seam : (P : ℕ → Type 0) (ys : List Param) (p : Param) (rest : List Param) → AllByRecursion P (map (λ (q : Param). q.id) (ys ++ p ∷ rest)) → P p.id
at_seam P [] p rest all = all.0
at_seam P (y ∷ ys) p rest all = at_seam P ys p rest all.1

-- an ID that comes once isn't among those before it
pub lookup-absent : (ys : List Param) (p : Param) (rest : List Param) → IsDistinct eqb (map (λ (q : Param). q.id) (ys ++ p ∷ rest)) → lookup (eqb p.id) (keyed ys) ≡ None
unfolding IsDistinct
lookup-absent [] p rest d = refl
lookup-absent (y ∷ ys) p rest d = rw (eqb_turned p.id y.id, at_seam (λ k. eqb y.id k ≡ false) ys p rest d.0) (lookup-absent ys p rest d.1)

-- what the iterator of a vector has given is a front of its items
pub taken_front : {X A : Type 0} (s : IntoIter X A) (xs : List X) (t : IntoIter X A) → Yields into_iter_steps s xs t → into_iter_items s ≡ xs ++ into_iter_items t
taken_front s [] t y = ap into_iter_items y
taken_front s (x ∷ xs) t y = y.1.0 ∙ ap (λ ys. x ∷ ys) (taken_front y.0 xs t y.2)

-- the next parameter goes last
pub insert_next : {S : Type 0} (m : IndexMap ℕ Param S) (all ys : List Param) (p : Param) (rest : List Param) → all ≡ ys ++ p ∷ rest → IsDistinct eqb (map (λ (q : Param). q.id) all) → m.entries ≡ keyed ys → insert_entry eqb m.entries p.id p ≡ keyed (ys ++ p ∷ [])
insert_next m all ys p rest e d same =
    let none = ap (λ es. lookup (eqb p.id) es) same ∙ lookup-absent ys p rest (subst (λ xs. IsDistinct eqb (map (λ (q : Param). q.id) xs)) e d) in
    insert_entry-new eqb m p.id p none ∙ (ap (λ es. es ++ (p.id, p) ∷ []) same ∙ sym (map_push (λ (q : Param). (q.id, q)) ys p))

values-keyed : (params : List Param) → map (λ (e : ℕ × Param). e.1) (keyed params) ≡ params
values-keyed [] = refl
values-keyed (param ∷ params) = ap (λ ps. param ∷ ps) (values-keyed params)

-- the values of such a map, in order
pub values_are : (entries : List (ℕ × Param)) (params : List Param) → entries ≡ keyed params → map (λ (e : ℕ × Param). e.1) entries ≡ params
values_are entries params e = ap (λ es. map (λ (e : ℕ × Param). e.1) es) e ∙ values-keyed params

pub keyed_is : (entries : List (ℕ × Param)) (params : List Param) → entries ≡ keyed params → IsKeyed entries
keyed_is entries params e = e ∙ ap keyed (sym (values_are entries params e))
