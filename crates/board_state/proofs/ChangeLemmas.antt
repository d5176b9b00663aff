-- A parameter that is changed in its place.
use Rattle.std.proofs.Common.{◌≡◌, ℕ, zero, suc, ◌+◌, take, drop, refl, sym, ◌∙◌, ap, ap₂, subst, List, [], ◌∷◌, ◌++◌, map, cond, Bool, true, false, ◌==◌, Option, Some, None, arith}
use Rattle.std.specs.Prelude.{nat_eq, slice_get}
use Rattle.std.specs.List.{AllByRecursion, IsDistinct}
use Rattle.std.specs.Map.{lookup, set_value}
use Rattle.std.proofs.lemmas.Bool.Decides.{Decides-eqb, nat_tests}
use Rattle.std.proofs.lemmas.List.{map_push}
use Rattle.std.proofs.lemmas.Option.{same_Some, none-some}
use Rattle.indexmap.specs.IndexMap.{IndexMap, insert_entry}
use Rattle.indexmap.proofs.CallerLemmas.{insert_entry-new}
use Rattle.hk_base.specs.TailoringParts.{TailoringParts}
use Rattle.hk_base.specs.declared.types.Param.{Param}
use Rattle.board_state.specs.Values.{channel_at, change_channel, new_channel}
use Rattle.board_state.specs.declared.channels.Channel.{Channel}

-- no other parameter has an ID
others-same : (id : ℕ) (f : Channel → Channel) (es : List (ℕ × Channel)) → AllByRecursion (λ k. nat_eq id k ≡ false) (map (λ e. e.0) es) → change_channel id f es ≡ es
others-same id f [] h = refl
others-same id f (e ∷ es) h = ap₂ (λ b (xs : List (ℕ × Channel)). cond b (e.0, f e.1) e ∷ xs) h.0 (others-same id f es h.1)

pub changed-in-place : (id : ℕ) (f : Channel → Channel) (es : List (ℕ × Channel)) (c : Channel) → IsDistinct nat_eq (map (λ e. e.0) es)
    → channel_at es id ≡ Some c → set_value (λ k. id == k) es (f c) ≡ change_channel id f es
unfolding IsDistinct
changed-in-place id f [] c d e = absurd (none-some c e)
changed-in-place id f (x ∷ es) c d e = go (id == x.0) refl e (λ h. changed-in-place id f es c d.1 h)
  where
    go : (b : Bool) → (id == x.0) ≡ b → cond b (Some x.1) (channel_at es id) ≡ Some c
        → (channel_at es id ≡ Some c → set_value (λ k. id == k) es (f c) ≡ change_channel id f es)
        → set_value (λ k. id == k) (x ∷ es) (f c) ≡ change_channel id f (x ∷ es)
    go true q h rest =
        let same : x.0 ≡ id = sym ((Decides-eqb id x.0).0 q) in
        let none = subst (λ n. AllByRecursion (λ k. nat_eq n k ≡ false) (map (λ (y : ℕ × Channel). y.0) es)) same d.0 in
        ap (λ b. cond b ((x.0, f c) ∷ es) (x ∷ set_value (λ k. id == k) es (f c))) q
        ∙ ap₂ (λ (y : Channel) (xs : List (ℕ × Channel)). (x.0, f y) ∷ xs) (sym (same_Some x.1 c h)) (sym (others-same id f es none))
        ∙ ap (λ b. cond b (x.0, f x.1) x ∷ change_channel id f es) (sym q)
    go false q h rest =
        ap (λ b. cond b ((x.0, f c) ∷ es) (x ∷ set_value (λ k. id == k) es (f c))) q
        ∙ ap (λ (xs : List (ℕ × Channel)). x ∷ xs) (rest h)
        ∙ ap (λ b. cond b (x.0, f x.1) x ∷ change_channel id f es) (sym q)

-- where no parameter has an ID, none is changed
pub absent-same : (id : ℕ) (f : Channel → Channel) (es : List (ℕ × Channel)) → channel_at es id ≡ None → change_channel id f es ≡ es
absent-same id f [] e = refl
absent-same id f (x ∷ es) e = go (id == x.0) refl e (λ h. absent-same id f es h)
  where
    go : (b : Bool) → (id == x.0) ≡ b → cond b (Some x.1) (channel_at es id) ≡ None → (channel_at es id ≡ None → change_channel id f es ≡ es)
        → change_channel id f (x ∷ es) ≡ x ∷ es
    go true q h rest = absurd (none-some x.1 (sym h))
    go false q h rest = ap₂ (λ b (xs : List (ℕ × Channel)). cond b (x.0, f x.1) x ∷ xs) q (rest h)

eqb-turned : (m n : ℕ) → (m == n) ≡ (n == m)
eqb-turned m n = grind (arith, nat_tests)

at-seam : (P : ℕ → Type 0) (ys : List Param) (p : Param) (rest : List Param) → AllByRecursion P (map (λ (q : Param). q.id) (ys ++ p ∷ rest)) → P p.id
at-seam P [] p rest all = all.0
at-seam P (y ∷ ys) p rest all = at-seam P ys p rest all.1

-- an ID that comes once isn't among those before it
absent-new : (t : TailoringParts) (ys : List Param) (p : Param) (rest : List Param) → IsDistinct nat_eq (map (λ (q : Param). q.id) (ys ++ p ∷ rest))
    → channel_at (map (new_channel t) ys) p.id ≡ None
unfolding IsDistinct
absent-new t [] p rest d = refl
absent-new t (y ∷ ys) p rest d =
    ap (λ b. cond b (Some (new_channel t y).1) (channel_at (map (new_channel t) ys) p.id)) (eqb-turned p.id y.id ∙ at-seam (λ k. nat_eq y.id k ≡ false) ys p rest d.0)
    ∙ absent-new t ys p rest d.1

split-at : (xs : List Param) (n : ℕ) (x : Param) → slice_get xs n ≡ Some x → xs ≡ take n xs ++ x ∷ drop (suc n) xs
split-at [] n x e = absurd (none-some x e)
split-at (y ∷ xs) zero x e = ap (λ (z : Param). z ∷ xs) (same_Some y x e)
split-at (y ∷ xs) (suc n) x e = ap (λ (zs : List Param). y ∷ zs) (split-at xs n x e)

take-next : (xs : List Param) (n : ℕ) (x : Param) → slice_get xs n ≡ Some x → take (suc n) xs ≡ take n xs ++ x ∷ []
take-next [] n x e = absurd (none-some x e)
take-next (y ∷ xs) zero x e = ap (λ (z : Param). z ∷ []) (same_Some y x e)
take-next (y ∷ xs) (suc n) x e = ap (λ (zs : List Param). y ∷ zs) (take-next xs n x e)

-- the parameter with the next number goes last
pub next-channel : {S : Type 0} (t : TailoringParts) (m : IndexMap ℕ Channel S) (n : ℕ) (p : Param) → IsDistinct nat_eq (map (λ (q : Param). q.id) t.params)
    → slice_get t.params n ≡ Some p → m.entries ≡ map (new_channel t) (take n t.params)
    → insert_entry nat_eq m.entries p.id (new_channel t p).1 ≡ map (new_channel t) (take (n + 1) t.params)
next-channel t m n p d at e =
    let apart = subst (λ xs. IsDistinct nat_eq (map (λ (q : Param). q.id) xs)) (split-at t.params n p at) d in
    let none : channel_at m.entries p.id ≡ None = ap (λ es. channel_at es p.id) e ∙ absent-new t (take n t.params) p (drop (suc n) t.params) apart in
    let one : suc n ≡ n + 1 = omega arith in
    insert_entry-new nat_eq m p.id (new_channel t p).1 none
    ∙ ap (λ es. es ++ new_channel t p ∷ []) e
    ∙ sym (map_push (new_channel t) (take n t.params) p)
    ∙ ap (map (new_channel t)) (sym (take-next t.params n p at))
    ∙ ap (λ k. map (new_channel t) (take k t.params)) one
