-- Lists that are gone through place by place, and what was taken out of which ring.
use Rattle.std.proofs.Common.{◌≡◌, ◌≢◌, ℕ, ◌+◌, ◌<◌, ◌≤◌, Bool, true, false, ◌==◌, List, [], ◌∷◌, ◌++◌, length, take, drop, suc, map, filter, refl, sym, ◌∙◌, ap, subst, arith}
use Rattle.std.proofs.Math.Seq.{take-suc, drop-cons}
use borrow.Author.Count.{below_more}
use lib.ListN.{get_or, set}
use Rattle.std.proofs.lemmas.List.{append_assoc, append-nil, map-append, get_or-set_same, get_or-set_other, get_or_default}
use Rattle.std.proofs.lemmas.Bool.{eqb-true, eqb-false, true_from_ne_false, false_from_ne_true}
use Rattle.std.proofs.lemmas.List.Elements.{filter-append}
use Rattle.sampler_threads.specs.Deeds.{items_from}
use Rattle.sampler_threads.specs.declared.item.Item.{Item}

-- one place more of a list
pub one_more : {X : Type 0} (R : ℕ → X → X → Type 0) (xs ys : List X) (k : ℕ) (y : X)
    → k < length ys
    → ((j : ℕ) (d : X) → j < k → R j (get_or xs j d) (get_or ys j d))
    → ((d : X) → R k (get_or xs k d) y)
    → (j : ℕ) (d : X) → j < k + 1 → R j (get_or xs j d) (get_or (set ys k y) j d)
one_more R xs ys k y within before here j d below =
    below_more (λ i. R i (get_or xs i d) (get_or (set ys k y) i d)) k
    (λ i u. subst (λ z. R i (get_or xs i d) z) (sym (get_or-set_other ys k i y d (λ e. omega arith))) (before i d u))
    (subst (λ z. R k (get_or xs k d) z) (sym (get_or-set_same ys k y d within)) (here d))
    j below

-- one place more of two lists
pub one_more_of_both : {X Y : Type 0} (R : X → X → Y → Y → Type 0) (xs vs : List X) (ys ws : List Y) (k : ℕ) (x : X) (y : Y)
    → k < length vs
    → k < length ws
    → ((j : ℕ) (d : X) (e : Y) → j < k → R (get_or xs j d) (get_or vs j d) (get_or ys j e) (get_or ws j e))
    → ((d : X) (e : Y) → R (get_or xs k d) x (get_or ys k e) y)
    → (j : ℕ) (d : X) (e : Y) → j < k + 1 → R (get_or xs j d) (get_or (set vs k x) j d) (get_or ys j e) (get_or (set ws k y) j e)
one_more_of_both R xs vs ys ws k x y inside within before here j d e below =
    below_more (λ i. R (get_or xs i d) (get_or (set vs k x) i d) (get_or ys i e) (get_or (set ws k y) i e)) k
    (λ i u.
    subst (λ z. R (get_or xs i d) z (get_or ys i e) (get_or (set ws k y) i e)) (sym (get_or-set_other vs k i x d (λ q. omega arith)))
    (subst (λ z. R (get_or xs i d) (get_or vs i d) (get_or ys i e) z) (sym (get_or-set_other ws k i y e (λ q. omega arith))) (before i d e u)))
    (subst (λ z. R (get_or xs k d) z (get_or ys k e) (get_or (set ws k y) k e)) (sym (get_or-set_same vs k x d inside))
    (subst (λ z. R (get_or xs k d) x (get_or ys k e) z) (sym (get_or-set_same ws k y e within)) (here d e)))
    j below

-- the places that are still ahead are as they were
pub rest_as_it_was : {X : Type 0} (xs ys : List X) (k : ℕ) (y : X)
    → ((j : ℕ) (d : X) → k ≤ j → get_or ys j d ≡ get_or xs j d)
    → (j : ℕ) (d : X) → k + 1 ≤ j → get_or (set ys k y) j d ≡ get_or xs j d
rest_as_it_was xs ys k y before j d above = get_or-set_other ys k j y d (λ e. omega arith) ∙ before j d (omega arith)

-- items out of several rings
pub items_append : (k : ℕ) (xs ys : List (ℕ × Item)) → items_from k (xs ++ ys) ≡ items_from k xs ++ items_from k ys
items_append k xs ys =
    ap (map (λ (t : ℕ × Item). t.1)) (filter-append (λ (t : ℕ × Item). t.0 == k) xs ys)
    ∙ map-append (λ (t : ℕ × Item). t.1) (filter (λ (t : ℕ × Item). t.0 == k) xs) (filter (λ (t : ℕ × Item). t.0 == k) ys)

eqb-self : (k : ℕ) → (k == k) ≡ true
eqb-self k = true_from_ne_false (k == k) (λ e. eqb-false k k e refl)

keep_same : (k : ℕ) (items : List Item) → filter (λ (t : ℕ × Item). t.0 == k) (map (λ item. (k, item)) items) ≡ map (λ item. (k, item)) items
keep_same k [] = refl
keep_same k (x ∷ xs) = rw (eqb-self k) (ap (λ w. (k, x) ∷ w) (keep_same k xs))

drop_other : (j k : ℕ) (items : List Item) → (k == j) ≡ false → filter (λ (t : ℕ × Item). t.0 == j) (map (λ item. (k, item)) items) ≡ []
drop_other j k [] e = refl
drop_other j k (x ∷ xs) e = rw e (drop_other j k xs e)

seconds : (k : ℕ) (items : List Item) → map (λ (t : ℕ × Item). t.1) (map (λ item. (k, item)) items) ≡ items
seconds k [] = refl
seconds k (x ∷ xs) = ap (λ w. x ∷ w) (seconds k xs)

-- what was taken out of one ring came out of that one
pub items_same : (k : ℕ) (items : List Item) → items_from k (map (λ item. (k, item)) items) ≡ items
items_same k items = ap (map (λ (t : ℕ × Item). t.1)) (keep_same k items) ∙ seconds k items

pub items_other : (j k : ℕ) (items : List Item) → (k == j) ≡ false → items_from j (map (λ item. (k, item)) items) ≡ []
items_other j k items e = ap (map (λ (t : ℕ × Item). t.1)) (drop_other j k items e)

pub eqb_apart : (k j : ℕ) → (k ≡ j → ⊥) → (k == j) ≡ false
eqb_apart k j ne = false_from_ne_true (k == j) (λ e. ne (eqb-true k j e))

-- what was taken out of another ring
pub items_apart : (j k : ℕ) (ts : List (ℕ × Item)) (items : List Item) → (k ≡ j → ⊥) → items_from j (ts ++ map (λ item. (k, item)) items) ≡ items_from j ts
items_apart j k ts items ne =
    items_append j ts (map (λ item. (k, item)) items) ∙ (ap (λ w. items_from j ts ++ w) (items_other j k items (eqb_apart k j ne)) ∙ append-nil (items_from j ts))

-- one place more
pub take_next : {X : Type 0} (xs : List X) (k : ℕ) (d : X) → k < length xs → take (k + 1) xs ≡ take k xs ++ get_or xs k d ∷ []
take_next xs k d within =
    let e : suc k ≡ k + 1 = omega arith in subst (λ n. take n xs ≡ take k xs ++ get_or xs k d ∷ []) e (take-suc xs k d within)

pub drop_next : {X : Type 0} (xs : List X) (k : ℕ) (d : X) → k < length xs → drop k xs ≡ get_or xs k d ∷ drop (k + 1) xs
drop_next xs k d within =
    let e : suc k ≡ k + 1 = omega arith in subst (λ n. drop k xs ≡ get_or xs k d ∷ drop n xs) e (drop-cons xs k d within)
