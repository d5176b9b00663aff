-- Kept packets from a tag on, one after the other, and where none of them tells of a structure.
use Rattle.std.proofs.Common.{arith, ◌≡◌, ℕ, ◌+◌, ◌^◌, ◌<◌, ◌≤◌, refl, sym, ◌∙◌, ap, subst, List, [], ◌∷◌, ◌++◌, Bool, true, false, map, Option, Some, None, option_to_list, append_assoc, inl, inr, cond}
use Rattle.std.specs.Prelude.{filter, filter_map, find, option_map, nat_le, if◌then◌else◌}
use Rattle.std.specs.List.{cons_option, AllByRecursion}
use Rattle.std.proofs.lemmas.Bool.{leb-true, leb-false, le-leb, lt-leb, both_ways}
use Rattle.std.proofs.Math.Nat.{pow-le-pow_right}
use Rattle.hk_base.specs.Fit.{IsFitWidths}
use Rattle.hk_base.proofs.Membership.{some_value, IsIn, IsIn-filter, AllByRecursion-IsIn}
use Rattle.pus_messages.specs.declared.message.Report.{Report}
use Rattle.ground_history.specs.Histories.{Kept, tag_of, greatest}
use Rattle.ground_history.specs.Ground.{Ground, IsGrammarKept, IsGrounded, HaveRisingTags, newest_told, tells_structure}

-- the packets from a tag on
abbrev pub kept_from : ℕ → List Kept → List Kept
kept_from from ks = filter (λ k. nat_le from (tag_of k)) ks

pub all-kept : (from : ℕ) (ks : List Kept) → AllByRecursion (λ k. from ≤ tag_of k) ks → kept_from from ks ≡ ks
all-kept from [] h = refl
all-kept from (k ∷ ks) h = ap (λ b. if b then k ∷ kept_from from ks else kept_from from ks) (le-leb from (tag_of k) h.0) ∙ ap (λ l. k ∷ l) (all-kept from ks h.1)

above : (n : ℕ) (k : Kept) (ks : List Kept) → n ≤ tag_of k + 1 → AllByRecursion (λ x. tag_of k < tag_of x) ks → AllByRecursion (λ x. n ≤ tag_of x) ks
above n k [] le h = tt
above n k (x ∷ ks) le h = (omega (arith, h.0), above n k ks le h.1)

pub next-kept : (from : ℕ) (ks : List Kept) (k : Kept) → HaveRisingTags ks → find (λ x. nat_le from (tag_of x)) ks ≡ Some k
    → IsIn k ks × (from ≤ tag_of k) × (kept_from from ks ≡ k ∷ kept_from (tag_of k + 1) ks)
next-kept from [] k h e = absurd (let no : None ≡ Some k → ⊥ = λ p. cc in no e)
next-kept from (x ∷ ks) k h e = go (nat_le from (tag_of x)) refl e (λ f. next-kept from ks k h.1 f)
  where
    skip : (n : ℕ) → nat_le n (tag_of x) ≡ false → kept_from n (x ∷ ks) ≡ kept_from n ks
    skip n p = ap (λ b. if b then x ∷ kept_from n ks else kept_from n ks) p

    here : (y : Kept) → x ≡ y → nat_le from (tag_of x) ≡ true → IsIn y (x ∷ ks) × (from ≤ tag_of y) × (kept_from from (x ∷ ks) ≡ y ∷ kept_from (tag_of y + 1) (x ∷ ks))
    here y p q =
        let low : from ≤ tag_of x = leb-true from (tag_of x) q in
        let none : nat_le (tag_of x + 1) (tag_of x) ≡ false = not_le (tag_of x) in
        let now : kept_from from (x ∷ ks) ≡ x ∷ kept_from (tag_of x + 1) (x ∷ ks) =
        ap (λ b. if b then x ∷ kept_from from ks else kept_from from ks) q
        ∙ ap (λ l. x ∷ l) (all-kept from ks (above from x ks (omega arith) h.0) ∙ sym (skip (tag_of x + 1) none ∙ all-kept (tag_of x + 1) ks (above (tag_of x + 1) x ks (omega arith) h.0))) in
        subst (λ (z : Kept). IsIn z (x ∷ ks) × (from ≤ tag_of z) × (kept_from from (x ∷ ks) ≡ z ∷ kept_from (tag_of z + 1) (x ∷ ks))) p (inl refl, low, now)
      where
        not_le : (n : ℕ) → nat_le (n + 1) n ≡ false
        not_le n = lt-leb (n + 1) n (omega arith)

    go : (b : Bool) → nat_le from (tag_of x) ≡ b → (if b then Some x else find (λ y. nat_le from (tag_of y)) ks) ≡ Some k
        → (find (λ y. nat_le from (tag_of y)) ks ≡ Some k → IsIn k ks × (from ≤ tag_of k) × (kept_from from ks ≡ k ∷ kept_from (tag_of k + 1) ks))
        → IsIn k (x ∷ ks) × (from ≤ tag_of k) × (kept_from from (x ∷ ks) ≡ k ∷ kept_from (tag_of k + 1) (x ∷ ks))
    go true p q rest = here k (some_value x k q) p
    go false p q rest =
        let r = rest q in
        let x_low : tag_of x < from = leb-false from (tag_of x) p in
        let k_high : from ≤ tag_of k = r.1 in
        let below : nat_le (tag_of k + 1) (tag_of x) ≡ false = lt-leb (tag_of k + 1) (tag_of x) (omega arith) in
        (inr r.0, r.1, skip from p ∙ (r.2 ∙ ap (λ l. k ∷ l) (sym (skip (tag_of k + 1) below))))

pub no-kept : (from : ℕ) (ks : List Kept) → find (λ x. nat_le from (tag_of x)) ks ≡ None → kept_from from ks ≡ []
no-kept from [] e = refl
no-kept from (x ∷ ks) e = go (nat_le from (tag_of x)) e (λ f. no-kept from ks f)
  where
    go : (b : Bool) → (if b then Some x else find (λ y. nat_le from (tag_of y)) ks) ≡ None → (find (λ y. nat_le from (tag_of y)) ks ≡ None → kept_from from ks ≡ [])
        → (if b then x ∷ kept_from from ks else kept_from from ks) ≡ []
    go true p rest = absurd (let no : Some x ≡ None → ⊥ = λ q. cc in no p)
    go false p rest = rest p

-- the found packet's report
pub kept-of : (o : Option Kept) (r : Report) → option_map (λ (k : Kept). k.report) o ≡ Some r → (k : Kept) × (o ≡ Some k) × (k.report ≡ r)
kept-of None r e = absurd (let no : None ≡ Some r → ⊥ = λ p. cc in no e)
kept-of (Some k) r e = (k, refl, some_value k.report r e)

-- a tag fits its field, with room for one more
pub tag-small : (g : Ground) (k : Kept) → IsFitWidths g.tailoring.widths → IsGrounded g → IsIn k g.history.kept → tag_of k + 1 < 2 ^ 64
tag-small g k fit grounded i =
    let report = AllByRecursion-IsIn (IsGrammarKept g.tailoring) k g.history.kept grounded.reports i in
    let time = g.tailoring.widths.coarse + g.tailoring.widths.fine in
    let few : time ≤ 7 = omega (arith, fit.coarse.1, fit.fine) in
    let most : 256 ^ time ≤ 256 ^ 7 = pow-le-pow_right {n = 256} (omega arith) {i = time} {j = 7} few in
    omega (arith, report.headers.tag)

zero-kept : (ks : List Kept) → AllByRecursion (λ k. 0 ≤ tag_of k) ks
zero-kept [] = tt
zero-kept (k ∷ ks) = (omega arith, zero-kept ks)

-- the next report, with the packet that it is of
pub record IsNext (ks : List Kept) (from : ℕ) (r : Report) : Type 0 where
  pub kept : Kept
  pub report : kept.report ≡ r
  pub member : IsIn kept ks
  pub left : kept_from from ks ≡ kept ∷ kept_from (r.header.tag + 1) ks

pub is-next : (ks : List Kept) (from : ℕ) (r : Report) → HaveRisingTags ks → Some r ≡ option_map (λ (k : Kept). k.report) (find (λ x. nat_le from (tag_of x)) ks) → IsNext ks from r
is-next ks from r rising e =
    let k = kept-of (find (λ x. nat_le from (tag_of x)) ks) r (sym e) in
    let next = next-kept from ks k.0 rising k.1 in
    record { kept = k.0; report = k.2; member = next.0; left = subst (λ (x : Report). kept_from from ks ≡ k.0 ∷ kept_from (x.header.tag + 1) ks) k.2 next.2 }

-- what is found of the kept packets, with one more of them
pub next-more : {X : Type 0} (f : Kept → Option X) (ks : List Kept) (from : ℕ) (r : Report) (before after all : List X) (o : Option X) → (n : IsNext ks from r) → o ≡ f n.kept
    → after ≡ before ++ option_to_list o → before ++ filter_map f (kept_from from ks) ≡ all → after ++ filter_map f (kept_from (r.header.tag + 1) ks) ≡ all
next-more {X = X} f ks from r before after all o n told is h =
    let rest = filter_map f (kept_from (r.header.tag + 1) ks) in
    ap (λ xs. xs ++ rest) is
    ∙ (append_assoc before (option_to_list o) rest
    ∙ (ap (λ xs. before ++ xs) (one o ∙ (ap (λ x. cons_option x rest) told ∙ ap (λ xs. filter_map f xs) (sym n.left))) ∙ h))
  where
    one : (x : Option X) → option_to_list x ++ filter_map f (kept_from (r.header.tag + 1) ks) ≡ cons_option x (filter_map f (kept_from (r.header.tag + 1) ks))
    one None = refl
    one (Some s) = refl

-- at the start nothing was found, and all packets are still to come
pub all-ahead : {X : Type 0} (f : Kept → Option X) (ks : List Kept) (before : List X) → before ++ filter_map f (kept_from 0 ks) ≡ before ++ filter_map f ks
all-ahead f ks before = ap (λ xs. before ++ filter_map f xs) (all-kept 0 ks (zero-kept ks))

pub no-report : (o : Option Kept) → option_map (λ (k : Kept). k.report) o ≡ None → o ≡ None
no-report None e = refl
no-report (Some k) e = absurd (let no : Some k.report ≡ None → ⊥ = λ p. cc in no e)

pub newest-above : (k : Kept) (ks : List Kept) → IsIn k ks → tells_structure k.report.body ≡ true → tag_of k ≤ newest_told ks
newest-above k [] i e = absurd i
newest-above k (x ∷ xs) i e = go (tells_structure x.report.body) refl i (λ j. newest-above k xs j e)
  where
    others : List Kept
    others = filter (λ y. tells_structure y.report.body) xs

    go : (b : Bool) → tells_structure x.report.body ≡ b → IsIn k (x ∷ xs) → (IsIn k xs → tag_of k ≤ newest_told xs) → tag_of k ≤ greatest (map tag_of (cond b (x ∷ others) others))
    go true p (inl same) ih = let at : tag_of k ≡ tag_of x = ap tag_of same in omega (arith, at)
    go true p (inr j) ih = let rest = ih j in omega (arith, rest)
    go false p (inl same) ih = absurd (both_ways (tells_structure x.report.body) p (subst (λ (y : Kept). tells_structure y.report.body ≡ true) same e))
    go false p (inr j) ih = ih j

-- nothing that only a report of a structure shows is found behind the last one
pub none-behind : {X : Type 0} (f : Kept → Option X) → ((k : Kept) → tells_structure k.report.body ≡ false → f k ≡ None) → (from : ℕ) (ks : List Kept) → newest_told ks < from
    → filter_map f (kept_from from ks) ≡ []
none-behind {X = X} f shows from ks lt = none-of (kept_from from ks) (λ x i. at x (IsIn-filter (λ k. nat_le from (tag_of k)) x ks i))
  where
    at : (x : Kept) → IsIn x ks × (nat_le from (tag_of x) ≡ true) → f x ≡ None
    at x m = by (tells_structure x.report.body) refl
      where
        by : (b : Bool) → tells_structure x.report.body ≡ b → f x ≡ None
        by true e = let high = newest-above x ks m.0 e in let low = leb-true from (tag_of x) m.1 in absurd (omega (arith, low, lt, high))
        by false e = shows x e

    none-of : (xs : List Kept) → ((x : Kept) → IsIn x xs → f x ≡ None) → filter_map f xs ≡ []
    none-of [] h = refl
    none-of (x ∷ xs) h = ap (λ (o : Option X). cons_option o (filter_map f xs)) (h x (inl refl)) ∙ none-of xs (λ y i. h y (inr i))
