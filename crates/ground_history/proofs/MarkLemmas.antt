-- Marks by pairs of numbers: what one more changes.
use Rattle.std.proofs.Common.{arith, ◌≡◌, ℕ, ◌<◌, refl, sym, ◌∙◌, ap, subst, List, Bool, true, false, cond, Option, Some, None}
use Rattle.std.proofs.lemmas.Bool.{eqb-true, and_parts}
use Rattle.std.proofs.lemmas.Bool.Decides.{nat_tests}
use Rattle.std.proofs.lemmas.Cmp.{ranked}
use Rattle.std.specs.Prelude.{◌&&◌, ◌||◌, ◌==◌, IsSome, unwrap_or, is_some}
use Rattle.std.specs.Map.{lookup}
use Rattle.std.specs.BTreeMap.{is_at}
use Rattle.std.specs.Ordering.{nat_cmp, ordering_then, MatchOrdering, is_eq}
use Rattle.std.specs.declared.cmp.Ordering.{Ordering}
use Rattle.std.specs.declared.cmp.Ordering.TheVariants.{Less, Equal, Greater}
use Rattle.ground_history.specs.Indexes.{pair_cmp, is_marked, HasMark}

-- what a map is after an insert
abbrev Inserted : List ((ℕ × ℕ) × Bool) → List ((ℕ × ℕ) × Bool) → ℕ → ℕ → Bool → Type 0
Inserted old new request step mark =
    (q : ℕ × ℕ) → lookup (is_at (pair_cmp q)) new ≡ cond (is_at (pair_cmp (request, step)) q) (Some mark) (lookup (is_at (pair_cmp q)) old)

-- the order of pairs tells them apart
pair-is : (a b k s : ℕ) → is_at (pair_cmp (a, b)) (k, s) ≡ (k == a && b == s)
pair-is a b k s = go (nat_cmp a k) (ranked a k (nat_cmp a k) refl) (nat_cmp b s) (ranked b s (nat_cmp b s) refl)
  where
    second : (o : Ordering) → MatchOrdering o (b < s) (b ≡ s) (s < b) → is_eq o ≡ (b == s)
    second Less h = grind (arith, nat_tests)
    second Equal h = grind (arith, nat_tests)
    second Greater h = grind (arith, nat_tests)

    both : (x y : Bool) → x ≡ true → y ≡ (x && y)
    both true y e = refl
    both false y e = cc

    none : (x y : Bool) → x ≡ false → false ≡ (x && y)
    none true y e = cc
    none false y e = refl

    go : (o : Ordering) → MatchOrdering o (a < k) (a ≡ k) (k < a) → (p : Ordering) → MatchOrdering p (b < s) (b ≡ s) (s < b) → is_eq (ordering_then o p) ≡ (k == a && b == s)
    go Less h p m = none (k == a) (b == s) (grind (arith, nat_tests))
    go Equal h p m = second p m ∙ both (k == a) (b == s) (grind (arith, nat_tests))
    go Greater h p m = none (k == a) (b == s) (grind (arith, nat_tests))

marked-by : (old new : List ((ℕ × ℕ) × Bool)) (request step : ℕ) (mark : Bool) → Inserted old new request step mark → (k s : ℕ)
    → is_marked new k s ≡ cond (k == request && step == s) mark (is_marked old k s)
marked-by old new request step mark h k s =
    ap (λ o. unwrap_or o false) (h (k, s))
    ∙ (ap (λ b. unwrap_or (cond b (Some mark) (lookup (is_at (pair_cmp (k, s))) old)) false) (pair-is request step k s) ∙ go (k == request && step == s) (lookup (is_at (pair_cmp (k, s))) old))
  where
    go : (b : Bool) (o : Option Bool) → unwrap_or (cond b (Some mark) o) false ≡ cond b mark (unwrap_or o false)
    go true o = refl
    go false o = refl

-- an insert keeps the other places
pub places-stay : (old new : List ((ℕ × ℕ) × Bool)) (request step : ℕ) (mark : Bool) → Inserted old new request step mark → (k s : ℕ) → HasMark old k s → HasMark new k s
places-stay old new request step mark h k s has = let P : Option Bool → Type 0 = λ o. IsSome o in subst P (sym (h (k, s))) (go (is_at (pair_cmp (request, step)) (k, s)) (lookup (is_at (pair_cmp (k, s))) old) has)
  where
    go : (b : Bool) (o : Option Bool) → IsSome o → IsSome (cond b (Some mark) o)
    go true o f = refl
    go false o f = f

-- a mark is set
pub marked-more : (old new : List ((ℕ × ℕ) × Bool)) (request step : ℕ) → Inserted old new request step true → (k s : ℕ) → is_marked new k s ≡ (is_marked old k s || (k == request && step == s))
marked-more old new request step h k s = marked-by old new request step true h k s ∙ go (k == request && step == s) (is_marked old k s)
  where
    go : (b c : Bool) → cond b true c ≡ (c || b)
    go true true = refl
    go true false = refl
    go false true = refl
    go false false = refl

-- a new place without a mark changes none
pub marked-same : (old new : List ((ℕ × ℕ) × Bool)) (request step : ℕ) → is_some (lookup (is_at (pair_cmp (request, step))) old) ≡ false → Inserted old new request step false → (k s : ℕ)
    → is_marked new k s ≡ is_marked old k s
marked-same old new request step absent h k s = marked-by old new request step false h k s ∙ go (k == request && step == s) refl
  where
    none : (o : Option Bool) → is_some o ≡ false → false ≡ unwrap_or o false
    none None e = refl
    none (Some b) e = cc

    go : (b : Bool) → (k == request && step == s) ≡ b → cond b false (is_marked old k s) ≡ is_marked old k s
    go true e =
        let parts = and_parts (k == request) (step == s) e in
        let first = eqb-true k request parts.0 in
        let second = eqb-true step s parts.1 in
        let here : is_some (lookup (is_at (pair_cmp (k, s))) old) ≡ false = rw (first, ← second) absent in
        none (lookup (is_at (pair_cmp (k, s))) old) here
    go false e = refl
