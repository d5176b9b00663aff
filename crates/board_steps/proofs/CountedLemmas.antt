-- As many requests wait as a list has members whose numbers rise, each of which waits, where each that waits is among them.
use Rattle.std.proofs.Common.{arith, ◌≡◌, ℕ, zero, suc, ◌+◌, ◌<◌, ◌≤◌, refl, sym, ◌∙◌, ap, subst, List, [], ◌∷◌, length, cond, Bool, true, false, ◌==◌, ◌||◌, filter}
use Rattle.std.specs.Prelude.{⊤, IsTrue}
use Rattle.std.specs.List.{AllByRecursion, list_any, range_with_len}
use Rattle.std.proofs.lemmas.Bool.{ne_eqb}
use Rattle.std.proofs.lemmas.Bool.Decides.{Decides-eqb, nat_tests}
use Rattle.hk_world.specs.Timelines.{last_act}
use Rattle.hk_world.specs.Legal.{is_pending}
use Rattle.hk_world.proofs.OrderLemmas.{true_is_not_false}
use Rattle.board_steps.specs.Cores.{Core}
use Rattle.board_steps.specs.SlotRuns.{waiting}

module _ {X : Type 0} (number : X → ℕ) (f : ℕ → Bool) where
  -- members whose numbers rise
  abbrev pub AreRising : List X → Type 0
  AreRising [] = ⊤
  AreRising (x ∷ xs) = AllByRecursion (λ y. number x < number y) xs × AreRising xs

  -- members with numbers from one on and below another that pass the test
  abbrev pub ArePassing : ℕ → ℕ → List X → Type 0
  ArePassing a b xs = AllByRecursion (λ x. (a ≤ number x) × (number x < b) × (f (number x) ≡ true)) xs

  -- each number in the range that passes the test is one of a member
  abbrev pub AreAll : ℕ → ℕ → List X → Type 0
  AreAll a b xs = (k : ℕ) → a ≤ k → k < b → f k ≡ true → IsTrue (list_any (λ x. number x == k) xs)

  none-above : (a : ℕ) (xs : List X) → AllByRecursion (λ x. a < number x) xs → list_any (λ x. number x == a) xs ≡ false
  none-above a [] h = refl
  none-above a (x ∷ xs) h =
      ap (λ b. b || list_any (λ y. number y == a) xs) (ne_eqb (number x) a (let lt = h.0 in omega (arith, lt))) ∙ none-above a xs h.1

  above-more : (a k : ℕ) (xs : List X) → a < k → AllByRecursion (λ x. k < number x) xs → AllByRecursion (λ x. a < number x) xs
  above-more a k [] lt h = tt
  above-more a k (x ∷ xs) lt h = (omega (arith, lt, h.0), above-more a k xs lt h.1)

  -- the first member has the first number that passes the test
  first-is : (a b : ℕ) (x : X) (xs : List X) → AreRising (x ∷ xs) → ArePassing a b (x ∷ xs) → IsTrue (list_any (λ y. number y == a) (x ∷ xs)) → number x ≡ a
  first-is a b x xs rising passing there = go (number x == a) refl
    where
      go : (t : Bool) → (number x == a) ≡ t → number x ≡ a
      go true e = (Decides-eqb (number x) a).0 e
      go false e =
          let above : a < number x = let low = passing.0.0 in grind (arith, nat_tests) in
          let none = none-above a xs (above-more a (number x) xs above rising.0) in
          absurd (true_is_not_false (sym there ∙ ap (λ t. t || list_any (λ y. number y == a) xs) e ∙ none))

  -- members behind the first one have greater numbers
  passing-more : (a b n : ℕ) (xs : List X) → b ≡ n → AllByRecursion (λ x. a < number x) xs → ArePassing a b xs → ArePassing (a + 1) n xs
  passing-more a b n [] e above h = tt
  passing-more a b n (x ∷ xs) e above h = ((omega (arith, above.0), omega (arith, h.0.1, e), h.0.2), passing-more a b n xs e above.1 h.1)

  -- where the first number doesn't pass the test, no member has it
  passing-above : (a b : ℕ) (xs : List X) → f a ≡ false → ArePassing a b xs → AllByRecursion (λ x. a < number x) xs
  passing-above a b [] e h = tt
  passing-above a b (x ∷ xs) e h = (go (number x == a) refl, passing-above a b xs e h.1)
    where
      go : (t : Bool) → (number x == a) ≡ t → a < number x
      go true g = absurd (true_is_not_false (sym h.0.2 ∙ ap f ((Decides-eqb (number x) a).0 g) ∙ e))
      go false g = let low = h.0.0 in grind (arith, nat_tests)

  all-behind : (a b n : ℕ) (x : X) (xs : List X) → b ≡ n → number x ≡ a → AreAll a b (x ∷ xs) → AreAll (a + 1) n xs
  all-behind a b n x xs e same all k low high passes =
      let there = all k (omega (arith, low)) (omega (arith, high, e)) passes in
      let other : (number x == k) ≡ false = ne_eqb (number x) k (omega (arith, same, low)) in
      sym (ap (λ t. t || list_any (λ y. number y == k) xs) other) ∙ there

  all-above : (a b n : ℕ) (xs : List X) → b ≡ n → AreAll a b xs → AreAll (a + 1) n xs
  all-above a b n xs e all k low high passes = all k (omega (arith, low)) (omega (arith, high, e)) passes

  pub counted : (a n : ℕ) (xs : List X) → AreRising xs → ArePassing a (a + n) xs → AreAll a (a + n) xs → length (filter f (range_with_len a n)) ≡ length xs
  counted a zero [] rising passing all = refl
  counted a zero (x ∷ xs) rising passing all = absurd (omega (arith, passing.0.0, passing.0.1))
  counted a (suc n) xs rising passing all = go (f a) refl xs rising passing all (counted (a + 1) n)
    where
      go : (b : Bool) → f a ≡ b → (ys : List X) → AreRising ys → ArePassing a (a + suc n) ys → AreAll a (a + suc n) ys
          → ((zs : List X) → AreRising zs → ArePassing (a + 1) ((a + 1) + n) zs → AreAll (a + 1) ((a + 1) + n) zs → length (filter f (range_with_len (a + 1) n)) ≡ length zs)
          → length (cond (f a) (a ∷ filter f (range_with_len (a + 1) n)) (filter f (range_with_len (a + 1) n))) ≡ length ys
      go true e [] r p l rest = absurd (true_is_not_false (sym (l a (omega arith) (omega arith) e)))
      go true e (y ∷ ys) r p l rest =
          let first = first-is a (a + suc n) y ys r p (l a (omega arith) (omega arith) e) in
          let above = subst (λ k. AllByRecursion (λ x. k < number x) ys) first r.0 in
          ap (λ b. length (cond b (a ∷ filter f (range_with_len (a + 1) n)) (filter f (range_with_len (a + 1) n)))) e
          ∙ ap suc (rest ys r.1 (passing-more a (a + suc n) ((a + 1) + n) ys (omega arith) above p.1) (all-behind a (a + suc n) ((a + 1) + n) y ys (omega arith) first l))
      go false e ys r p l rest =
          ap (λ b. length (cond b (a ∷ filter f (range_with_len (a + 1) n)) (filter f (range_with_len (a + 1) n)))) e
          ∙ rest ys r (passing-more a (a + suc n) ((a + 1) + n) ys (omega arith) (passing-above a (a + suc n) ys e p) p) (all-above a (a + suc n) ((a + 1) + n) ys (omega arith) l)

-- whether a request of a core waits, by its number
abbrev pub waits : Core → ℕ → Bool
waits c k = is_pending (last_act k c.moments)

-- As many requests wait as these.
pub waiting-counted : {X : Type 0} (number : X → ℕ) (c : Core) (xs : List X) → AreRising number (waits c) xs
    → AllByRecursion (λ x. (number x < length c.requests) × (waits c (number x) ≡ true)) xs
    → ((k : ℕ) → waits c k ≡ true → IsTrue (list_any (λ x. number x == k) xs)) → waiting c ≡ length xs
waiting-counted {X = X} number c xs rising passing all =
    counted number (waits c) 0 (length c.requests) xs rising (from-zero xs passing) (λ k low high e. all k e)
  where
    from-zero : (ys : List X) → AllByRecursion (λ x. (number x < length c.requests) × (waits c (number x) ≡ true)) ys → ArePassing number (waits c) 0 (0 + length c.requests) ys
    from-zero [] h = tt
    from-zero (y ∷ ys) h = ((omega arith, omega (arith, h.0.0), h.0.1), from-zero ys h.1)
