-- A list whose members change one by one, from the first on.
use Rattle.std.proofs.Common.{arith, ◌≡◌, ℕ, zero, suc, ◌<◌, ◌+◌, refl, sym, ap, subst, List, [], ◌∷◌, ◌++◌, length, take, drop, set, get_or}
use Rattle.std.specs.List.{AllZip}

-- so many members have changed, and the others are as they were
abbrev pub AreHalf : {X : Type 0} → (X → X → Type 0) → ℕ → List X → List X → Type 0
AreHalf R zero old now = now ≡ old
AreHalf R (suc n) (x ∷ old) (y ∷ now) = R x y × AreHalf R n old now
AreHalf R (suc n) [] now = ⊥
AreHalf R (suc n) (x ∷ old) [] = ⊥

-- the next member is as it was
pub half-member : {X : Type 0} (R : X → X → Type 0) (n : ℕ) (old now : List X) (d : X) → AreHalf R n old now → get_or now n d ≡ get_or old n d
half-member R zero old now d h = ap (λ l. get_or l 0 d) h
half-member R (suc n) (x ∷ old) (y ∷ now) d h = half-member R n old now d h.1
half-member R (suc n) [] now d h = absurd h
half-member R (suc n) (x ∷ old) [] d h = absurd h

-- one more has changed
half-more : {X : Type 0} (R : X → X → Type 0) (n : ℕ) (old now : List X) (d v : X) → n < length old → AreHalf R n old now → R (get_or now n d) v → AreHalf R (suc n) old (set now n v)
half-more R zero [] now d v lt h r = absurd (omega (arith, lt))
half-more R zero (x ∷ old) now d v lt h r = go now h r
  where
    go : (ys : List _) → ys ≡ x ∷ old → R (get_or ys 0 d) v → AreHalf R 1 (x ∷ old) (set ys 0 v)
    go ys e k = subst (λ l. AreHalf R 1 (x ∷ old) (set l 0 v)) (sym e) (subst (λ l. R (get_or l 0 d) v) e k, refl)
half-more R (suc n) [] now d v lt h r = absurd h
half-more R (suc n) (x ∷ old) [] d v lt h r = absurd h
half-more R (suc n) (x ∷ old) (y ∷ now) d v lt h r = (h.0, half-more R n old now d v (omega (arith, lt)) h.1 r)

pub half-step : {X : Type 0} (R : X → X → Type 0) (n : ℕ) (old now : List X) (d v : X) → n < length old → AreHalf R n old now → R (get_or now n d) v → AreHalf R (n + 1) old (set now n v)
half-step R n old now d v lt h r = let e : suc n ≡ n + 1 = omega arith in subst (λ k. AreHalf R k old (set now n v)) e (half-more R n old now d v lt h r)

-- all have changed
pub half-all : {X : Type 0} (R : X → X → Type 0) (n : ℕ) (old now : List X) → length old ≡ n → AreHalf R n old now → AllZip R old now
half-all R zero [] now e h = subst (λ l. AllZip R [] l) (sym h) tt
half-all R zero (x ∷ old) now e h = absurd (omega (arith, e))
half-all R (suc n) [] now e h = absurd h
half-all R (suc n) (x ∷ old) [] e h = absurd h
half-all R (suc n) (x ∷ old) (y ∷ now) e h = (h.0, half-all R n old now (omega (arith, e)) h.1)
