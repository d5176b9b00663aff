-- Samples in the order of their slots, and the search among them.
use Rattle.std.proofs.Common.{◌≡◌, ℕ, zero, suc, ◌+◌, ◌-◌, ◌<◌, ◌≤◌, ℤ, List, [], ◌∷◌, ◌++◌, length, drop, Bool, true, false, cond, Some, None, refl, sym, ap, subst, ◌∙◌, arith}
use Rattle.std.specs.Prelude.{nat_lt, find, option_map, ◌==◌, slice_get, IfSome}
use Rattle.std.specs.List.{AllByRecursion}
use Rattle.std.proofs.lemmas.Bool.{eq-eqb}
use Rattle.std.proofs.lemmas.Bool.Decides.{nat_tests}
use Rattle.std.proofs.lemmas.Option.{same_Some, none-some}
use Rattle.circular_buffer.specs.Buffer.{last_item}
use Rattle.hk_base.proofs.Membership.{AllByRecursion-append}
use Rattle.sample_slots.specs.Windows.{AreRising, sample_at}

-- samples before a slot
abbrev pub AreBefore : List (ℕ × ℤ) → ℕ → Type 0
AreBefore ss slot = AllByRecursion (λ s. s.0 < slot) ss

last-cons : (a b : ℕ × ℤ) (ss : List (ℕ × ℤ)) → last_item (a ∷ b ∷ ss) ≡ last_item (b ∷ ss)
last-cons a b ss = let e : suc (suc (length ss)) - 1 ≡ suc (suc (length ss) - 1) = omega arith in ap (λ k. slice_get (a ∷ b ∷ ss) k) e

-- what is later than the newest is later than all
all-before : (ss : List (ℕ × ℤ)) (slot : ℕ) → AreRising ss → IfSome (last_item ss) (λ s. s.0 < slot) → AreBefore ss slot
all-before [] slot rising later = tt
all-before (s ∷ []) slot rising later = (later, tt)
all-before (a ∷ b ∷ ss) slot rising later =
    let rest = all-before (b ∷ ss) slot rising.1 (subst (λ o. IfSome o (λ (s : ℕ × ℤ). s.0 < slot)) (last-cons a b ss) later) in
    (omega (arith, rest.0, rising.0.0), rest)

rising-push : (ss : List (ℕ × ℤ)) (s : ℕ × ℤ) → AreRising ss → AreBefore ss s.0 → AreRising (ss ++ s ∷ [])
rising-push [] s rising before = (tt, tt)
rising-push (a ∷ ss) s rising before = (AllByRecursion-append (λ (later : ℕ × ℤ). a.0 < later.0) ss (s ∷ []) rising.0 (before.0, tt), rising-push ss s rising.1 before.1)

rising-drop : (n : ℕ) (ss : List (ℕ × ℤ)) → AreRising ss → AreRising (drop n ss)
rising-drop zero ss rising = rising
rising-drop (suc n) [] rising = rising
rising-drop (suc n) (s ∷ ss) rising = rising-drop n ss rising.1

-- the latest samples are in order after a push
pub rising-latest : (n : ℕ) (ss : List (ℕ × ℤ)) (slot : ℕ) (value : ℤ) → AreRising ss → IfSome (last_item ss) (λ s. s.0 < slot) → AreRising (drop n (ss ++ (slot, value) ∷ []))
rising-latest n ss slot value rising later = rising-drop n (ss ++ (slot, value) ∷ []) (rising-push ss (slot, value) rising (all-before ss slot rising later))

at-later : (slot : ℕ) (ss : List (ℕ × ℤ)) (j : ℕ) (b : ℕ × ℤ) → AllByRecursion (λ (later : ℕ × ℤ). slot < later.0) ss → slice_get ss j ≡ Some b → slot < b.0
at-later slot [] j b all e = absurd (none-some b e)
at-later slot (s ∷ ss) zero b all e = subst (λ (x : ℕ × ℤ). slot < x.0) (same_Some s b e) all.0
at-later slot (s ∷ ss) (suc j) b all e = at-later slot ss j b all.1 e

rising-at : (ss : List (ℕ × ℤ)) (i j : ℕ) (a b : ℕ × ℤ) → AreRising ss → i < j → slice_get ss i ≡ Some a → slice_get ss j ≡ Some b → a.0 < b.0
rising-at [] i j a b rising h e f = absurd (none-some a e)
rising-at (s ∷ ss) i zero a b rising h e f = absurd (omega (arith, h))
rising-at (s ∷ ss) zero (suc j) a b rising h e f = subst (λ (x : ℕ × ℤ). x.0 < b.0) (same_Some s a e) (at-later s.0 ss j b rising.0 f)
rising-at (s ∷ ss) (suc i) (suc j) a b rising h e f = rising-at ss i j a b rising.1 (omega (arith, h)) e f

-- the slot, if a sample has it, is among those from the low number to below the high one
pub record IsBetween (ss : List (ℕ × ℤ)) (slot low high : ℕ) : Type 0 where
  pub order : low ≤ high
  pub end : high ≤ length ss
  pub before : (k : ℕ) (s : ℕ × ℤ) → k < low → slice_get ss k ≡ Some s → s.0 < slot
  pub after : (k : ℕ) (s : ℕ × ℤ) → high ≤ k → slice_get ss k ≡ Some s → slot < s.0

pub between-up : (ss : List (ℕ × ℤ)) (slot low high middle : ℕ) (found : ℕ × ℤ) → AreRising ss → IsBetween ss slot low high → middle < high → slice_get ss middle ≡ Some found → found.0 < slot → IsBetween ss slot (middle + 1) high
between-up ss slot low high middle found rising is h at below = record {
  order = omega (arith, h);
  end = is.end;
  before = λ k s less e. go k s (k == middle) refl less e;
  after = is.after;
}
  where
    go : (k : ℕ) (s : ℕ × ℤ) (b : Bool) → (k == middle) ≡ b → k < middle + 1 → slice_get ss k ≡ Some s → s.0 < slot
    go k s true same less e =
        let k_is : k ≡ middle = grind (arith, nat_tests, same) in
        subst (λ (x : ℕ × ℤ). x.0 < slot) (same_Some found s (sym at ∙ (ap (λ i. slice_get ss i) (sym k_is) ∙ e))) below
    go k s false other less e =
        let apart : k < middle = grind (arith, nat_tests, other) in
        let lower = rising-at ss k middle s found rising apart e at in
        omega (arith, lower, below)

pub between-down : (ss : List (ℕ × ℤ)) (slot low high middle : ℕ) (found : ℕ × ℤ) → AreRising ss → IsBetween ss slot low high → low ≤ middle → middle < high → slice_get ss middle ≡ Some found → slot < found.0 → IsBetween ss slot low middle
between-down ss slot low high middle found rising is from h at above = record {
  order = from;
  end = omega (arith, h, is.end);
  before = is.before;
  after = λ k s more e. go k s (k == middle) refl more e;
}
  where
    go : (k : ℕ) (s : ℕ × ℤ) (b : Bool) → (k == middle) ≡ b → middle ≤ k → slice_get ss k ≡ Some s → slot < s.0
    go k s true same more e =
        let k_is : k ≡ middle = grind (arith, nat_tests, same) in
        subst (λ (x : ℕ × ℤ). slot < x.0) (same_Some found s (sym at ∙ (ap (λ i. slice_get ss i) (sym k_is) ∙ e))) above
    go k s false other more e =
        let apart : middle < k = grind (arith, nat_tests, other) in
        let higher = rising-at ss middle k found s rising apart at e in
        omega (arith, higher, above)

-- the sample with the slot is found
pub found-at : (ss : List (ℕ × ℤ)) (i : ℕ) (found : ℕ × ℤ) → AreRising ss → slice_get ss i ≡ Some found → sample_at ss found.0 ≡ Some found.1
found-at [] i found rising at = absurd (none-some found at)
found-at (s ∷ ss) zero found rising at =
    let same = same_Some s found at in
    let hit : (s.0 == found.0) ≡ true = eq-eqb s.0 found.0 (ap (λ (x : ℕ × ℤ). x.0) same) in
    ap (λ b. option_map (λ (x : ℕ × ℤ). x.1) (cond b (Some s) (find (λ (x : ℕ × ℤ). x.0 == found.0) ss))) hit ∙ ap (λ (x : ℕ × ℤ). Some x.1) same
found-at (s ∷ ss) (suc i) found rising at =
    let later = at-later s.0 ss i found rising.0 at in
    let miss : (s.0 == found.0) ≡ false = grind (arith, nat_tests, later) in
    ap (λ b. option_map (λ (x : ℕ × ℤ). x.1) (cond b (Some s) (find (λ (x : ℕ × ℤ). x.0 == found.0) ss))) miss ∙ found-at ss i found rising.1 at

absent : (ss : List (ℕ × ℤ)) (slot : ℕ) → ((k : ℕ) (s : ℕ × ℤ) → slice_get ss k ≡ Some s → s.0 ≡ slot → ⊥) → sample_at ss slot ≡ None
absent [] slot none = refl
absent (s ∷ ss) slot none =
    let miss : (s.0 == slot) ≡ false = go (s.0 == slot) refl in
    ap (λ b. option_map (λ (x : ℕ × ℤ). x.1) (cond b (Some s) (find (λ (x : ℕ × ℤ). x.0 == slot) ss))) miss ∙ absent ss slot (λ k x e f. none (suc k) x e f)
  where
    go : (b : Bool) → (s.0 == slot) ≡ b → (s.0 == slot) ≡ false
    go true same = absurd (let e : s.0 ≡ slot = grind (arith, nat_tests, same) in none 0 s refl e)
    go false other = other

-- no sample has the slot
pub absent-between : (ss : List (ℕ × ℤ)) (slot low high : ℕ) → IsBetween ss slot low high → high ≤ low → sample_at ss slot ≡ None
absent-between ss slot low high is empty = absent ss slot (λ k s e same. go k s e same (nat_lt k low) refl)
  where
    go : (k : ℕ) (s : ℕ × ℤ) → slice_get ss k ≡ Some s → s.0 ≡ slot → (b : Bool) → nat_lt k low ≡ b → ⊥
    go k s e same true p =
        let lower : k < low = grind (arith, nat_tests, p) in
        let less = is.before k s lower e in
        omega (arith, less, same)
    go k s e same false p =
        let upper : high ≤ k = grind (arith, nat_tests, p, empty) in
        let more = is.after k s upper e in
        omega (arith, more, same)
