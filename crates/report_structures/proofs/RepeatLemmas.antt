-- The first repeat depends on which IDs came earlier, and not on their order.
use Rattle.std.proofs.Common.{◌≡◌, ℕ, ◌==◌, ◌||◌, refl, sym, ◌∙◌, ap, List, [], ◌∷◌, ◌++◌, Bool, true, false, Some}
use Rattle.std.specs.Prelude.{if◌then◌else◌}
use Rattle.std.specs.List.{list_any}
use Rattle.hk_base.specs.Definitions.{first_repeat}

-- whether an ID is among others
abbrev pub among : ℕ → List ℕ → Bool
among id ids = list_any (λ e. e == id) ids

pub repeat-seen : (a b ids : List ℕ) → ((x : ℕ) → among x a ≡ among x b) → first_repeat a ids ≡ first_repeat b ids
repeat-seen a b [] same = refl
repeat-seen a b (id ∷ ids) same =
    ap (λ s. if s then Some id else first_repeat (id ∷ a) ids) (same id)
    ∙ ap (λ r. if among id b then Some id else r) (repeat-seen (id ∷ a) (id ∷ b) ids (λ x. ap (λ s. (id == x) || s) (same x)))

among-push : (x id : ℕ) (ids earlier : List ℕ) → among x ((ids ++ id ∷ []) ++ earlier) ≡ among x (id ∷ (ids ++ earlier))
among-push x id [] earlier = refl
among-push x id (y ∷ ids) earlier = ap (λ s. (y == x) || s) (among-push x id ids earlier) ∙ swap (y == x) (id == x) (among x (ids ++ earlier))
  where
    swap : (a b c : Bool) → (a || (b || c)) ≡ (b || (a || c))
    swap true true c = refl
    swap true false c = refl
    swap false true c = refl
    swap false false c = refl

-- the first of the IDs that are left came earlier
pub repeat-here : (seen ids : List ℕ) (id : ℕ) → among id seen ≡ true → first_repeat seen (id ∷ ids) ≡ Some id
repeat-here seen ids id e = ap (λ s. if s then Some id else first_repeat (id ∷ seen) ids) e

-- it didn't
pub repeat-later : (front earlier ids : List ℕ) (id : ℕ) → among id (front ++ earlier) ≡ false
    → first_repeat (front ++ earlier) (id ∷ ids) ≡ first_repeat ((front ++ id ∷ []) ++ earlier) ids
repeat-later front earlier ids id e =
    ap (λ s. if s then Some id else first_repeat (id ∷ (front ++ earlier)) ids) e
    ∙ repeat-seen (id ∷ (front ++ earlier)) ((front ++ id ∷ []) ++ earlier) ids (λ x. sym (among-push x id front earlier))

pub among-append : (x : ℕ) (a b : List ℕ) → among x (a ++ b) ≡ (among x a || among x b)
among-append x [] b = refl
among-append x (y ∷ a) b = ap (λ s. (y == x) || s) (among-append x a b) ∙ regroup (y == x) (among x a) (among x b)
  where
    regroup : (p q r : Bool) → (p || (q || r)) ≡ ((p || q) || r)
    regroup true q r = refl
    regroup false q r = refl
