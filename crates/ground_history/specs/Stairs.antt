-- Steps, each with its place and its height, and how high they stand at each place.
use Rattle.std.specs.Prelude.{ℕ, ◌<◌, ◌≤◌, List, [], ◌∷◌, max, nat_le, IsSome, IsSomeAnd, if◌then◌else◌}
use Rattle.std.specs.List.{AllByRecursion}
use Rattle.std.specs.Map.{lookup}
use Rattle.std.specs.BTreeMap.{is_at}
use Rattle.std.specs.Ordering.{nat_cmp}

-- the greatest height of a step at this place or before it; 0 where there is none
abbrev pub height_at : List (ℕ × ℕ) → ℕ → ℕ
height_at [] place = 0
height_at (step ∷ steps) place = max (if nat_le step.0 place then step.1 else 0) (height_at steps place)

-- no step is lower than one before it
abbrev pub IsRising : List (ℕ × ℕ) → Type 0
IsRising [] = Unit {0}
IsRising (step ∷ steps) = AllByRecursion (λ later. step.1 ≤ later.1) steps × IsRising steps

-- there is a step at this place
abbrev pub HasStep : List (ℕ × ℕ) → ℕ → Type 0
HasStep steps place = IsSome (lookup (is_at (nat_cmp place)) steps)

-- a height at a place is no lower than the steps before it, and no higher than those behind it
abbrev pub FitsBetween : ℕ → ℕ → List (ℕ × ℕ) → Type 0
FitsBetween place height steps = AllByRecursion (λ step. (step.0 ≤ place → step.1 ≤ height) × (place < step.0 → height ≤ step.1)) steps

-- there is a step at this place, and it isn't higher than this
abbrev pub IsLower : ℕ → ℕ → List (ℕ × ℕ) → Type 0
IsLower place height steps = IsSomeAnd (lookup (is_at (nat_cmp place)) steps) (λ found. found ≤ height)
