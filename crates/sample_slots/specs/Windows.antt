-- The latest samples of a parameter, each a slot and a value.
use Rattle.std.specs.Prelude.{ℕ, ◌<◌, ⊤, List, [], ◌∷◌, ℤ, Option, find, option_map, ◌==◌}
use Rattle.std.specs.List.{AllByRecursion}

-- samples in the order of their slots
abbrev pub AreRising : List (ℕ × ℤ) → Type 0
AreRising [] = ⊤
AreRising (s ∷ ss) = AllByRecursion (λ later. s.0 < later.0) ss × AreRising ss

-- the value that was sampled in a slot
abbrev pub sample_at : List (ℕ × ℤ) → ℕ → Option ℤ
sample_at samples slot = option_map (λ s. s.1) (find (λ s. s.0 == slot) samples)
