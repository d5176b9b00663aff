-- Words of a line that others come before.
use Rattle.std.specs.Prelude.{ℕ, List, ◌∷◌, flat_map}

-- words, each after a blank
abbrev pub tail : List (List ℕ) → List ℕ
tail words = flat_map (λ word. 32 ∷ word) words
