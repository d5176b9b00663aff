-- Sets of parameter IDs, as lists.
use Rattle.std.specs.Prelude.{◌≡◌, ℕ, List, Bool, ◌==◌}
use Rattle.std.specs.List.{list_any}
use Rattle.hk_base.specs.declared.types.Param.{Param}

-- whether an ID is in a set
abbrev pub has_id : List ℕ → ℕ → Bool
has_id ids id = list_any (λ e. e == id) ids

-- two lists are the same set of IDs
abbrev pub AreSame : List ℕ → List ℕ → Type 0
AreSame ids others = (id : ℕ) → has_id ids id ≡ has_id others id

-- a set has the IDs of some parameters and no others
abbrev pub AreIdsOf : List Param → List ℕ → Type 0
AreIdsOf params ids = (id : ℕ) → has_id ids id ≡ list_any (λ p. p.id == id) params
