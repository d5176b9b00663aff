-- Parameters by their IDs.
use Rattle.std.specs.Prelude.{◌≡◌, ℕ, List, map}
use Rattle.hk_base.specs.declared.types.Param.{Param}

-- each parameter under its ID
abbrev pub keyed : List Param → List (ℕ × Param)
keyed params = map (λ param. (param.id, param)) params

-- each key is the ID of its parameter
abbrev pub IsKeyed : List (ℕ × Param) → Type 0
IsKeyed entries = entries ≡ keyed (map (λ entry. entry.1) entries)
