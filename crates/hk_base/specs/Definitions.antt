-- Valid definitions of report structures.
use Rattle.std.specs.Prelude.{◌≡◌, ℕ, ◌%◌, ◌^◌, ◌<◌, ◌≤◌, List, [], ◌∷◌, ◌++◌, length, IsTrue, is_some, flat_map, ◌==◌, Option, Some, None, if◌then◌else◌}
use Rattle.std.specs.List.{list_any, AllByRecursion}
use Rattle.hk_base.specs.Parameters.{parameter}
use Rattle.hk_base.specs.TailoringParts.{TailoringParts}
use Rattle.hk_base.specs.declared.types.SuperList.{SuperList}
use Rattle.hk_base.specs.declared.types.Definition.{Definition}

-- the parameter IDs of lists, and of a definition, in reading order
abbrev pub listed_ids : List ℕ → List SuperList → List ℕ
listed_ids simple arrays = simple ++ flat_map (λ a. a.params) arrays

-- the parameter IDs of a definition
abbrev pub parameter_ids : Definition → List ℕ
parameter_ids d = listed_ids d.simple d.arrays

-- the first member that came before, among these or those that were read earlier
abbrev pub first_repeat : List ℕ → List ℕ → Option ℕ
first_repeat earlier [] = None
first_repeat earlier (id ∷ ids) = if list_any (λ e. e == id) earlier then Some id else first_repeat (id ∷ earlier) ids

-- an array whose repetition number fits its field and divides the interval
pub record IsArray (t : TailoringParts) (interval : ℕ) (a : SuperList) : Type 0 where
  pub members : 1 ≤ length a.params
  pub few : length a.params ≤ 255
  pub repeated : 1 ≤ a.repetition
  pub field : a.repetition < 256 ^ t.widths.repetition_octets
  pub divides : interval % a.repetition ≡ 0

-- an array that is small enough for its size to be a number of 32 bits
pub record IsSmallArray (a : SuperList) : Type 0 where
  pub few : length a.params ≤ 255
  pub repeated : a.repetition ≤ 4096

-- a definition that is valid, its payload size aside
pub record IsWellFormed (t : TailoringParts) (d : Definition) : Type 0 where
  pub interval : (1 ≤ d.interval) × (d.interval ≤ t.widths.max_interval)
  pub some : 1 ≤ length (parameter_ids d)
  pub known : AllByRecursion (λ id. IsTrue (is_some (parameter t id))) (parameter_ids d)
  pub once : first_repeat [] (parameter_ids d) ≡ None
  pub simple : length d.simple ≤ 255
  pub few_arrays : length d.arrays ≤ 255
  pub arrays : AllByRecursion (IsArray t d.interval) d.arrays
