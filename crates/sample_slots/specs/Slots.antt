-- Definitions that have samples whatever the tailoring, and the samples of their arrays.
use Rattle.std.specs.Prelude.{◌≡◌, ℕ, ◌-◌, ◌/◌, ◌%◌, ◌≤◌, List, map, length, flat_map, All}
use Rattle.hk_base.specs.Definitions.{parameter_ids}
use Rattle.hk_base.specs.Payload.{repetitions}
use Rattle.hk_base.specs.declared.types.Place.{Place}
use Rattle.hk_base.specs.declared.types.SuperList.{SuperList}
use Rattle.hk_base.specs.declared.types.Definition.{Definition}

-- an array whose repetitions are equal parts of the interval
pub record IsSampledArray (interval : ℕ) (a : SuperList) : Type 0 where
  pub members : 1 ≤ length a.params
  pub few : length a.params ≤ 255
  pub repeated : 1 ≤ a.repetition
  pub divides : interval % a.repetition ≡ 0

-- a definition whose reports have samples, whatever the tailoring
pub record IsSampled (d : Definition) : Type 0 where
  pub interval : (1 ≤ d.interval) × (d.interval ≤ 4096)
  pub some : 1 ≤ length (parameter_ids d)
  pub simple : length d.simple ≤ 255
  pub few_arrays : length d.arrays ≤ 255
  pub arrays : All (IsSampledArray d.interval) d.arrays

-- the samples of parameters that are taken in one slot
abbrev pub slot_places : ℕ → List ℕ → List Place
slot_places slot ids = map (λ id. record { param = id; slot = slot }) ids

-- the samples of an array, in a report with this last slot
abbrev pub array_places : ℕ → ℕ → SuperList → List Place
array_places last interval a = flat_map (λ g. slot_places (last - g.lag) g.params) (repetitions a.params (interval / a.repetition) a.repetition)
