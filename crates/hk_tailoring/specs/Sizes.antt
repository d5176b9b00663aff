-- What is known of the parts of a tailoring as they are read, before all of it is.
use Rattle.std.specs.Prelude.{◌≤◌, ◌<◌, ◌^◌, length}
use Rattle.hk_base.specs.Fit.{IsWithin}
use Rattle.hk_base.specs.declared.types.Widths.{Widths}
use Rattle.hk_base.specs.declared.types.SuperList.{SuperList}
use Rattle.hk_base.specs.declared.types.Definition.{Definition}
use Rattle.std.specs.List.{AllByRecursion}

-- an array that is fit, as far as it doesn't depend on the parameters and on the interval
pub record IsFitArray (w : Widths) (a : SuperList) : Type 0 where
  pub members : 1 ≤ length a.params
  pub few : length a.params ≤ 255
  pub repeated : 1 ≤ a.repetition
  pub field : a.repetition < 256 ^ w.repetition_octets

-- a definition that is fit, as far as it doesn't depend on the parameters
pub record IsFitDefinition (w : Widths) (d : Definition) : Type 0 where
  pub interval : IsWithin 1 w.max_interval d.interval
  pub simple : length d.simple ≤ 255
  pub few_arrays : length d.arrays ≤ 255
  pub arrays : AllByRecursion (IsFitArray w) d.arrays
