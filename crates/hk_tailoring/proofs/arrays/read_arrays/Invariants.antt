use Rattle.std.proofs.Common.{◌≡◌, ◌++◌, map, drop, length}
use Rattle.std.specs.List.{AllByRecursion}
use Rattle.toml.specs.View.{view}
use Rattle.hk_tailoring.specs.Params.{sections}
use Rattle.hk_tailoring.specs.Sizes.{IsFitArray}
use Rattle.hk_tailoring.specs.Structures.{bounds_of, array_in, array_place}
use Rattle.hk_tailoring.proofs.ArrayLemmas.{SameFault}
use Rattle.hk_tailoring.proofs.arrays.read_arrays.Given as goal

abbrev pub invariant-loop-n : goal.invariant-loop-n
invariant-loop-n l = record {
  checks : SameFault (bounds_of l.widths) (array_place l.structure.place) l.n l.tables;
  arrays : l.arrays.items ++ map array_in (sections (array_place l.structure.place) l.n (map view (drop l.n l.tables)))
      ≡ map array_in (sections (array_place l.structure.place) 0 (map view l.tables));
  count : length l.arrays.items ≡ l.n;
  fit : AllByRecursion (IsFitArray l.widths) l.arrays.items;
}
