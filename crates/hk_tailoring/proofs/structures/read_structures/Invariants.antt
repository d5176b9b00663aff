use Rattle.std.proofs.Common.{◌≡◌, ◌++◌, [], map, drop, length}
use Rattle.std.specs.List.{AllByRecursion, IsDistinct}
use Rattle.toml.specs.View.{view}
use Rattle.hk_base.specs.Fit.{IsFitBoot}
use Rattle.hk_base.specs.Parameters.{key_eq}
use Rattle.hk_tailoring.specs.declared.section.Place.TheVariants.{Structure}
use Rattle.hk_tailoring.specs.Params.{sections}
use Rattle.hk_tailoring.specs.Structures.{bounds_of, boot_in}
use Rattle.hk_tailoring.proofs.StructureLemmas.{SameFault}
use Rattle.hk_tailoring.proofs.structures.read_structures.Given as goal

abbrev pub invariant-loop-n : goal.invariant-loop-n
invariant-loop-n l = record {
  checks : SameFault (bounds_of l.widths) l.params l.boots.items l.n l.tables;
  boots : l.boots.items ++ map boot_in (sections Structure l.n (map view (drop l.n l.tables))) ≡ map boot_in (sections Structure 0 (map view l.tables));
  count : length l.boots.items ≡ l.n;
  fit : AllByRecursion (IsFitBoot (record { widths = l.widths; params = l.params; boots = [] })) l.boots.items;
  keys : IsDistinct key_eq (map (λ b. b.key) l.boots.items);
}
