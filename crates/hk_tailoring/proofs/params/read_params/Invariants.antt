use Rattle.std.proofs.Common.{◌≡◌, ◌++◌, map, drop, length, nat_eq}
use Rattle.std.specs.List.{AllByRecursion, IsDistinct}
use Rattle.toml.specs.View.{view}
use Rattle.hk_base.specs.Fit.{IsFitParam}
use Rattle.hk_tailoring.specs.declared.section.Place.TheVariants.{Parameter}
use Rattle.hk_tailoring.specs.Ids.{AreIdsOf}
use Rattle.hk_tailoring.specs.Params.{param_in, sections}
use Rattle.hk_tailoring.proofs.ParamLemmas.{SameFault}
use Rattle.hk_tailoring.proofs.params.read_params.Given as goal

abbrev pub invariant-loop-n : goal.invariant-loop-n
invariant-loop-n l = record {
  checks : SameFault l.widths.parameter_octets l.widths.packed l.params.items l.n l.tables;
  params : l.params.items ++ map (param_in l.widths.packed) (sections Parameter l.n (map view (drop l.n l.tables)))
      ≡ map (param_in l.widths.packed) (sections Parameter 0 (map view l.tables));
  count : length l.params.items ≡ l.n;
  fit : AllByRecursion (IsFitParam l.widths) l.params.items;
  ids : IsDistinct nat_eq (map (λ p. p.id) l.params.items);
  known : AreIdsOf l.params.items l.ids;
}
