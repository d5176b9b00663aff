use Rattle.std.proofs.Common.{◌≡◌, ◌++◌, map, drop, length}
use Rattle.std.specs.Prelude.{filter_map}
use Rattle.toml.specs.View.{view}
use Rattle.hk_tailoring.specs.Keys.{section_of, natural_of}
use Rattle.hk_tailoring.proofs.ListLemmas.{SameFault}
use Rattle.hk_tailoring.proofs.section.Section.id_members.Given as goal

abbrev pub invariant-loop-n : goal.invariant-loop-n
invariant-loop-n l = record {
  checks : SameFault (section_of l.self) l.key l.greatest l.n l.values;
  ids : l.ids.items ++ filter_map natural_of (map view (drop l.n l.values)) ≡ filter_map natural_of (map view l.values);
  count : length l.ids.items ≡ l.n;
}
