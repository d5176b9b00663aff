use Rattle.std.proofs.Common.{◌≡◌, ◌-◌, ◌^◌, ◌++◌, map, drop, length, pos, ◌≤ℤ◌, ◌<ℤ◌}
use Rattle.std.specs.Prelude.{filter_map}
use Rattle.std.specs.List.{AllByRecursion}
use Rattle.toml.specs.View.{view}
use Rattle.hk_tailoring.specs.Keys.{section_of, natural_of}
use Rattle.hk_tailoring.proofs.ListLemmas.{SameFault}
use Rattle.hk_tailoring.proofs.section.Section.value_members.Given as goal

abbrev pub invariant-loop-n : goal.invariant-loop-n
invariant-loop-n l = record {
  greatest : l.greatest ≡ 2 ^ l.bits - 1;
  checks : SameFault (section_of l.self) l.key (2 ^ l.bits - 1) l.n l.values;
  numbers : l.numbers.items ++ map pos (filter_map natural_of (map view (drop l.n l.values))) ≡ map pos (filter_map natural_of (map view l.values));
  count : length l.numbers.items ≡ l.n;
  small : AllByRecursion (λ v. (pos 0 ≤ℤ v) × (v <ℤ pos (2 ^ l.bits))) l.numbers.items;
}
