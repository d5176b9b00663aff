use Rattle.std.proofs.Common.{◌≡◌, map, string_bytes}
use Rattle.hk_tailoring.specs.Keys.{section_of}
use Rattle.hk_tailoring.specs.Known.{known_keys, unknown_key, first_other}
use Rattle.hk_tailoring.proofs.section.Section.first_unknown.Given as goal

abbrev pub invariant-loop-key : goal.invariant-loop-key
invariant-loop-key l = record {
  can : (goal.iterator-loop-key).can_next l.key-iterator;
  finite : (goal.iterator-loop-key).is_finite l.key-iterator;
  rest : first_other (known_keys l.kind) (map string_bytes l.key-iterator) ≡ unknown_key (known_keys l.kind) (section_of l.self).members;
}
