use Rattle.std.proofs.Common.{◌≡◌, ◌∙◌, ℕ, List, IfOk, map, [], ap, sym, subst}
use Rattle.std.specs.Prelude.{filter_map, if◌then◌else◌}
use Rattle.hk_base.specs.declared.types.Key.{Key}
use Rattle.st03_grammar.specs.Instructions.{each_changes, key_of, structure_changes}
use Rattle.st03_grammar.specs.declared.bodies.Pair.{Pair}
use Rattle.st03_grammar.specs.declared.bodies.Request03.{Request03}
use Rattle.pus_messages.specs.Instructions.{on_structures}
use Rattle.verdict_tables.specs.Places.{changed_key}
use Rattle.verdict_tables.proofs.KeyLemmas.{each-keys, pair-keys}
use Rattle.verdict_tables.proofs.keys.changed_structures.Goals as goal

pub returns-in-OnEach : goal.returns-in-OnEach
returns-in-OnEach c =
    subst (λ (ks : List Key). IfOk c.each_key.result (λ keys. keys.items ≡ ks))
    (ap (λ (ids : List ℕ). if each_changes c.in-OnEach.each then map (key_of c.in-OnEach.kind) ids else []) c.as_slice.ensures
    ∙ (each-keys c.in-OnEach.each c.in-OnEach.kind c.in-OnEach.ids
    ∙ sym (ap (λ (r : Request03). filter_map changed_key (on_structures (structure_changes r))) c.in-OnEach.is)))
    c.each_key.ensures

pub returns-in-Intervals : goal.returns-in-Intervals
returns-in-Intervals c =
    subst (λ (ks : List Key). IfOk c.interval_keys.result (λ keys. keys.items ≡ ks))
    (ap (λ (pairs : List Pair). map (λ pair. key_of c.in-Intervals.kind pair.id) pairs) c.as_slice-in-Intervals.ensures
    ∙ (pair-keys c.in-Intervals.kind c.in-Intervals.pairs
    ∙ sym (ap (λ (r : Request03). filter_map changed_key (on_structures (structure_changes r))) c.in-Intervals.is)))
    c.interval_keys.ensures
