use Rattle.std.proofs.Common.{◌≡◌, ◌<◌, ◌≤◌, ℕ, List, [], length}
use Rattle.std.specs.List.{slice_index_or, AllByRecursion}
use mathlib.Core.List.{IsPrefix}
use Rattle.rtrb.specs.Ring.{known_items, consumer_capacity}
use Rattle.sampler_threads.specs.Deeds.{Took, items_from}
use Rattle.sampler_threads.specs.Rings.{Received, AreInTurn}
use Rattle.sampler_threads.specs.declared.item.Item.{Item}
use Rattle.sampler_threads.proofs.rings.drain_all.Given as goal

abbrev pub invariant-loop-k : goal.invariant-loop-k
invariant-loop-k l =
    (l.tailoring ≡ l.core.tailoring)
    × ((takings : List (ℕ × Item)) × Took l.initial.core takings l.core × Received l.initial.rings takings l.rings
    × ((j : ℕ) (d : _) → j < l.k → IsPrefix (known_items (slice_index_or l.initial.rings j d)) (items_from j takings))
    × ((j : ℕ) (d : _) → l.k ≤ j → slice_index_or l.rings j d ≡ slice_index_or l.initial.rings j d)
    × ((j : ℕ) → l.k ≤ j → items_from j takings ≡ [])
    × AreInTurn takings
    × AllByRecursion (λ (t : ℕ × Item). t.0 < l.k) takings
    × ((j : ℕ) (d : _) → j < length l.initial.rings → length (items_from j takings) ≤ consumer_capacity (slice_index_or l.initial.rings j d)))
