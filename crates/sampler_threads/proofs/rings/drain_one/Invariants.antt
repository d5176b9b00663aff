use Rattle.std.proofs.Common.{◌≡◌, List, length}
use Rattle.sampler_threads.specs.Deeds.{TookItems}
use Rattle.sampler_threads.specs.Rings.{Drained}
use Rattle.sampler_threads.specs.declared.item.Item.{Item}
use Rattle.sampler_threads.proofs.rings.drain_one.Given as goal

abbrev pub invariant-loop-taken : goal.invariant-loop-taken
invariant-loop-taken l =
    (l.tailoring ≡ l.core.tailoring)
    × ((items : List Item) × TookItems l.initial.core items l.core × Drained l.initial.ring items l.ring × (length items ≡ l._taken))
