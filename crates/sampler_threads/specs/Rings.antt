-- What the executor's ends of the rings have received.
use Rattle.std.specs.Prelude.{◌≡◌, ℕ, ◌<◌, ◌≤◌, ⊤, List, [], ◌∷◌, ◌++◌, length, slice_index_or}
use Rattle.std.specs.List.{AllByRecursion}
use mathlib.Core.List.{IsPrefix}
use Rattle.rtrb.specs.Ring.{received, known_items, consumer_capacity, SameConsumer}
use Rattle.rtrb.specs.declared.consumer.Consumer.{Consumer}
use Rattle.board_steps.specs.Cores.{Core}
use Rattle.board_steps.specs.Steps.{MayFile}
use Rattle.board_steps.specs.SlotRuns.{Refuses}
use Rattle.board_steps.specs.declared.event.Sample.{Sample}
use Rattle.board_steps.specs.declared.event.Event.TheVariants.{Filing}
use Rattle.board_steps.specs.declared.event.BoardFault.{BoardFault}
use Rattle.sampler_threads.specs.Deeds.{items_from}
use Rattle.sampler_threads.specs.declared.item.Item.{Item}

-- the filing that is next is refused with this fault
abbrev pub Stops : Core → BoardFault → Type 0
Stops core fault = (sample : Sample) × MayFile core sample × Refuses core (Filing sample) fault

-- items were taken out of the rings in the order of the rings
abbrev pub AreInTurn : List (ℕ × Item) → Type 0
AreInTurn [] = ⊤
AreInTurn (taking ∷ takings) = AllByRecursion (λ later. taking.0 ≤ later.0) takings × AreInTurn takings

module _ {A P : Type 0} where
  -- a ring has received these items, and what was known of it is among them or still known
  pub record Drained (before : Consumer Item A P) (items : List Item) (after : Consumer Item A P) : Type 0 where
    pub same : SameConsumer before after
    pub taken : received after ≡ received before ++ items
    pub known : IsPrefix (known_items before) (items ++ known_items after)

  -- each ring has received the items that were taken out of it
  pub record Received (before : List (Consumer Item A P)) (takings : List (ℕ × Item)) (after : List (Consumer Item A P)) : Type 0 where
    pub count : length after ≡ length before
    pub same : (k : ℕ) (d : Consumer Item A P) → k < length before → SameConsumer (slice_index_or before k d) (slice_index_or after k d)
    pub items : (k : ℕ) (d : Consumer Item A P) → k < length before → received (slice_index_or after k d) ≡ received (slice_index_or before k d) ++ items_from k takings
    pub others : (k : ℕ) → length before ≤ k → items_from k takings ≡ []

  -- what was known of each ring was taken out of it
  abbrev pub TookKnown : List (Consumer Item A P) → List (ℕ × Item) → Type 0
  TookKnown before takings = (k : ℕ) (d : Consumer Item A P) → k < length before → IsPrefix (known_items (slice_index_or before k d)) (items_from k takings)

  -- items were taken out of the rings one ring after the other, at most as many out of each as it has places
  pub record TookInTurn (before : List (Consumer Item A P)) (takings : List (ℕ × Item)) : Type 0 where
    pub turn : AreInTurn takings
    pub most : (k : ℕ) (d : Consumer Item A P) → k < length before → length (items_from k takings) ≤ consumer_capacity (slice_index_or before k d)
