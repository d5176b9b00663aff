-- Samplers with their ends of the rings, and what all arms of a slot do.
use Rattle.std.specs.Prelude.{◌≡◌, ◌≢◌, ◌+◌, ◌^◌, ◌<◌, ◌≤◌, ℕ, ℤ, min, ⊤, ◌⊎◌, List, [], ◌∷◌, ◌++◌, length, map, Option, Some, None, IfSome, IsSome, IsTrue, slice_index_or, true}
use Rattle.std.specs.List.{AllByRecursion}
use Rattle.std.specs.Global.{Global}
use Rattle.rtrb.specs.Ring.{received, known_items, IsPair, ConsumerLooked}
use Rattle.rtrb.specs.declared.AnyItems.{AnyItems}
use Rattle.rtrb.specs.declared.consumer.Consumer.{Consumer}
use Rattle.hk_base.specs.Outside.{GivesAlike, StaysSure, most_faults}
use Rattle.hk_base.specs.Parameters.{parameter, fits}
use Rattle.hk_base.specs.TailoringParts.{TailoringParts}
use Rattle.hk_base.specs.declared.outside.Sensor.{Ghosts}
use Rattle.hk_base.specs.declared.types.Param.{Param}
use Rattle.board_steps.specs.Cores.{Core}
use Rattle.board_steps.specs.declared.event.BoardFault.{BoardFault}
use Rattle.sampler_threads.specs.Samples.{SameEnd, sent_by, free_of, places_of}
use Rattle.board_steps.specs.SlotRuns.{Ahead, IsIdle, IsStopped, at_start, at_end}
use Rattle.sampler_threads.specs.Deeds.{Deed, Went, takings}
use Rattle.sampler_threads.specs.Rings.{Received}
use Rattle.sampler_threads.specs.declared.item.Item.{Item}
use Rattle.sampler_threads.specs.declared.item.Order.{Order}
use Rattle.sampler_threads.specs.declared.end.SamplerEnd.{SamplerEnd}
use Rattle.sampler_threads.specs.declared.slot.Sampler.{Sampler}

-- the executor's end of a ring
abbrev pub Ring : Type 0
Ring = Consumer Item Global AnyItems

-- the two ends of a ring have looked at each other: the executor knows of all that was sent and isn't taken, and the other end of all free places
pub record Met (ring : Ring) (end : SamplerEnd) (ring_after : Ring) (end_after : SamplerEnd) : Type 0 where
  pub pair : IsPair end_after.producer ring_after
  pub looked : ConsumerLooked ring ring_after
  pub same : SameEnd end end_after
  pub sent : sent_by end_after ≡ sent_by end
  pub whole : received ring_after ++ known_items ring_after ≡ sent_by end_after
  pub free : places_of end_after + length (received ring_after) ≤ free_of end_after + length (sent_by end_after)

-- all that was sent was taken, and all places are known to be free
pub record Settled (ring : Ring) (end : SamplerEnd) : Type 0 where
  pub whole : received ring ≡ sent_by end
  pub free : places_of end ≤ free_of end

-- a sampler whose end has looked
abbrev pub MetSampler : {N : Type 0} → Ring → Ring → Sampler N → Sampler N → Type 0
MetSampler ring ring_after s after = Met ring s.end ring_after after.end × (after.sensor ≡ s.sensor) × (after.orders ≡ s.orders)

-- an end that has looked
abbrev pub MetEnd : Ring → Ring → SamplerEnd → SamplerEnd → Type 0
MetEnd ring ring_after end after = Met ring end ring_after after

-- an end that has sent nothing more
abbrev pub KeptEnd : Ring → Ring → SamplerEnd → SamplerEnd → Type 0
KeptEnd ring ring_after end after = SameEnd end after × (sent_by after ≡ sent_by end)

-- the two ends of a ring through which nothing has gone, with all its places known to be free
abbrev pub FreshEnd : Ring → SamplerEnd → Type 0
FreshEnd ring end = IsPair end.producer ring × (received ring ≡ []) × (known_items ring ≡ []) × (sent_by end ≡ []) × (free_of end ≡ places_of end)

-- R holds of each ring, and of what stands at its place, before and after
pub record AtEach {X : Type 0} (R : Ring → Ring → X → X → Type 0) (rings rings_after : List Ring) (xs after : List X) : Type 0 where
  pub count : length rings_after ≡ length rings
  pub others : length after ≡ length xs
  pub each : (k : ℕ) (r : Ring) (x : X) → k < length rings → R (slice_index_or rings k r) (slice_index_or rings_after k r) (slice_index_or xs k x) (slice_index_or after k x)

-- R holds of each ring and what stands at its place
pub record WithEach {X : Type 0} (R : Ring → X → Type 0) (rings : List Ring) (xs : List X) : Type 0 where
  pub count : length xs ≡ length rings
  pub each : (k : ℕ) (r : Ring) (x : X) → k < length rings → R (slice_index_or rings k r) (slice_index_or xs k x)

-- the end of a sampler, or an end, is that of the ring
abbrev pub IsSamplerOf : {N : Type 0} → Ring → Sampler N → Type 0
IsSamplerOf ring s = IsPair s.end.producer ring

-- an end is that of the ring
abbrev pub IsEndOf : Ring → SamplerEnd → Type 0
IsEndOf ring end = IsPair end.producer ring

-- the ends of samplers
abbrev pub ends_of : {N : Type 0} → List (Sampler N) → List SamplerEnd
ends_of samplers = map (λ s. s.end) samplers

-- a sampler of which all was taken
abbrev pub SettledSampler : {N : Type 0} → Ring → Sampler N → Type 0
SettledSampler ring s = Settled ring s.end

-- what was taken and what is known of a ring is all that was sent
abbrev pub IsWhole : {N : Type 0} → Ring → Sampler N → Type 0
IsWhole ring s = received ring ++ known_items ring ≡ sent_by s.end

-- a sampler that has sent nothing, and has the same sensor and orders
abbrev pub KeptSampler : {N : Type 0} → Ring → Ring → Sampler N → Sampler N → Type 0
KeptSampler ring ring_after s after =
    SameEnd s.end after.end × (sent_by after.end ≡ sent_by s.end) × (after.sensor ≡ s.sensor) × (after.orders ≡ s.orders)

-- orders of known parameters
abbrev pub AreKnown : TailoringParts → List Order → Type 0
AreKnown t orders = AllByRecursion (λ order. IsSome (parameter t order.param)) orders

-- what a reading of a parameter can be: a value that the sensor gives and that fits, or none where the sensor isn't sure of it
abbrev pub IsReadingOf : {S : Type 0} → Ghosts S → Option Param → S → ℕ → Option ℤ → Type 0
IsReadingOf g None sensor slot value = ⊤
IsReadingOf g (Some param) sensor slot (Some value) = g.gives sensor param slot value × IsTrue (fits param value)
IsReadingOf g (Some param) sensor slot None = g.is_sure sensor param slot → ⊥

-- an item of each order, in their order
abbrev pub AreReadings : {S : Type 0} → Ghosts S → TailoringParts → S → List Order → List Item → Type 0
AreReadings g t sensor [] [] = ⊤
AreReadings g t sensor [] (item ∷ items) = ⊥
AreReadings g t sensor (order ∷ orders) [] = ⊥
AreReadings g t sensor (order ∷ orders) (item ∷ items) =
    ((item.param ≡ order.param) × (item.slot ≡ order.slot) × IsReadingOf g (parameter t order.param) sensor order.slot item.value)
    × AreReadings g t sensor orders items

-- how many items have no value
abbrev pub one_if_none : Option ℤ → ℕ
one_if_none None = 1
one_if_none (Some value) = 0

-- how many items have no value
abbrev pub failures : List Item → ℕ
failures [] = 0
failures (item ∷ items) = one_if_none item.value + failures items

-- a sampler that took all its orders, none of which came back
pub record Sampled {N : Type 0} (g : Ghosts N) (t : TailoringParts) (s after : Sampler N) : Type 0 where
  pub same : SameEnd s.end after.end
  pub orders : after.orders ≡ s.orders
  pub items : (items : List Item) × (sent_by after.end ≡ sent_by s.end ++ items) × AreReadings g t s.sensor s.orders items
      × (min (g.faults s.sensor + failures items) most_faults ≤ g.faults after.sensor)
  pub gives : GivesAlike (g.gives s.sensor) (g.gives after.sensor)
  pub stays_sure : StaysSure (g.is_sure s.sensor) (g.is_sure after.sensor)

-- every sampler took all its orders
pub record AreSampled {N : Type 0} (g : Ghosts N) (t : TailoringParts) (samplers after : List (Sampler N)) : Type 0 where
  pub count : length after ≡ length samplers
  pub each : (k : ℕ) (s : Sampler N) → k < length samplers → Sampled g t (slice_index_or samplers k s) (slice_index_or after k s)

-- a sampler that took all its orders, or none
pub record MaySample {N : Type 0} (g : Ghosts N) (t : TailoringParts) (s after : Sampler N) : Type 0 where
  pub same : SameEnd s.end after.end
  pub orders : after.orders ≡ s.orders
  pub items : (items : List Item) × (sent_by after.end ≡ sent_by s.end ++ items) × ((items ≡ []) ⊎ AreReadings g t s.sensor s.orders items)

-- every sampler took all its orders, or none
pub record MaySampleAll {N : Type 0} (g : Ghosts N) (t : TailoringParts) (samplers after : List (Sampler N)) : Type 0 where
  pub count : length after ≡ length samplers
  pub each : (k : ℕ) (s : Sampler N) → k < length samplers → MaySample g t (slice_index_or samplers k s) (slice_index_or after k s)

-- a sampler's orders are of known parameters, and fewer than its ring has places
abbrev pub CanOrderAll : {N : Type 0} → TailoringParts → List (Sampler N) → Type 0
CanOrderAll {N} t samplers =
    (k : ℕ) (s : Sampler N) → k < length samplers
    → AreKnown t (slice_index_or samplers k s).orders × (length (slice_index_or samplers k s).orders < places_of (slice_index_or samplers k s).end)

-- a sampler's orders are of known parameters, and its end knows of a free place for each
abbrev pub CanSample : {N : Type 0} → TailoringParts → Sampler N → Type 0
CanSample t s = AreKnown t s.orders × (length s.orders ≤ free_of s.end)

-- every sampler can take its orders
abbrev pub CanSampleAll : {N : Type 0} → TailoringParts → List (Sampler N) → Type 0
CanSampleAll {N} t samplers = (k : ℕ) (s : Sampler N) → k < length samplers → CanSample t (slice_index_or samplers k s)

-- packets of at most 2^31 octets
abbrev pub AreSmall : List (List ℕ) → Type 0
AreSmall packets = AllByRecursion (λ packet. length packet ≤ 2 ^ 31) packets

-- nothing is ahead but the end of the slot
abbrev pub IsReadyToClose : Ahead → Core → Type 0
IsReadyToClose ahead core = (ahead.is_open ≡ true) × IsIdle ahead core × (ahead.packets ≡ [])

-- an uplink is the next one
abbrev pub IsUplinkNext : Ahead → Core → List ℕ → List (List ℕ) → Type 0
IsUplinkNext ahead core packet later = (ahead.is_open ≡ true) × IsIdle ahead core × (ahead.packets ≡ packet ∷ later)

-- what an executor has done from some place in a slot on
pub record ServedFrom (before : Ahead) (core : Core) (rings : List Ring) (deeds : List Deed) (ahead : Ahead) (after : Core) (rings_after : List Ring) : Type 0 where
  pub went : Went before core deeds ahead after
  pub is_open : ahead.is_open ≡ true
  pub received : Received rings (takings deeds) rings_after

-- what an executor's arm has done
abbrev pub Served : List (List ℕ) → Core → List Ring → List Deed → Ahead → Core → List Ring → Type 0
Served uplinks core rings deeds ahead after rings_after = ServedFrom (at_start uplinks) core rings deeds ahead after rings_after

-- A slot that was run: its uplinks in order, each followed by work until nothing waits, with filings anywhere among them, and its end last. All that was sent was taken.
pub record Ran {N : Type 0} (g : Ghosts N) (t : TailoringParts) (uplinks : List (List ℕ)) (core : Core) (rings : List Ring) (samplers : List (Sampler N)) (deeds : List Deed) (after : Core) (rings_after : List Ring) (samplers_after : List (Sampler N)) : Type 0 where
  pub went : Went (at_start uplinks) core deeds at_end after
  pub received : Received rings (takings deeds) rings_after
  pub settled : WithEach SettledSampler rings_after samplers_after
  pub sampled : AreSampled g t samplers samplers_after

-- a slot that was run up to a step, and why it went no further
pub record RanPart {N : Type 0} (g : Ghosts N) (t : TailoringParts) (uplinks : List (List ℕ)) (core : Core) (rings : List Ring) (samplers : List (Sampler N)) (fault : BoardFault) (deeds : List Deed) (ahead : Ahead) (after : Core) (rings_after : List Ring) (samplers_after : List (Sampler N)) : Type 0 where
  pub went : Went (at_start uplinks) core deeds ahead after
  pub received : Received rings (takings deeds) rings_after
  pub whole : WithEach IsWhole rings_after samplers_after
  pub sampled : MaySampleAll g t samplers samplers_after
  pub stopped : IsStopped ahead after fault
