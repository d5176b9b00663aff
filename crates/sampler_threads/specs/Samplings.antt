-- Which samples a slot files.
use Rattle.std.specs.Prelude.{◌≡◌, ◌≢◌, ℕ, ◌+◌, ◌<◌, ◌≤◌, ⊤, ◌⊎◌, min, Bool, true, false, not, ◌==◌, ◌&&◌, List, [], ◌∷◌, ◌++◌, length, map, filter, filter_map, Option, None, Some, slice_index_or}
use Rattle.std.specs.Option.{option_map_or}
use Rattle.std.specs.List.{list_any, AllByRecursion}
use mathlib.Core.List.{IsPrefix}
use Rattle.rtrb.specs.Ring.{received}
use Rattle.hk_base.specs.Outside.{most_faults}
use Rattle.hk_base.specs.TailoringParts.{TailoringParts}
use Rattle.hk_base.specs.Parameters.{parameter, is_settable}
use Rattle.hk_base.specs.declared.outside.Sensor.{Ghosts}
use Rattle.hk_base.specs.declared.types.Param.{Param}
use Rattle.hk_world.specs.declared.moment.Moment.{Moment}
use Rattle.board_steps.specs.Cores.{Core}
use Rattle.board_steps.specs.SlotRuns.{filings}
use Rattle.board_steps.specs.Slots.{is_filed}
use Rattle.board_steps.specs.declared.event.Sample.{Sample}
use Rattle.sampler_threads.specs.Samples.{sent_by, places_of}
use Rattle.sampler_threads.specs.Orders.{orders_for}
use Rattle.sampler_threads.specs.declared.end.SamplerEnd.{SamplerEnd}
use Rattle.sampler_threads.specs.Deeds.{sample_of}
use Rattle.sampler_threads.specs.Slots.{Ring, AreReadings, failures}
use Rattle.sampler_threads.specs.declared.item.Item.{Item}
use Rattle.sampler_threads.specs.declared.item.Order.{Order}
use Rattle.sampler_threads.specs.declared.slot.Sampler.{Sampler}

-- the samples that items carry, in order
abbrev pub samples_of : List Item → List Sample
samples_of items = filter_map sample_of items

-- whether a parameter is sensed
abbrev pub is_sensed : Option Param → Bool
is_sensed param = option_map_or (λ p. not (is_settable p)) param false

-- whether a sample is of a sensed parameter
abbrev pub is_sensed_sample : TailoringParts → Sample → Bool
is_sensed_sample t sample = is_sensed (parameter t sample.param)

-- the samples of sensed parameters that moments file, in order
abbrev pub sensed_filings : TailoringParts → List Moment → List Sample
sensed_filings t moments = filter (is_sensed_sample t) (filings moments)

-- whether a sample is of one of the orders
abbrev pub is_ordered : List Order → Sample → Bool
is_ordered orders sample = list_any (λ order. order.param == sample.param) orders

-- of each two orders the parameters differ
abbrev pub AreDistinctOrders : List Order → Type 0
AreDistinctOrders [] = ⊤
AreDistinctOrders (order ∷ orders) = AllByRecursion (λ other. other.param ≢ order.param) orders × AreDistinctOrders orders

-- an order for the slot that runs, of a sensed parameter that has no sample yet
abbrev pub IsDue : Core → Order → Type 0
IsDue core order = (order.slot ≡ core.slot_now) × (is_sensed (parameter core.tailoring order.param) ≡ true) × (is_filed core order.param ≡ false)

-- no sensed parameter has a sample in the slot that runs
abbrev pub NoneFiled : Core → Type 0
NoneFiled core = (param : ℕ) → is_sensed (parameter core.tailoring param) ≡ true → is_filed core param ≡ false

-- The samplers' orders are due, no parameter stands in two of them, and nothing that was sent is left to take.
pub record AreFresh {N : Type 0} (core : Core) (rings : List Ring) (samplers : List (Sampler N)) : Type 0 where
  pub due : (k : ℕ) (s : Sampler N) → k < length samplers → AllByRecursion (IsDue core) (slice_index_or samplers k s).orders
  pub distinct : (k : ℕ) (s : Sampler N) → k < length samplers → AreDistinctOrders (slice_index_or samplers k s).orders
  pub apart : (j k : ℕ) (s : Sampler N) → j < length samplers → k < length samplers → j ≢ k
      → AllByRecursion (λ order. AllByRecursion (λ other. other.param ≢ order.param) (slice_index_or samplers k s).orders) (slice_index_or samplers j s).orders
  pub empty : (k : ℕ) (r : Ring) (s : Sampler N) → k < length samplers → received (slice_index_or rings k r) ≡ sent_by (slice_index_or samplers k s).end

-- Of one sampler, after a whole slot: its filings are its readings with a value, in the order of its orders; a reading without one raised the sensor's count.
abbrev pub Filed : {N : Type 0} → Ghosts N → TailoringParts → List Moment → Sampler N → Sampler N → Type 0
Filed g t moments s after =
    (items : List Item) × (filter (is_ordered s.orders) (sensed_filings t moments) ≡ samples_of items)
    × AreReadings g t s.sensor s.orders items
    × (min (g.faults s.sensor + failures items) most_faults ≤ g.faults after.sensor)

-- Of one sampler, after a slot that was run up to a step: its filings are its first readings with a value.
abbrev pub FiledPart : {N : Type 0} → Ghosts N → TailoringParts → List Moment → Sampler N → Type 0
FiledPart g t moments s =
    (taken : List Item) × (left : List Item)
    × (filter (is_ordered s.orders) (sensed_filings t moments) ≡ samples_of taken)
    × ((taken ++ left ≡ []) ⊎ AreReadings g t s.sensor s.orders (taken ++ left))

-- each end's ring has one place more than its sampler has parameters
abbrev pub HavePlaces : TailoringParts → ℕ → List SamplerEnd → Type 0
HavePlaces t samplers ends = (k : ℕ) (e : SamplerEnd) → k < length ends → places_of (slice_index_or ends k e) ≡ length (orders_for t samplers k 0) + 1
