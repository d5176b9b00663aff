-- Samplers with their orders, from slot to slot of a run.
use Rattle.std.specs.Prelude.{◌≡◌, ◌<◌, ℕ, List, length, map, slice_index_or}
use Rattle.rtrb.specs.Ring.{received}
use Rattle.hk_base.specs.Outside.{GivesAlike, StaysSure}
use Rattle.hk_base.specs.TailoringParts.{TailoringParts}
use Rattle.hk_base.specs.declared.outside.Sensor.{Ghosts}
use Rattle.hk_world.specs.declared.moment.Moment.{Moment}
use Rattle.sampler_threads.specs.Orders.{orders_for}
use Rattle.sampler_threads.specs.Samples.{sent_by}
use Rattle.sampler_threads.specs.Samplings.{Filed, FiledPart, HavePlaces}
use Rattle.sampler_threads.specs.Slots.{IsEndOf, Ring, WithEach, ends_of}
use Rattle.sampler_threads.specs.declared.end.SamplerEnd.{SamplerEnd}
use Rattle.sampler_threads.specs.declared.slot.Sampler.{Sampler}
use Rattle.board_runs.specs.Samplers.{AreCounted, AreSampled}

-- the sensors of samplers
abbrev pub sensors_of : {S : Type 0} → List (Sampler S) → List S
sensors_of samplers = map (λ s. s.sensor) samplers

-- each sampler has the orders for a slot that are its own among those of so many samplers
abbrev pub HaveOrders : {S : Type 0} → TailoringParts → ℕ → ℕ → List (Sampler S) → Type 0
HaveOrders {S} t count slot samplers =
    (k : ℕ) (s : Sampler S) → k < length samplers → (slice_index_or samplers k s).orders ≡ orders_for t count k slot

-- of each ring all that its end has sent was taken
abbrev pub AreTakenOut : List Ring → List SamplerEnd → Type 0
AreTakenOut rings ends =
    (k : ℕ) (r : Ring) (e : SamplerEnd) → k < length ends → received (slice_index_or rings k r) ≡ sent_by (slice_index_or ends k e)

-- Sensors that give what they gave, and are sure of all of which they were sure.
pub record HaveStayed {S : Type 0} (g : Ghosts S) (was is : List S) : Type 0 where
  pub count : length is ≡ length was
  pub gives : (k : ℕ) (x : S) → k < length was → GivesAlike (g.gives (slice_index_or was k x)) (g.gives (slice_index_or is k x))
  pub stays_sure : (k : ℕ) (x : S) → k < length was → StaysSure (g.is_sure (slice_index_or was k x)) (g.is_sure (slice_index_or is k x))

-- Samplers at the start of a slot: each has its orders for it, and a sensor as at the start of the run.
pub record HaveSeats {S : Type 0} (g : Ghosts S) (t : TailoringParts) (was : List S) (slot : ℕ) (samplers : List (Sampler S)) : Type 0 where
  pub orders : HaveOrders t (length was) slot samplers
  pub stayed : HaveStayed g was (sensors_of samplers)

-- what moments file of each sampler, where they are those of a whole slot
abbrev pub AreFiled : {S : Type 0} → Ghosts S → TailoringParts → List Moment → List (Sampler S) → List (Sampler S) → Type 0
AreFiled {S} g t moments samplers after =
    (k : ℕ) (s : Sampler S) → k < length samplers → Filed g t moments (slice_index_or samplers k s) (slice_index_or after k s)

-- the same of a slot that was run up to a step
abbrev pub AreFiledInPart : {S : Type 0} → Ghosts S → TailoringParts → List Moment → List (Sampler S) → Type 0
AreFiledInPart {S} g t moments samplers = (k : ℕ) (s : Sampler S) → k < length samplers → FiledPart g t moments (slice_index_or samplers k s)

-- Samplers between two slots of a run: what was filed so far is as a run allows, and each sampler can go on with its end and its sensor.
pub record AreBetween {S : Type 0} (g : Ghosts S) (t : TailoringParts) (was : List S) (slots : List (List Moment)) (rings : List Ring) (samplers : List (Sampler S)) : Type 0 where
  pub sampled : AreSampled g t was slots
  pub counted : AreCounted g t was (sensors_of samplers) slots
  pub stayed : HaveStayed g was (sensors_of samplers)
  pub places : HavePlaces t (length was) (ends_of samplers)
  pub paired : WithEach IsEndOf rings (ends_of samplers)
  pub taken_out : AreTakenOut rings (ends_of samplers)
