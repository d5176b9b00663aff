-- The samplers of a run before a slot.
use Rattle.std.specs.Prelude.{◌≡◌, ◌<◌, ℕ, List, length, slice_index_or}
use Rattle.hk_base.specs.TailoringParts.{TailoringParts}
use Rattle.hk_base.specs.declared.outside.Sensor.{Ghosts}
use Rattle.hk_world.specs.declared.moment.Moment.{Moment}
use Rattle.board_steps.specs.Cores.{Core}
use Rattle.sampler_threads.specs.Samplings.{AreFresh}
use Rattle.sampler_threads.specs.Slots.{Ring}
use Rattle.sampler_threads.specs.declared.slot.Sampler.{Sampler}
use Rattle.sampled_slots.specs.Seats.{AreBetween, HaveOrders}

-- each has the end and the sensor that it had
pub record HaveSameSeats {N : Type 0} (before after : List (Sampler N)) : Type 0 where
  pub count : length after ≡ length before
  pub ends : (k : ℕ) (s : Sampler N) → k < length before → (slice_index_or after k s).end ≡ (slice_index_or before k s).end
  pub sensors : (k : ℕ) (s : Sampler N) → k < length before → (slice_index_or after k s).sensor ≡ (slice_index_or before k s).sensor

-- Samplers that have their orders for the slot that runs, which comes after some: nothing of it is filed yet.
pub record AreReady {S : Type 0} (g : Ghosts S) (t : TailoringParts) (was : List S) (slots : List (List Moment)) (core : Core) (rings : List Ring) (samplers : List (Sampler S)) : Type 0 where
  pub some : 0 < length was
  pub between : AreBetween g t was slots rings samplers
  pub orders : HaveOrders t (length was) (length slots) samplers
  pub fresh : AreFresh core rings samplers
