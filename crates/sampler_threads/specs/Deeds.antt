-- What an executor does in a slot: it takes items out of rings, and gives events to the core.
use Rattle.std.specs.Prelude.{◌≡◌, ℕ, ℤ, ◌⊎◌, List, [], ◌∷◌, map, filter, Bool, true, false, not, ◌&&◌, ◌==◌, Option, None, Some, option_map}
use Rattle.hk_base.specs.Parameters.{is_settable, fits}
use Rattle.hk_base.specs.declared.types.Param.{Param}
use Rattle.board_steps.specs.Cores.{Core}
use Rattle.board_steps.specs.Steps.{MayFile}
use Rattle.board_steps.specs.Runs.{IsMade}
use Rattle.board_steps.specs.SlotRuns.{Ahead, Follows}
use Rattle.board_steps.specs.declared.event.Sample.{Sample}
use Rattle.board_steps.specs.declared.event.Event.{Event}
use Rattle.board_steps.specs.declared.event.Event.TheVariants.{Filing}
use Rattle.sampler_threads.specs.declared.item.Item.{Item}

-- the sample of an item, where the sensor had a value
abbrev pub sample_of : Item → Option Sample
sample_of item = option_map (λ value. record { param = item.param; slot = item.slot; value = value }) item.value

-- a sample that may be filed is filed, and every other one is dropped; no value is nothing to file
abbrev pub FilesAny : Core → Option Sample → Core → Type 0
FilesAny core None after = after ≡ core
FilesAny core (Some sample) after = IsMade core (Filing sample) after ⊎ ((MayFile core sample → ⊥) × (after ≡ core))

-- what becomes of an item that is taken, and of the core
abbrev pub Takes : Core → Item → Core → Type 0
Takes core item after = FilesAny core (sample_of item) after

-- items are taken one after the other
abbrev pub TookItems : Core → List Item → Core → Type 0
TookItems core [] after = after ≡ core
TookItems core (item ∷ items) after = (mid : Core) × Takes core item mid × TookItems mid items after

-- items are taken one after the other, each out of the ring with its number
abbrev pub Took : Core → List (ℕ × Item) → Core → Type 0
Took core [] after = after ≡ core
Took core (taking ∷ takings) after = (mid : Core) × Takes core taking.1 mid × Took mid takings after

-- the items that were taken out of one ring, in order
abbrev pub items_from : ℕ → List (ℕ × Item) → List Item
items_from number takings = map (λ taking. taking.1) (filter (λ taking. taking.0 == number) takings)

-- what an executor does: it takes an item out of the ring with this number, or gives the core an event
pub data Deed : Type 0 where
  takes : ℕ × Item → Deed
  gives : Event → Deed

-- the items that are taken, in order
abbrev pub takings : List Deed → List (ℕ × Item)
takings [] = []
takings (takes taking ∷ deeds) = taking ∷ takings deeds
takings (gives event ∷ deeds) = takings deeds

-- What an executor does in an open slot, in order; the last two say what is ahead then, and what the core has become.
abbrev pub Went : Ahead → Core → List Deed → Ahead → Core → Type 0
Went ahead core [] next after = (next ≡ ahead) × (after ≡ core)
Went ahead core (takes taking ∷ deeds) next after =
    (ahead.is_open ≡ true) × ((mid : Core) × Takes core taking.1 mid × Went ahead mid deeds next after)
Went ahead core (gives event ∷ deeds) next after =
    (ahead.is_open ≡ true)
    × ((between : Ahead) × (mid : Core) × Follows ahead core event between × IsMade core event mid × Went between mid deeds next after)

-- whether a value fits a sensed parameter
abbrev pub is_sensed_value : ℤ → Param → Bool
is_sensed_value value param = not (is_settable param) && fits param value

-- a test that tells whether something is so
abbrev pub Tells : Bool → Type 0 → Type 0
Tells true P = P
Tells false P = P → ⊥
