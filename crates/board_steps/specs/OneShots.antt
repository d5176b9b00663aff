-- What holds of the one-shots of each board.
use Rattle.std.specs.Prelude.{◌≡◌, ℕ, ◌+◌, ◌<◌, Some}
use Rattle.hk_base.specs.declared.types.Key.{Key}
use Rattle.hk_base.specs.declared.types.Structure.{Structure}
use Rattle.board_steps.specs.Cores.{Core, state_of, pending}

-- Each pending one-shot is of a structure that is there, and its interval ends with the slot that runs or a later one.
abbrev pub AreShotsAhead : Core → Type 0
AreShotsAhead c =
    (key : Key) (first : ℕ) → pending c key ≡ Some first → (x : Structure) × ((state_of c).structure key ≡ Some x) × (c.slot_now < first + x.def.interval)
