-- What a board holds, and what it means.
use Rattle.std.specs.Prelude.{◌≤◌, ◌^◌, ⊤, ℕ, List, length}
use Rattle.hk_base.specs.declared.types.Key.{Key}
use Rattle.board_steps.specs.Cores.{Core, session}
use Rattle.hk_world.specs.Timelines.{done_instructions}
use Rattle.board_core.specs.Logs.{LogParts}
use Rattle.board_state.specs.Holdings.{AreStructures, one_shots_of}
use Rattle.board_steps.specs.Timeline.{Stands}
use Rattle.board_state.specs.Statistics.{StatisticsHeld, AreStatistics, IsSettled}
use Rattle.board_state.specs.Values.{AreValues}
use Rattle.board_steps.specs.declared.event.Event.{Event}
use Rattle.board_steps.specs.declared.event.Event.TheVariants.{Uplink}
use Rattle.board_state.specs.Waiting.{RequestsHeld, AreWaiting}
use Rattle.board_state.specs.declared.channels.Channel.{Channel}
use Rattle.board_state.specs.declared.running.Running.{Running}
use Rattle.board_state.specs.declared.structures.Held.{Held}

-- the core that a board is
abbrev pub core_of : ℕ → ℕ → RequestsHeld → List (Key × Held) → LogParts → Core
core_of clock slot_now requests held log =
    record {
      tailoring = log.tailoring;
      clock = clock;
      slot_now = slot_now;
      one_shots = one_shots_of held;
      requests = requests.packets;
      moments = log.moments;
    }

-- what is held beside the core is what its moments say
pub record IsBoard (c : Core) (waiting : List Running) : Type 0 where
  pub stands : Stands c
  pub waits : AreWaiting (session c) c.moments waiting
  pub room : length c.moments ≤ 1048576

-- so is what is held of the structures, of the parameters and of the statistics
pub record IsWhole (c : Core) (waiting : List Running) (held : List (Key × Held)) (channels : List (ℕ × Channel)) (kept : StatisticsHeld) : Type 0 where
  pub board : IsBoard c waiting
  pub structures : AreStructures c.tailoring (done_instructions (session c) c.moments) held
  pub values : AreValues (session c) c.moments channels
  pub statistics : AreStatistics (session c) c.moments kept
  pub settled : IsSettled (session c) c.moments

-- an event whose octets, if it has any, are no more than 2^31
abbrev pub IsSmall : Event → Type 0
IsSmall (Uplink packet) = length packet ≤ 2 ^ 31
IsSmall _ = ⊤
