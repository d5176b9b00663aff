-- The session of a script, whose requests are what its lines send.
use Rattle.std.specs.Prelude.{ℕ, Bool, false, List, map, reverse}
use Rattle.std.specs.Option.{option_map_or}
use Rattle.hk_base.specs.TailoringParts.{TailoringParts}
use Rattle.pus_messages.specs.Messages.{protocol}
use Rattle.hk_world.specs.States.{boot_state}
use Rattle.hk_world.specs.Timelines.{Session}
use Rattle.board_scripts.specs.Scripts.{history_behind}
use Rattle.board_scripts.specs.declared.script.Script.{Script}
use Rattle.board_scripts.specs.declared.script.Sending.{Sending}

-- the number of a request is the count in its packet
abbrev pub number_in : TailoringParts → List ℕ → ℕ
number_in t packet = option_map_or (λ h. h.count) ((protocol t).command packet) 0

-- the packets of the requests that some lines sent, by number; the newest line is first
abbrev pub requests_behind : TailoringParts → List Sending → List (List ℕ)
requests_behind t earlier = map (λ r. r.packet) (history_behind t earlier).requests

-- a short session with these requests, from the boot state
abbrev pub session_with : TailoringParts → Bool → List (List ℕ) → Session
session_with t known requests = record { protocol = protocol t; known = known; long = false; initial = boot_state t; requests = requests }

-- the session of a script
abbrev pub session_of : TailoringParts → Script → Session
session_of t s = session_with t s.known (requests_behind t (reverse s.sendings))
