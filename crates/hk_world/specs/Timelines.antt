-- Timelines: what has happened on a board, and the state that it leaves. Moments stand with the newest first.
use Rattle.std.specs.Prelude.{ℕ, ⊤, List, [], ◌∷◌, filter, filter_map, slice_get, ℤ, Bool, true, false, ◌&&◌, ◌||◌, ◌==◌, nat_lt, Option, Some, None, option_map, option_and_then, if◌then◌else◌}
use Rattle.std.specs.Option.{option_or, option_map_or}
use Rattle.std.specs.Result.{result_ok}
use Rattle.hk_base.specs.TailoringParts.{TailoringParts}
use Rattle.hk_base.specs.Parameters.{parameter, is_settable}
use Rattle.hk_base.specs.declared.types.Key.{Key}
use Rattle.hk_base.specs.declared.types.Structure.{Structure}
use Rattle.st04_grammar.specs.Instructions.{report, reset}
use Rattle.st04_grammar.specs.declared.bodies.Report04.TheVariants.{Statistics}
use Rattle.pus_messages.specs.Instructions.{Instruction, on_statistics, set_values, instructions, instruction}
use Rattle.pus_messages.specs.Protocol.{Protocol, Reception, readable}
use Rattle.pus_messages.specs.declared.message.Request.{Request}
use Rattle.pus_messages.specs.declared.message.ReportBody.{ReportBody}
use Rattle.pus_messages.specs.declared.message.ReportBody.TheVariants.{Stat}
use Rattle.hk_world.specs.States.{BoardState, structure_left, statistics_left}
use Rattle.hk_world.specs.States as states
use Rattle.hk_world.specs.declared.moment.Moment.{Moment}
use Rattle.hk_world.specs.declared.moment.Act.{Act}
use Rattle.hk_world.specs.declared.moment.Act.TheVariants.{Accepted, TurnedAway, Started, NotStarted, Executed, Completed, Emitted, Filed}

-- R holds of each member and those that were there before it
abbrev pub EachAfter : {X : Type 0} → (List X → X → Type 0) → List X → Type 0
EachAfter R [] = ⊤
EachAfter R (x ∷ earlier) = R earlier x × EachAfter R earlier

-- the first of some answers that is one
abbrev pub first_some : {X Y : Type 0} → (X → Option Y) → List X → Option Y
first_some f [] = None
first_some f (x ∷ xs) = option_or (f x) (first_some f xs)

-- what a timeline rests on: the protocol, whether the start is known, whether counts are used again, the state that it begins with, and the request packets by number
pub record Session : Type 0 where
  pub protocol : Protocol
  pub known : Bool
  pub long : Bool
  pub initial : BoardState
  pub requests : List (List ℕ)

-- the tailoring of a session
abbrev pub tailoring : Session → TailoringParts
tailoring s = s.protocol.tailoring

-- the request with this number, where its packet is one
abbrev pub request_at : Session → ℕ → Option Request
request_at s k = option_and_then (λ packet. result_ok (s.protocol.request packet)) (slice_get s.requests k)

-- the instructions of the request with this number, in order
abbrev pub instructions_at : Session → ℕ → List Instruction
instructions_at s k = option_map_or instructions (request_at s k) []

-- an instruction by the numbers of its request, and its own from 1
abbrev pub instruction_at : Session → ℕ → ℕ → Option Instruction
instruction_at s k number = option_and_then (λ r. instruction r number) (request_at s k)

-- the request that an act is of
abbrev pub request_number : Act → Option ℕ
request_number (Accepted k) = Some k
request_number (TurnedAway k) = Some k
request_number (Started k) = Some k
request_number (NotStarted k) = Some k
request_number (Executed k number flag) = Some k
request_number (Completed k refused) = Some k
request_number Emitted = None
request_number (Filed param slot value) = None

-- whether an act is of a request
abbrev pub is_act_of : ℕ → Act → Bool
is_act_of k act = option_map_or (λ n. n == k) (request_number act) false

-- the last act of a request
abbrev pub last_act : ℕ → List Moment → Option Act
last_act k moments = first_some (λ m. if is_act_of k m.act then Some m.act else None) moments

-- an instruction that was done, with the number of its request
pub record Done : Type 0 where
  pub tag : ℕ
  pub request : ℕ
  pub instruction : Instruction

-- the instruction that an act at a tag did, if it did one
abbrev pub done_by : Session → ℕ → Act → Option Done
done_by s tag (Executed k number true) = option_map (λ x. record { tag = tag; request = k; instruction = x }) (instruction_at s k number)
done_by s tag _ = None

-- the instruction that was done at a moment
abbrev pub done_at : Session → Moment → Option Done
done_at s m = done_by s m.tag m.act

-- the instructions that were done, the newest first
abbrev pub done_instructions : Session → List Moment → List Done
done_instructions s moments = filter_map (done_at s) moments

-- the state of a structure after some instructions
abbrev pub structure_after : TailoringParts → BoardState → List Done → Key → Option Structure
structure_after t initial [] key = initial.structure key
structure_after t initial (d ∷ earlier) key = structure_left t d.instruction key (structure_after t initial earlier key)

-- the statistics after some instructions
abbrev pub statistics_after : BoardState → List Done → states.Statistics
statistics_after initial [] = initial.statistics
statistics_after initial (d ∷ earlier) = statistics_left d.instruction d.tag (statistics_after initial earlier)

-- the value that an act files for a parameter
abbrev pub filed_value : ℕ → Act → Option ℤ
filed_value id (Filed param slot value) = if param == id then Some value else None
filed_value id _ = None

-- the value that an instruction sets a parameter to
abbrev pub set_value : ℕ → Instruction → Option ℤ
set_value id (set_values settings) = first_some (λ x. if x.param == id then Some x.value else None) settings
set_value id _ = None

-- the last value of a parameter: a settable one's was set, a sensed one's was filed
abbrev pub last_value : Session → List Moment → ℕ → Option ℤ
last_value s moments id =
    if option_map_or is_settable (parameter (tailoring s) id) false
    then first_some (λ d. set_value id d.instruction) (done_instructions s moments)
    else first_some (λ m. filed_value id m.act) moments

-- whether a body is that of a statistics report, message type [4,2]
abbrev pub is_statistics_body : ReportBody → Bool
is_statistics_body (Stat (Statistics r)) = true
is_statistics_body _ = false

-- whether a packet is a statistics report
abbrev pub is_statistics_packet : Reception → Bool
is_statistics_packet (readable r) = is_statistics_body r.body
is_statistics_packet _ = false

-- whether an instruction resets the statistics
abbrev pub is_reset : Instruction → Bool
is_reset (on_statistics reset) = true
is_reset _ = false

-- whether an instruction orders a statistics report and resets the statistics
abbrev pub is_resetting_report : Instruction → Bool
is_resetting_report (on_statistics (report true)) = true
is_resetting_report _ = false

-- whether the newest moment is that of a done instruction that passes a test
abbrev pub newest_did : (Instruction → Bool) → Session → List Moment → Bool
newest_did test s [] = false
newest_did test s (m ∷ earlier) = option_map_or (λ d. test d.instruction) (done_at s m) false

-- whether the newest moment starts the statistics anew: a reset, or the report of an instruction that resets
abbrev pub restarts : Session → List Moment → Bool
restarts s [] = false
restarts s (m ∷ earlier) =
    newest_did is_reset s (m ∷ earlier) || (is_statistics_packet (s.protocol.reception m.packet) && newest_did is_resetting_report s earlier)

-- the tag that the statistics start from
abbrev pub start_after : Session → List Moment → ℕ
start_after s [] = s.initial.start
start_after s (m ∷ earlier) = if restarts s (m ∷ earlier) then m.tag else start_after s earlier

-- the state after some moments
abbrev pub state_after : Session → List Moment → BoardState
state_after s moments =
    record {
      structure = structure_after (tailoring s) s.initial (done_instructions s moments);
      value = λ id. option_or (last_value s moments id) (s.initial.value id);
      statistics = statistics_after s.initial (done_instructions s moments);
      start = start_after s moments;
    }

-- the moments below a tag
abbrev pub moments_before : ℕ → List Moment → List Moment
moments_before tag moments = filter (λ m. nat_lt m.tag tag) moments

-- the state at a tag: that after the moments below it
abbrev pub state_at : Session → List Moment → ℕ → BoardState
state_at s moments tag = state_after s (moments_before tag moments)
