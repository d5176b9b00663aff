-- What a board is to do next: its acts and reports, read off the state, in order.
use Rattle.std.specs.Prelude.{ℕ, ◌+◌, ◌-◌, ◌*◌, ◌^◌, max, List, [], ◌∷◌, ◌++◌, length, replicate, map, filter, find, take, pos, Bool, false, ◌&&◌, ◌==◌, nat_le, Option, Some, None, is_some, is_none, unwrap_or, if◌then◌else◌}
use Rattle.std.specs.List.{range_with_len}
use Rattle.std.specs.Option.{option_map_or, option_and_then}
use Rattle.hk_base.specs.TailoringParts.{TailoringParts}
use Rattle.hk_base.specs.Parameters.{is_settable}
use Rattle.hk_base.specs.declared.types.Key.{Key}
use Rattle.hk_base.specs.declared.types.Kind.TheVariants.{Housekeeping, Diagnostic}
use Rattle.hk_base.specs.declared.types.Param.{Param}
use Rattle.pus_packet.specs.declared.header.TcHeader.{TcHeader}
use Rattle.st03_grammar.specs.Instructions.{StructureChange, key_of, plain}
use Rattle.st03_grammar.specs.declared.bodies.Each.TheVariants.{Show, ShowPeriodic}
use Rattle.st04_grammar.specs.Instructions.{StatisticsChange, report, show_definitions}
use Rattle.pus_messages.specs.Instructions.{Instruction, on_structure, on_statistics, report_values}
use Rattle.hk_world.specs.States.{refusal}
use Rattle.hk_world.specs.Timelines.{Session, Done, tailoring, request_at, instructions_at, instruction_at, last_act, done_by, state_after}
use Rattle.hk_world.specs.Legal.{is_pending, refused_numbers}
use Rattle.hk_world.specs.declared.moment.Moment.{Moment}
use Rattle.hk_world.specs.declared.moment.Act.{Act}
use Rattle.hk_world.specs.declared.moment.Act.TheVariants.{Accepted, TurnedAway, Started, NotStarted, Executed, Completed, Filed}
use Rattle.board_steps.specs.Cores.{Core, session, state_of, pending, next_tag}
use Rattle.board_steps.specs.Slots.{is_due, is_spent, is_statistics_due, is_complete, one_shot_left}
use Rattle.board_steps.specs.declared.event.Event.{Event}
use Rattle.board_steps.specs.declared.event.Event.TheVariants.{Uplink, Clock, Work, Filing, CloseSlot}

-- what a report that isn't a verification report is about: message types [3,25] and [3,26], [3,10] and [3,12], [3,35] and [3,36], [4,2], [4,9], [20,2]
pub data Topic : Type 0 where
  samples_of : Key → Topic
  structure_of : Key → Topic
  properties_of : Key → Topic
  statistics : Topic
  definitions : Topic
  values_of : List ℕ → Topic

-- a moment that is to come: an act of a request or a filing, or a report
pub data Plan : Type 0 where
  does : Act → Plan
  tells : Topic → Plan

-- the report that a change of a structure orders
abbrev pub structure_topics : Key → StructureChange → List Topic
structure_topics key (plain Show) = structure_of key ∷ []
structure_topics key (plain ShowPeriodic) = properties_of key ∷ []
structure_topics key _ = []

-- the report that a change of the statistics orders
abbrev pub statistics_topics : StatisticsChange → List Topic
statistics_topics (report resets) = statistics ∷ []
statistics_topics show_definitions = definitions ∷ []
statistics_topics _ = []

-- the report that an instruction orders
abbrev pub ordered_topics : Instruction → List Topic
ordered_topics (on_structure key change) = structure_topics key change
ordered_topics (on_statistics change) = statistics_topics change
ordered_topics (report_values ids) = values_of ids ∷ []
ordered_topics _ = []

-- whether the count and the sender of a packet are those of a request that is handled
abbrev pub is_handled : Core → TcHeader → Bool
is_handled c h =
    h.apid == c.tailoring.widths.apid && (h.source == c.tailoring.widths.ground && nat_le (length c.requests) h.count)

-- the number under which a packet is handled; none where it is discarded
abbrev pub handled_as : Core → List ℕ → Option ℕ
handled_as c packet =
    option_and_then (λ h. if is_handled c h then Some h.count else None) ((session c).protocol.command packet)

-- the packets of requests with one more, which has this number
abbrev pub with_request : List (List ℕ) → ℕ → List ℕ → List (List ℕ)
with_request requests k packet = requests ++ (replicate (k - length requests) [] ++ packet ∷ [])

-- the tag at which the slot that runs ends
abbrev pub end_of_slot : Core → ℕ
end_of_slot c = (c.slot_now + 1) * c.tailoring.widths.slot

-- the core as an event finds it: with a packet that is handled, and with the clock set
abbrev pub prepared : Core → Event → Core
prepared c (Uplink packet) = option_map_or (λ k. record c { requests = with_request c.requests k packet }) (handled_as c packet) c
prepared c (Clock tag) = record c { clock = max c.clock tag }
prepared c CloseSlot = record c { clock = max c.clock (end_of_slot c) }
prepared c _ = c

-- a packet with this number is accepted where it is a request, and else turned away
abbrev pub handling : Session → ℕ → Act
handling s k = if is_some (request_at s k) then Accepted k else TurnedAway k

-- the request that is worked on: the first that was accepted and hasn't ended
abbrev pub worked_request : Core → Option ℕ
worked_request c = find (λ k. is_pending (last_act k c.moments)) (range_with_len 0 (length c.requests))

-- whether a request has one instruction, which is refused
abbrev pub is_barred : Session → List Moment → List Instruction → Bool
is_barred s earlier (x ∷ []) = is_some (refusal (tailoring s) (state_after s earlier) x)
is_barred s earlier _ = false

-- the execution of an instruction, which is done unless it is refused
abbrev pub execution : Session → List Moment → ℕ → ℕ → Act
execution s earlier k number =
    Executed k number (option_map_or (λ x. is_none (refusal (tailoring s) (state_after s earlier) x)) (instruction_at s k number) false)

-- the act of a request that comes after its last one
abbrev pub next_acts : Session → List Moment → ℕ → Option Act → List Act
next_acts s earlier k (Some (Accepted _)) = (if is_barred s earlier (instructions_at s k) then NotStarted k else Started k) ∷ []
next_acts s earlier k (Some (Started _)) = execution s earlier k 1 ∷ []
next_acts s earlier k (Some (Executed _ last _)) =
    (if last == length (instructions_at s k) then Completed k (refused_numbers k earlier) else execution s earlier k (last + 1)) ∷ []
next_acts s earlier k _ = []

-- the next act of the request that is worked on
abbrev pub worked_acts : Core → List Act
worked_acts c = option_map_or (λ k. next_acts (session c) c.moments k (last_act k c.moments)) (worked_request c) []

-- the instructions that some acts do at a tag
abbrev pub done_of : Session → ℕ → List Act → List Done
done_of s tag [] = []
done_of s tag (act ∷ acts) = option_map_or (λ d. d ∷ done_of s tag acts) (done_by s tag act) (done_of s tag acts)

-- the instruction that is done where the core works on
abbrev pub worked_done : Core → List Done
worked_done c = done_of (session c) (next_tag c.clock c.moments) (worked_acts c)

-- the reports that done instructions order
abbrev pub topics_of : List Done → List Topic
topics_of [] = []
topics_of (d ∷ done) = ordered_topics d.instruction ++ topics_of done

-- the settable parameters, in order
abbrev pub settables : TailoringParts → List Param
settables t = filter is_settable t.params

-- the value of a settable parameter is filed for the slot that runs
abbrev pub own_filing : Core → Param → Act
own_filing c p = Filed p.id c.slot_now (unwrap_or ((state_of c).value p.id) (pos 0))

-- the keys of one kind, and all keys, in order
abbrev pub every_key : TailoringParts → List Key
every_key t =
    map (key_of Housekeeping) (range_with_len 0 (256 ^ t.widths.structure_octets))
    ++ map (key_of Diagnostic) (range_with_len 0 (256 ^ t.widths.structure_octets))

-- whether a structure is due in the slot that runs, and each of its places has a sample
abbrev pub is_reported : Core → Key → Bool
is_reported c key = option_map_or (λ x. is_due c key x && is_complete c x.def) ((state_of c).structure key) false

-- the reports that are due: those of structures in the order of keys, then the statistics
abbrev pub due_topics : Core → List Topic
due_topics c = map samples_of (filter (is_reported c) (every_key c.tailoring)) ++ (if is_statistics_due c then statistics ∷ [] else [])

-- how many tags are left for reports, behind the filings: those before the end of the slot after the one that runs
abbrev pub tags_left : Core → ℕ
tags_left c = (c.slot_now + 2) * c.tailoring.widths.slot - (next_tag c.clock c.moments + length (settables c.tailoring))

-- what comes at the end of a slot
abbrev pub closing : Core → List Plan
closing c = map (λ p. does (own_filing c p)) (settables c.tailoring) ++ map tells (take (tags_left c) (due_topics c))

-- what comes after an event, of the core as the event finds it
abbrev pub planned_for : Core → Core → Event → List Plan
planned_for c p (Uplink packet) = option_map_or (λ k. does (handling (session p) k) ∷ []) (handled_as c packet) []
planned_for c p (Clock tag) = []
planned_for c p Work = map does (worked_acts p) ++ map tells (topics_of (worked_done p))
planned_for c p (Filing x) = does (Filed x.param x.slot x.value) ∷ []
planned_for c p CloseSlot = closing p

-- what comes after an event
abbrev pub planned : Core → Event → List Plan
planned c event = planned_for c (prepared c event) event

-- what the instruction that is done leaves of the one-shot of a structure
abbrev pub one_shot_by : Core → Key → List Done → Option ℕ
one_shot_by c key [] = pending c key
one_shot_by c key (d ∷ done) = one_shot_left c.tailoring d key (pending c key)

-- the one-shot of a structure after an event
abbrev pub one_shot_after : Core → Event → Key → Option ℕ
one_shot_after c Work key = one_shot_by c key (worked_done c)
one_shot_after c CloseSlot key =
    if option_map_or (is_spent c key) ((state_of c).structure key) false then None else pending c key
one_shot_after c _ key = pending c key

-- the slot that runs after an event
abbrev pub slot_after_event : Core → Event → ℕ
slot_after_event c CloseSlot = c.slot_now + 1
slot_after_event c _ = c.slot_now
