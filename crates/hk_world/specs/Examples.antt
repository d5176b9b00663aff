-- Two worlds, step by step: one in which the board reports a sample, and one in which it is told to report less often.
use Rattle.std.specs.Prelude.{ℕ, List, [], ◌∷◌, true, false, Some, pos}
use Rattle.hk_base.specs.TailoringParts.{TailoringParts}
use Rattle.hk_base.specs.Builtin.{builtin_widths, boot}
use Rattle.hk_base.specs.declared.types.Form.TheVariants.{Unsigned}
use Rattle.hk_base.specs.declared.types.Kind.TheVariants.{Housekeeping}
use Rattle.hk_base.specs.declared.types.Param.{Param}
use Rattle.pus_messages.specs.Messages.{protocol}
use Rattle.hk_world.specs.States.{boot_state}
use Rattle.hk_world.specs.Timelines.{Session}
use Rattle.hk_world.specs.Worlds.{World, send, happen, deliver}
use Rattle.hk_world.specs.declared.moment.Moment.{Moment}
use Rattle.hk_world.specs.declared.moment.Act.TheVariants.{Accepted, Started, Executed, Completed, Emitted, Filed}

-- parameter 7, two octets, which begins as 100
abbrev pub setpoint : Param
setpoint = record { id = 7; form = Unsigned; octets = 2; bits = 16; initial = Some (pos 100) }

-- a tailoring with one parameter, and one structure that reports it in each slot
abbrev pub small : TailoringParts
small = record { widths = builtin_widths; params = setpoint ∷ []; boots = boot Housekeeping 1 1 true (7 ∷ []) [] ∷ [] }

-- a short session that begins in the boot state, with these request packets
abbrev pub session_with : List (List ℕ) → Session
session_with requests = record { protocol = protocol small; known = true; long = false; initial = boot_state small; requests = requests }

-- the parameter had this value in this slot
abbrev pub filed : ℕ → ℕ → Moment
filed tag slot = record { tag = tag; act = Filed 7 slot (pos 100); packet = [] }

-- the packet of a report of structure 1 with its one value, by its time in six octets
abbrev pub report_packet : ℕ → ℕ → List ℕ
report_packet high low = 0x08 ∷ 0x64 ∷ 0xc0 ∷ 0 ∷ 0 ∷ 0x0f ∷ 0x20 ∷ 3 ∷ 25 ∷ 0 ∷ 0 ∷ 0 ∷ 1 ∷ 0 ∷ 0 ∷ 0 ∷ 0 ∷ high ∷ low ∷ 1 ∷ 0 ∷ 100 ∷ []

-- the report of the value in slot 0
abbrev pub first_report : Moment
first_report = record { tag = 4097; act = Emitted; packet = report_packet 0x10 1 }

-- a world in which a value is filed and reported, and the report comes
abbrev pub reporting_world : World
reporting_world = record { session = session_with []; steps = deliver first_report ∷ happen first_report ∷ happen (filed 4096 0) ∷ [] }

-- structure 1 is to be reported in every second slot, and the completion is to be verified
abbrev pub every_second_slot : List ℕ
every_second_slot = 0x18 ∷ 0x64 ∷ 0xc0 ∷ 0 ∷ 0 ∷ 8 ∷ 0x28 ∷ 3 ∷ 31 ∷ 0 ∷ 1 ∷ 1 ∷ 1 ∷ 0 ∷ 2 ∷ []

-- the request is accepted
abbrev pub accepted : Moment
accepted = record { tag = 4096; act = Accepted 0; packet = [] }

-- its execution begins
abbrev pub started : Moment
started = record { tag = 4097; act = Started 0; packet = [] }

-- its one instruction is carried out
abbrev pub executed : Moment
executed = record { tag = 4098; act = Executed 0 1 true; packet = [] }

-- it is completed, which is verified by a report, message type [1,7]
abbrev pub completed : Moment
completed =
    record {
      tag = 4099;
      act = Completed 0 [];
      packet = 0x08 ∷ 0x64 ∷ 0xc0 ∷ 0 ∷ 0 ∷ 0x10 ∷ 0x20 ∷ 1 ∷ 7 ∷ 0 ∷ 0 ∷ 0 ∷ 1 ∷ 0 ∷ 0 ∷ 0 ∷ 0 ∷ 0x10 ∷ 3 ∷ 0x18 ∷ 0x64 ∷ 0xc0 ∷ 0 ∷ [];
    }

-- the report of the value in slot 1, under the new interval
abbrev pub second_report : Moment
second_report = record { tag = 8193; act = Emitted; packet = report_packet 0x20 1 }

-- a world in which a request changes the interval, its completion is known, and a report comes after it
abbrev pub commanded_world : World
commanded_world =
    record {
      session = session_with (every_second_slot ∷ []);
      steps =
          deliver second_report
          ∷ happen second_report
          ∷ happen (filed 8192 1)
          ∷ deliver completed
          ∷ happen completed
          ∷ happen executed
          ∷ happen started
          ∷ happen accepted
          ∷ send 0
          ∷ [];
    }
