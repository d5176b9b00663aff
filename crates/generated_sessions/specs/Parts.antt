-- The parts of a session's tailoring, and of what it reports.
use Rattle.std.specs.Prelude.{ℕ, List, ⊤, Result, Ok, Err}
use Rattle.hk_base.specs.Builtin.{sensed}
use Rattle.hk_base.specs.declared.types.Form.TheVariants.{Unsigned}
use Rattle.hk_base.specs.declared.types.Param.{Param}
use Rattle.hk_base.specs.declared.types.Definition.{Definition}
use Rattle.pus_packet.specs.declared.header.TmHeader.{TmHeader}
use Rattle.pus_packet.specs.declared.header.JoinFault.{JoinFault}
use Rattle.pus_packet.specs.declared.header.JoinFault.TheVariants.{TooLong, Memory}
use Rattle.st01_reports.specs.Spelling.{IsRequestId}
use Rattle.st01_reports.specs.declared.verification.Verification.{Verification}
use Rattle.st01_reports.specs.declared.verification.Verification.TheVariants.{Accepted, Started, Completed}
use Rattle.generated_sessions.specs.Generated.{made_simple, made_arrays}

-- a parameter of the session
abbrev pub made_param : ℕ → Param
made_param id = sensed id Unsigned 2

-- the definition of a structure with an interval
abbrev pub definition_with : ℕ → ℕ → Definition
definition_with s interval = record { interval = interval; simple = made_simple s; arrays = made_arrays s }

-- a report of success that says no more than which request it verifies
abbrev pub IsPlain : Verification → Type 0
IsPlain (Accepted id) = IsRequestId id
IsPlain (Started id) = IsRequestId id
IsPlain (Completed id) = IsRequestId id
IsPlain _ = ⊥

-- the headers of a report with a tag, of a service and a subtype
abbrev pub header_with : ℕ → ℕ → ℕ → TmHeader
header_with tag service subtype =
    record { apid = 100; count = 0; status = 0; service = service; subtype = subtype; counter = 0; destination = 1; tag = tag }

-- what was to be written isn't too long for a packet
abbrev pub IsNotTooLong : Result (List ℕ) JoinFault → Type 0
IsNotTooLong (Ok packet) = ⊤
IsNotTooLong (Err (TooLong size)) = ⊥
IsNotTooLong (Err Memory) = ⊤
