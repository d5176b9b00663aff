-- What `show` wrote, as an outcome of the program.
use Rattle.std.proofs.Common.{◌≡◌, ℕ, List, Option, Some, None, Err, sym, ap, refl, ◌∙◌}
use Rattle.std.specs.Prelude.{IfSome}
use Rattle.hk_base.specs.TailoringParts.{TailoringParts}
use Rattle.session_record.specs.declared.entry.RecordFault.{RecordFault}
use Rattle.session_record.specs.declared.entry.RecordFault.TheVariants.{BadMagic, BadKind, Cut, TooLong, TooManyEntries, ReadFault, Memory}
use Rattle.program_edge.specs.Faults.{ByRecord, IsOfRecord}
use Rattle.program_edge.specs.declared.fault.RunFault.{RunFault}
use Rattle.program_edge.specs.declared.fault.RunFault.TheVariants as run
use Rattle.session_texts.specs.declared.problem.RecordProblem.TheVariants.{Format}
use Rattle.record_commands.specs.Showing.{Shows}
use Rattle.hk_replay.specs.Faults.{status_of_fault, status_of_run}
use Rattle.hk_replay.specs.Outcomes.{status_at, show_outcome}
use Rattle.hk_replay.specs.Replay.{HasOutput}
use Rattle.hk_replay.specs.declared.status.ReplayStatus.TheVariants.{Record}

-- a fault of a record's octets is told as it is
of_format : (f : RecordFault) → IsOfRecord f → status_of_fault f ≡ Record (Format f)
of_format BadMagic is = refl
of_format (BadKind kind offset) is = refl
of_format (Cut offset) is = refl
of_format (TooLong offset) is = refl
of_format (TooManyEntries offset) is = refl
of_format ReadFault is = absurd is
of_format Memory is = absurd is

-- how showing ended is how the run ends
shows_output : (t : TailoringParts) (octets : List ℕ) (left before after : Option (List ℕ)) (fault : RunFault) → ByRecord fault → Shows (Err fault) t octets left before after
    → HasOutput (status_of_run fault) (show_outcome t octets) before after
shows_output t octets left before after run.WriteFault causes h = h
shows_output t octets left before after run.ReadFault causes h = h.1
shows_output t octets left before after run.NoMemory causes h = h
shows_output t octets left before after (run.Record f) causes h = (sym (ap status_at h.0 ∙ of_format f causes), h.1)
shows_output t octets left before after (run.Tailoring f) causes h = absurd h
shows_output t octets left before after (run.Line n) causes h = absurd h

pub fault_output : (t : TailoringParts) (rest left before after : Option (List ℕ)) (fault : RunFault) → ByRecord fault → IfSome rest (λ octets. Shows (Err fault) t octets left before after)
    → IfSome rest (λ octets. HasOutput (status_of_run fault) (show_outcome t octets) before after)
fault_output t None left before after fault causes shows = tt
fault_output t (Some octets) left before after fault causes shows = shows_output t octets left before after fault causes shows
