-- What ends the following of a record is what is wrong with the record, or stands alone.
use Rattle.std.proofs.Common.{ℕ, List, Option, Result, Ok, Err}
use Rattle.std.specs.Prelude.{IsSome, OnOk}
use Rattle.program_edge.specs.Inputs.{IsReadOut}
use Rattle.program_edge.proofs.ReaderLemmas.{read_out_since}
use Rattle.ground_history.specs.declared.answer.SentFault.{SentFault}
use Rattle.ground_history.specs.declared.answer.SentFault.TheVariants as sent
use Rattle.session_record.specs.declared.entry.RecordFault.{RecordFault}
use Rattle.session_record.specs.declared.entry.RecordFault.TheVariants as fault
use Rattle.session_record.specs.declared.entry.WriteFault.{WriteFault}
use Rattle.session_record.specs.declared.entry.WriteFault.TheVariants as write
use Rattle.decommutator.specs.declared.fault.FollowFault.{FollowFault}
use Rattle.decommutator.specs.declared.fault.FollowFault.TheVariants.{Sent, Write}
use Rattle.followed_records.specs.Faults.{fault_of_entry, fault_of_following, fault_of_reading, fault_of_writing, ByFollowing}

pub of_reading : (f : RecordFault) → ByFollowing (fault_of_reading f)
of_reading fault.ReadFault = tt
of_reading fault.Memory = tt
of_reading fault.BadMagic = tt
of_reading (fault.BadKind octet offset) = tt
of_reading (fault.Cut offset) = tt
of_reading (fault.TooLong offset) = tt
of_reading (fault.TooManyEntries offset) = tt

pub of_entry : (f : SentFault) (offset : ℕ) → ByFollowing (fault_of_entry f offset)
of_entry sent.Memory offset = tt
of_entry sent.BadRequest offset = tt
of_entry (sent.WrongCount expected found) offset = tt
of_entry (sent.Reused count) offset = tt
of_entry sent.SessionFull offset = tt
of_entry (sent.WindowFull number) offset = tt

pub of_writing : (f : WriteFault) → ByFollowing (fault_of_writing f)
of_writing write.Failed = tt
of_writing write.Memory = tt

pub of_following : (f : FollowFault) (offset : ℕ) → ByFollowing (fault_of_following f offset)
of_following (Sent f) offset = of_entry f offset
of_following (Write f) offset = of_writing f

-- what holds anyway holds on Ok
pub on_any : {T E : Type 0} (r : Result T E) (P : Type 0) → P → OnOk r P
on_any (Ok x) P holds = holds
on_any (Err e) P holds = tt

-- what was read out behind a first entry was read out from the start on
pub on_since : {T E : Type 0} (r : Result T E) (was mid now : Option (List ℕ)) → (IsSome was → IsSome mid) → OnOk r (IsReadOut mid now) → OnOk r (IsReadOut was now)
on_since (Ok x) was mid now told out = read_out_since was mid now told out
on_since (Err e) was mid now told out = tt
