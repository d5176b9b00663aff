-- What a run comes to by what its inputs hold: a text, or the reason why there is none.
use Rattle.std.specs.Prelude.{ℕ, List, [], map, Option, Some, None, Result, Ok, Err}
use Rattle.hk_base.specs.TailoringParts.{TailoringParts}
use Rattle.pus_messages.specs.Protocol.{Protocol}
use Rattle.pus_messages.specs.Messages.{protocol}
use Rattle.session_record.specs.Records.{Entries, read_record, record_fault}
use Rattle.session_record.specs.declared.header.Header.{Header}
use Rattle.session_record.specs.declared.entry.RecordFault.{RecordFault}
use Rattle.session_texts.specs.Sessions.{record_problem}
use Rattle.session_texts.specs.Texts.{text}
use Rattle.session_texts.specs.declared.problem.RecordProblem.{RecordProblem}
use Rattle.record_commands.specs.Trimming.{trimmed_octets}
use Rattle.record_commands.specs.Showing.{show_text}
use Rattle.record_commands.specs.Encoding.{encoded}
use Rattle.hk_replay.specs.Generating.{numbers_text}
use Rattle.followed_records.specs.Told.{told, told_text}
use Rattle.hk_replay.specs.Words.{RecordCommand, replay, follow, show}
use Rattle.hk_replay.specs.Faults.{status_of_fault}
use Rattle.hk_replay.specs.declared.status.ReplayStatus.{ReplayStatus}
use Rattle.hk_replay.specs.declared.status.ReplayStatus.TheVariants.{Done, Record, Text}

-- What a run comes to, if all goes well: a text that is written when it is whole; the status by which it ends without one; or lines that are written as they are made, and the status by which it ends after the last of them.
pub data Outcome : Type 0 where
  written : List ℕ → Outcome
  stopped : ReplayStatus → Outcome
  listed : List ℕ → ReplayStatus → Outcome

-- a text, where nothing is wrong with the record
abbrev pub unless_problem : Option RecordProblem → List ℕ → Outcome
unless_problem None text = written text
unless_problem (Some problem) text = stopped (Record problem)

-- the text of the session that octets are read as
abbrev pub session_text : Protocol → Result (Header × Entries) RecordFault → List ℕ
session_text p (Err fault) = []
session_text p (Ok x) = text p x.0 (map (λ e. e.1) x.1.list)

-- the outcome of `replay` on octets that are to be a record: the text of its session, or the first problem of the record
unfoldable pub replay_outcome : TailoringParts → List ℕ → Outcome
replay_outcome t octets = unless_problem (record_problem (protocol t) octets) (session_text (protocol t) (read_record octets))

-- the octets that were given, or the status by which a run ends without them
abbrev pub given_outcome : Result (List ℕ) RecordFault → Outcome
given_outcome (Ok octets) = written octets
given_outcome (Err fault) = stopped (status_of_fault fault)

-- the outcome of `trim` on octets: the header and every whole entry up to the end or a cut, or the first other fault
abbrev pub trim_outcome : List ℕ → Outcome
trim_outcome octets = given_outcome (trimmed_octets octets)

-- how a run ends at the end of a record, or at its first fault
abbrev pub status_at : Option RecordFault → ReplayStatus
status_at None = Done
status_at (Some fault) = status_of_fault fault

-- the outcome of `show` on octets: a line for each entry before the first fault
abbrev pub show_outcome : TailoringParts → List ℕ → Outcome
show_outcome t octets = listed (show_text t octets) (status_at (record_fault octets))

-- how a run ends at the end of a record, or at its first problem
abbrev pub status_of_problem : Option RecordProblem → ReplayStatus
status_of_problem None = Done
status_of_problem (Some problem) = Record problem

-- the outcome of `follow` on octets: what is written after each entry before the first problem, and at the end where there is none
abbrev pub follow_outcome : TailoringParts → List ℕ → Outcome
follow_outcome t octets = listed (told_text (told t octets)) (status_of_problem (told t octets).problem)

-- the outcome of what is done with a record
abbrev pub record_outcome : RecordCommand → TailoringParts → List ℕ → Outcome
record_outcome replay t octets = replay_outcome t octets
record_outcome follow t octets = follow_outcome t octets
record_outcome show t octets = show_outcome t octets

-- a record that was made, or the number of the line that is refused
abbrev pub made_outcome : Result (List ℕ) ℕ → Outcome
made_outcome (Ok octets) = written octets
made_outcome (Err line) = stopped (Text line)

-- the outcome of `encode` on a file of lines: a record with known start, with a Sent entry for each line, or the first line that is refused
abbrev pub encode_outcome : TailoringParts → List ℕ → Outcome
encode_outcome t file = made_outcome (encoded t file)

-- the outcome of `generate`: the numbers of the session that is made
abbrev pub generate_outcome : ℕ → ℕ → Outcome
generate_outcome seed rounds = written (numbers_text seed rounds)

-- what is written of an outcome, if all goes well
abbrev pub outcome_text : Outcome → List ℕ
outcome_text (written text) = text
outcome_text (stopped status) = []
outcome_text (listed text status) = text
