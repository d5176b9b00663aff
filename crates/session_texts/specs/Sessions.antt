-- Sessions: the entries of a record as the ground takes them. Entries stand in the order of the record, except where they are called earlier.
use Rattle.std.specs.Prelude.{ℕ, List, [], ◌∷◌, ◌++◌, filter_map, reverse, Bool, Option, Some, None, Result, Ok, Err, option_map}
use Rattle.std.specs.Option.{option_or}
use Rattle.pus_messages.specs.Protocol.{Protocol}
use Rattle.hk_world.specs.Worlds as worlds
use Rattle.ground_history.specs.Histories.{History, history_of, history_with, sent_answer, got_kind}
use Rattle.ground_history.specs.declared.answer.GotKind.{GotKind}
use Rattle.ground_history.specs.declared.answer.SentFault.{SentFault}
use Rattle.session_record.specs.Records.{Entries, read_record}
use Rattle.session_record.specs.declared.header.Header.{Header}
use Rattle.session_record.specs.declared.entry.Entry.{Entry}
use Rattle.session_record.specs.declared.entry.Entry.TheVariants.{Sent, Got, Line}
use Rattle.session_record.specs.declared.entry.RecordFault.{RecordFault}
use Rattle.session_texts.specs.declared.problem.RecordProblem.{RecordProblem}
use Rattle.session_texts.specs.declared.problem.RecordProblem.TheVariants as problem

-- what the ground takes of an entry: lines of the journal are skipped
abbrev pub seen_entry : Entry → Option worlds.Entry
seen_entry (Sent packet) = Some (worlds.sent packet)
seen_entry (Got packet) = Some (worlds.got packet)
seen_entry (Line text) = None

-- what the ground takes of entries, the newest first
abbrev pub seen : List Entry → List worlds.Entry
seen entries = reverse (filter_map seen_entry entries)

-- what is known after entries
abbrev pub known_after : Protocol → Header → List Entry → History
known_after p h entries = history_of p h.known h.long (seen entries)

-- what is known after one more entry: a line of the journal tells nothing
abbrev pub known_with : Protocol → History → Entry → History
known_with p h (Sent packet) = history_with p h (worlds.sent packet)
known_with p h (Got packet) = history_with p h (worlds.got packet)
known_with p h (Line text) = h

-- what became of each packet that was received, the newest first
abbrev pub kinds_of : Protocol → Header → List worlds.Entry → List GotKind
kinds_of p h [] = []
kinds_of p h (worlds.sent packet ∷ earlier) = kinds_of p h earlier
kinds_of p h (worlds.got packet ∷ earlier) = got_kind p (history_of p h.known h.long earlier) packet ∷ kinds_of p h earlier

-- what became of each packet that was received
abbrev pub kinds_after : Protocol → Header → List Entry → List GotKind
kinds_after p h entries = kinds_of p h (seen entries)

-- what became of each packet that was received, with one more entry
abbrev pub kinds_with : Protocol → History → Entry → List GotKind → List GotKind
kinds_with p h (Sent packet) kinds = kinds
kinds_with p h (Got packet) kinds = got_kind p h packet ∷ kinds
kinds_with p h (Line text) kinds = kinds

-- why a packet can't have been sent at an offset
abbrev pub answer_problem : ℕ → Result Bool SentFault → Option RecordProblem
answer_problem offset (Ok new) = None
answer_problem offset (Err fault) = Some (problem.Entry fault offset)

-- why an entry at an offset can't be taken after what is known
abbrev pub entry_problem : Protocol → History → ℕ → Entry → Option RecordProblem
entry_problem p h offset (Sent packet) = answer_problem offset (sent_answer p h packet)
entry_problem p h offset (Got packet) = None
entry_problem p h offset (Line text) = None

-- the first entry that can't be taken after others
abbrev pub entries_problem : Protocol → Header → List Entry → List (ℕ × Entry) → Option RecordProblem
entries_problem p h earlier [] = None
entries_problem p h earlier ((offset, e) ∷ later) =
    option_or (entry_problem p (known_after p h earlier) offset e) (entries_problem p h (earlier ++ e ∷ []) later)

-- the first problem of what octets are read as: entries that can't be taken stand before the fault after them
abbrev pub problem_of : Protocol → Result (Header × Entries) RecordFault → Option RecordProblem
problem_of p (Err fault) = Some (problem.Format fault)
problem_of p (Ok x) = option_or (entries_problem p x.0 [] x.1.list) (option_map problem.Format x.1.fault)

-- the first problem of a record, by offset
abbrev pub record_problem : Protocol → List ℕ → Option RecordProblem
record_problem p octets = problem_of p (read_record octets)
