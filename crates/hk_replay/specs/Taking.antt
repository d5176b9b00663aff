-- Entries as they are taken one after the other, after what stands for those before them.
use Rattle.std.specs.Prelude.{◌≡◌, ◌<◌, ◌≤◌, ◌^◌, ℕ, List, [], ◌∷◌, length, Option, Some, None, IfSome, Result, Ok, Err}
use Rattle.session_record.specs.Records.{Entries, held_octets, most_entries}
use Rattle.session_record.specs.declared.header.Header.{Header}
use Rattle.session_record.specs.declared.entry.Entry.{Entry}
use Rattle.session_record.specs.declared.entry.RecordFault.{RecordFault}
use Rattle.ground_history.specs.declared.answer.SentFault.{SentFault}
use Rattle.session_texts.specs.declared.problem.RecordProblem.TheVariants as problem
use Rattle.decommutator.specs.Standing.{Standing, with_entry, entry_answer, standing_text}
use Rattle.program_edge.specs.Inputs.{IsReadOut}
use Rattle.hk_replay.specs.Outcomes.{Outcome, written, stopped}
use Rattle.hk_replay.specs.Replay.{EndsWith}
use Rattle.hk_replay.specs.declared.status.ReplayStatus.{ReplayStatus}
use Rattle.hk_replay.specs.declared.status.ReplayStatus.TheVariants.{Record}

-- the outcome at the end of the entries, or at the fault behind them
abbrev pub end_outcome : Standing → Option RecordFault → Outcome
end_outcome s None = written (standing_text s)
end_outcome s (Some fault) = stopped (Record (problem.Format fault))

-- the outcome at an entry that was so answered: that of the rest, or why it can't be taken
abbrev pub answered_outcome : ℕ → Result Unit SentFault → Outcome → Outcome
answered_outcome offset (Ok done) rest = rest
answered_outcome offset (Err fault) rest = stopped (Record (problem.Entry fault offset))

-- the outcome of entries up to a fault, if there is one
abbrev pub entries_outcome : Standing → List (ℕ × Entry) → Option RecordFault → Outcome
entries_outcome s [] fault = end_outcome s fault
entries_outcome s ((offset, e) ∷ later) fault = answered_outcome offset (entry_answer s e) (entries_outcome (with_entry s e) later fault)

-- the outcome of what is still to come
abbrev pub rest_outcome : Standing → Result (Header × Entries) RecordFault → Outcome
rest_outcome s (Err fault) = stopped (Record (problem.Format fault))
rest_outcome s (Ok x) = entries_outcome s x.1.list x.1.fault

-- the outcome of the first entry, if there is one, and of what is still to come after it
abbrev pub first_outcome : Standing → Option (ℕ × Entry) → Result (Header × Entries) RecordFault → Outcome
first_outcome s None rest = written (standing_text s)
first_outcome s (Some x) rest = answered_outcome x.0 (entry_answer s x.1) (rest_outcome (with_entry s x.1) rest)

-- an entry isn't too long, and with it there are no more entries than a record has
abbrev pub FitsNext : Option (ℕ × Entry) → ℕ → Type 0
FitsNext first others = IfSome first (λ x. (length (held_octets x.1) ≤ 2 ^ 31) × (others < most_entries))

-- an entry was taken, or the run ends by it whatever follows
abbrev pub Takes : Result Unit ReplayStatus → ℕ → Entry → Standing → Standing → Type 0
Takes (Ok done) offset e before after = (entry_answer before e ≡ Ok tt) × (after ≡ with_entry before e)
Takes (Err status) offset e before after = (rest : Outcome) → EndsWith status (answered_outcome offset (entry_answer before e) rest)

-- all entries that were to come were taken, or the run ends by the outcome of what was to come
abbrev pub TakesRest : Result Unit ReplayStatus → Standing → Outcome → Type 0
TakesRest (Ok done) after outcome = outcome ≡ written (standing_text after)
TakesRest (Err status) after outcome = EndsWith status outcome

-- behind a first entry the input was read to its end; where there was none, it had been
abbrev pub IsReadOutAfter : Option (ℕ × Entry) → Option (List ℕ) → Option (List ℕ) → Type 0
IsReadOutAfter None before now = now ≡ before
IsReadOutAfter (Some x) before now = IsReadOut before now
