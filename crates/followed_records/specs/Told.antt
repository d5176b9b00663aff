-- What comes of a record that is followed: what is written after each entry, what is written at the end, and the first problem.
use Rattle.std.specs.Prelude.{ℕ, List, [], ◌∷◌, ◌++◌, map, reverse, Option, Some, None, Result, Ok, Err}
use Rattle.hk_base.specs.TailoringParts.{TailoringParts}
use Rattle.pus_messages.specs.Protocol.{Protocol}
use Rattle.pus_messages.specs.Messages.{protocol}
use Rattle.session_record.specs.Records.{Entries, read_record}
use Rattle.session_record.specs.declared.header.Header.{Header}
use Rattle.session_record.specs.declared.entry.Entry.{Entry}
use Rattle.session_record.specs.declared.entry.RecordFault.{RecordFault}
use Rattle.session_texts.specs.Sessions.{known_after, entry_problem, problem_of}
use Rattle.session_texts.specs.Follow.{followed, follow_end}
use Rattle.session_texts.specs.declared.problem.RecordProblem.{RecordProblem}
use Rattle.session_texts.specs.declared.problem.RecordProblem.TheVariants.{Format}

-- What is written after each of the entries before the first problem, what is written at the end, and that problem. With a problem nothing is written at the end.
pub record Told : Type 0 where
  pub blocks : List ℕ
  pub ending : List ℕ
  pub problem : Option RecordProblem

-- all that is written
abbrev pub told_text : Told → List ℕ
told_text x = x.blocks ++ x.ending

-- nothing is written, for a problem
abbrev pub told_problem : RecordProblem → Told
told_problem problem = record { blocks = []; ending = []; problem = Some problem }

-- some entries, or more of them where there is no problem
abbrev pub taken_by : Option RecordProblem → List Entry → List Entry → List Entry
taken_by None earlier more = more
taken_by (Some problem) earlier more = earlier

-- entries with those after them up to the first that can't be taken
abbrev pub taken_entries : Protocol → Header → List Entry → List (ℕ × Entry) → List Entry
taken_entries p h earlier [] = earlier
taken_entries p h earlier ((offset, e) ∷ later) =
    taken_by (entry_problem p (known_after p h earlier) offset e) earlier (taken_entries p h (earlier ++ e ∷ []) later)

-- What comes of entries after others, by the first problem: without one all that is written of all of them, and else what is written after each entry before it.
abbrev pub told_until : Protocol → Header → List Entry → List (ℕ × Entry) → Option RecordProblem → Told
told_until p h earlier list None =
    let all = reverse (earlier ++ map (λ x. x.1) list) in
    record { blocks = followed p h all; ending = follow_end p h all; problem = None }
told_until p h earlier list (Some problem) =
    record { blocks = followed p h (reverse (taken_entries p h earlier list)); ending = []; problem = Some problem }

-- what comes of what octets are read as
abbrev pub told_of : Protocol → Result (Header × Entries) RecordFault → Told
told_of p (Err fault) = told_problem (Format fault)
told_of p (Ok x) = told_until p x.0 [] x.1.list (problem_of p (Ok x))

-- what comes of octets that are to be a record
unfoldable pub told : TailoringParts → List ℕ → Told
told t octets = told_of (protocol t) (read_record octets)
